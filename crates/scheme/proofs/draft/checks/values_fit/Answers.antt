use Rattle.std.proofs.Common.{ℕ, Option, ◌∙◌, arith, rules, tests}
use Rattle.std.proofs.lemmas.Bool.Decides.{nat_tests}
use Rattle.std.proofs.lemmas.Iterator.{YieldsList-from_slice, YieldsList-from_zip}
use Rattle.std.proofs.lemmas.Iterator.Search.{all_from_yields_List}
use Rattle.scheme.specs.declared.entries.Attribute.{Attribute}
use Rattle.scheme.specs.WellFormed.{value_fits}
use Rattle.scheme.proofs.Fits.{all_values, values_of_other_count}
use Rattle.scheme.proofs.draft.checks.values_fit.Goals as goal

pub returns-then-values-attributes : goal.returns-then-values-attributes
returns-then-values-attributes c =
    all_from_yields_List (λ (p : Attribute × Option ℕ). value_fits p.0.size p.1) c.all.new.self _ c.all.result c.all.ensures.ran (YieldsList-from_zip (YieldsList-from_slice c.args.attributes.now cc) (YieldsList-from_slice c.args.values.now cc)) (λ x b q k. search (rules, tests))
    ∙ all_values (λ (a : Attribute). a.size) c.args.attributes.now c.args.values.now c.if-values-attributes.true

pub returns-else-values-attributes : goal.returns-else-values-attributes
returns-else-values-attributes c =
    grind (arith, nat_tests, values_of_other_count (λ (a : Attribute). a.size) c.args.attributes.now c.args.values.now c.if-values-attributes.false)

use Rattle.std.proofs.Common.{map, ◌∙◌, rules, tests}
use Rattle.std.proofs.lemmas.Iterator.{YieldsList-from_slice}
use Rattle.std.proofs.lemmas.Iterator.Search.{all_from_yields_List}
use Rattle.bounded.specs.Items.{items}
use Rattle.scheme.specs.declared.entries.Attribute.{Attribute}
use Rattle.scheme.specs.declared.entries.Object.{Object}
use Rattle.scheme.specs.WellFormed.{values_fit}
use Rattle.scheme.proofs.Fits.{all_objects}
use Rattle.scheme.proofs.draft.checks.objects_fit.Goals as goal

pub returns : goal.returns
returns c =
    let ks = map (λ (a : Attribute). a.size) c.args.attributes.now in
    all_from_yields_List (λ (o : Object). values_fit ks (items o.values)) _ _ c.all.result c.all.ensures.ran (YieldsList-from_slice c.args.objects.now cc) (λ x b q k. search (rules, tests))
    ∙ all_objects ks c.args.objects.now

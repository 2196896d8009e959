use Rattle.std.proofs.Common.{ltb, ◌∙◌, rules, tests}
use Rattle.std.proofs.lemmas.Iterator.{YieldsList-from_slice}
use Rattle.std.proofs.lemmas.Iterator.Search.{all_from_yields_List}
use Rattle.scheme.specs.declared.entries.Policy.{Policy}
use Rattle.scheme.proofs.Fits.{all_rights}
use Rattle.scheme.proofs.draft.checks.rights_fit.Goals as goal

pub returns : goal.returns
returns c =
    all_from_yields_List (λ (p : Policy). ltb p.right c.args.rights) _ _ c.all.result c.all.ensures.ran (YieldsList-from_slice c.args.policies.now cc) (λ x b q k. search (rules, tests))
    ∙ all_rights c.args.rights c.args.policies.now

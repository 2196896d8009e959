use Rattle.std.proofs.Common.{rules, tests}
use Rattle.std.proofs.lemmas.Iterator.{YieldsList-from_slice}
use Rattle.std.proofs.lemmas.Iterator.Search.{all_from_yields_List}
use Rattle.enforcement.specs.Predicates.{holds_on}
use Rattle.enforcement.specs.Meanings.{subject_values, object_values}
use Rattle.enforcement.proofs.parties.CodedPair.all_hold.Goals as goal

pub returns : goal.returns
returns c =
    let p = c.args.self.now in
    all_from_yields_List (λ q. holds_on q (subject_values p) (object_values p)) _ _ _ c.all.ensures.ran
    (YieldsList-from_slice c.args.predicates.now cc) (λ x b q k. search (rules, tests))

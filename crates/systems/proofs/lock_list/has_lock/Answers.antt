-- A permission is listed if some lock is the same.
use Rattle.std.proofs.Common.{◌∙◌, rules}
use Rattle.std.proofs.lemmas.Iterator.{YieldsList-from_slice}
use Rattle.std.proofs.lemmas.Iterator.Search.{any_from_yields_List}
use Rattle.protection.specs.Permissions.{same}
use Rattle.systems.proofs.Listed.{listed_any}
use Rattle.systems.proofs.lock_list.has_lock.Goals as goal

pub returns : goal.returns
returns c =
    any_from_yields_List (λ q. same q c.args.p) c.any.new.self _ c.any.result c.any.ensures.ran
    (YieldsList-from_slice c.args.locks.now cc) (λ x b q k. search rules)
    ∙ listed_any c.args.locks.now c.args.p

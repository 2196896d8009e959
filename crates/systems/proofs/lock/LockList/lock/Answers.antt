-- What is listed is what is said of it, and the locks that are left hold.
use Rattle.bounded.proofs.Lengths.{length_items}
use Rattle.walk.specs.Walks.{Walk}
use Rattle.protection.specs.Systems.{Labels}
use Rattle.systems.specs.LockLists.{locks_of}
use Rattle.systems.specs.LockLaws.{locked_bounds}
use Rattle.systems.specs.Refusals.{lock_refusal_values}
use Rattle.protection.specs.Refusals.{numbered}
use Rattle.systems.proofs.LocksHeld.{locks_hold}
use Rattle.systems.proofs.LockCall.{lists_it}
use Rattle.systems.proofs.lock.LockList.lock.Goals as goal

pub returns-clause-lists_the_permission : goal.returns-clause-lists_the_permission
returns-clause-lists_the_permission g c =
    let old = c.args.self.now in
    lists_it (g.S.Walk.model old.system) (g.S.System.labels old.system) (locks_of old) (length_items 16 old.locks) c.args.p
    (numbered lock_refusal_values c.list.result) (locks_of c.list.new.self) c.list.ensures.answer c.list.ensures.after

pub returns-clause-locks_hold : goal.returns-clause-locks_hold
returns-clause-locks_hold g c =
    let walk : Walk = g.S.Walk.model c.list.new.self.system in
    let labels : Labels = g.S.System.labels c.list.new.self.system in
    locks_hold (locks_of c.list.new.self) walk labels (g.met.S.Walk.bounds c.list.new.self.system)
    (locked_bounds (locks_of c.list.new.self) walk labels (g.met.S.Walk.bounds c.list.new.self.system))

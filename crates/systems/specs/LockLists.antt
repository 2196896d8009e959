-- What a lock list has listed.
use Rattle.std.specs.Prelude.{List}
use Rattle.bounded.specs.Items.{items}
use Rattle.protection.specs.declared.permission.Permission.{Permission}
use Rattle.systems.specs.declared.lock.LockList.{LockList}

abbrev pub locks_of : {S : Type 0} → LockList S → List Permission
locks_of l = items l.locks

-- The three numbers of a move are in the list.
use Rattle.std.specs.Prelude.{◌≡◌, ℕ, ◌+◌, ◌*◌, ◌<◌, true, length}
use Rattle.std.proofs.Common.{arith}
use Rattle.systems.specs.Tables.{Table, accepts}
use Rattle.systems.specs.TableNumbers.{table_of}
use Rattle.systems.specs.TableLaws.{accepted_parts, lengths_match}
use Rattle.systems.proofs.table_system.TableSystemSystem.label.Goals as goal

labels_long : (t : Table) → accepts t ≡ true → (m : ℕ) → m < t.moves → 3 * m + 2 < length t.labels
labels_long t ok m hm =
    let l = lengths_match t.states t.moves (length t.labels) (length t.entries) (accepted_parts t ok).lengths in
    omega arith

pub label_at-requires : goal.label_at-requires
label_at-requires c =
    labels_long (table_of c.args.self.now.numbers) c.args.self.now.accepted c.args.mv c.if-mv-self.false

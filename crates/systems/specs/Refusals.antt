-- The numbers of the refusals of tables and locks, and the values that they carry.
use Rattle.std.specs.Prelude.{ℕ, [], ◌∷◌}
use Rattle.protection.specs.Refusals.{Refused, refused}
use Rattle.systems.specs.declared.refusals.TableRefusal.{TableRefusal}
use Rattle.systems.specs.declared.refusals.TableRefusal.TheVariants.{Counts, Lengths, Start, Label, Entry}
use Rattle.systems.specs.declared.refusals.LockRefusal.{LockRefusal}
use Rattle.systems.specs.declared.refusals.LockRefusal.TheVariants.{OutOfCounts, Full}

-- a refusal that carries a place
abbrev pub refused_at : ℕ → ℕ → Refused
refused_at n place = record { number = n; values = place ∷ [] }

abbrev pub table_refusal_values : TableRefusal → Refused
table_refusal_values Counts = refused 40
table_refusal_values Lengths = refused 41
table_refusal_values Start = refused 42
table_refusal_values (Label m) = refused_at 43 m
table_refusal_values (Entry k) = refused_at 44 k

abbrev pub lock_refusal_values : LockRefusal → Refused
lock_refusal_values OutOfCounts = refused 51
lock_refusal_values Full = refused 50

-- The bare table is accepted.
use Rattle.std.specs.Prelude.{◌≡◌, true, refl}
use Rattle.systems.specs.Tables.{bare, accepts, refusal}
use Rattle.systems.proofs.table.TableSystem.new.Goals as goal

bare_accepted : accepts bare ≡ true
unfolding refusal
bare_accepted = refl

pub invariant_of-result : goal.invariant_of-result
invariant_of-result c = record { accepted = bare_accepted }

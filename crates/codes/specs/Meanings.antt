-- What the values of the code stand for.
use Rattle.std.specs.Prelude.{ℕ, List}
use Rattle.bounded.specs.Items.{items}
use Rattle.codes.specs.declared.object.ObjectState.{ObjectState as Declared}
use Rattle.codes.specs.declared.object.ObjectState.TheVariants.{Absent, There}
use Rattle.codes.specs.declared.codes.Codes.{Codes}
use Rattle.codes.specs.Objects.{ObjectState, absent, there}
use Rattle.codes.specs.Weights.{digit_sizes}

abbrev pub object_of : Declared → ObjectState
object_of Absent = absent
object_of (There vs) = there (items vs)

abbrev pub sizes_in : Codes → List ℕ
sizes_in c = digit_sizes (items c.digits)

-- Names by their numbers; the empty name where there is none.
use Rattle.std.specs.Prelude.{ℕ, List, [], slice_index_or}
use Rattle.scheme.specs.Models.{SchemeModel, object_names, policy_names}

abbrev pub object_name : SchemeModel → ℕ → List ℕ
object_name m i = slice_index_or (object_names m) i []

abbrev pub right_name : SchemeModel → ℕ → List ℕ
right_name m i = slice_index_or m.rights i []

abbrev pub policy_name : SchemeModel → ℕ → List ℕ
policy_name m i = slice_index_or (policy_names m) i []

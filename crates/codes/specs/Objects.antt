-- An object in a state, and what reading and updating one of its attributes gives.
use Rattle.std.specs.Prelude.{ℕ, Bool, true, cond, List, Some, None, Option, slice_index, slice_index_or, slice_set}
use Rattle.scheme.specs.WellFormed.{value_fits, values_fit}

-- it is absent, or there, with a value or null for each attribute
pub data ObjectState : Type 0 where
  absent : ObjectState
  there : List (Option ℕ) → ObjectState

-- it has a value or null for each attribute of these sizes, each value below its size
abbrev pub object_fits : List ℕ → ObjectState → Bool
object_fits ks absent = true
object_fits ks (there vs) = values_fit ks vs

-- the value, or null, of an attribute; nothing can be read of an absent object
abbrev pub read_at : ObjectState → ℕ → Option (Option ℕ)
read_at absent a = None
read_at (there vs) a = Some (slice_index_or vs a None)

-- the object with this value, or null, of an attribute; none where it is absent or the value is not below the size
abbrev pub updated : List ℕ → ObjectState → ℕ → Option ℕ → Option ObjectState
updated ks absent a v = None
updated ks (there vs) a v = cond (value_fits (slice_index ks a) v) (Some (there (slice_set vs a v))) None

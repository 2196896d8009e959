-- The codes of objects. `ks` has the size of each attribute.
use Rattle.std.specs.Prelude.{◌≡◌, ℕ, zero, suc, ◌+◌, ◌-◌, ◌*◌, ◌/◌, ◌%◌, ◌<◌, true, cond, List, [], ◌∷◌, Some, None, Option, nat_lt, slice_index_or}
use Rattle.std.specs.Option.{option_map}
use Rattle.scheme.specs.Sizes.{size_states}
use Rattle.codes.specs.Objects.{ObjectState, absent, there, object_fits, updated}

-- the part of a value: 0 for null, v + 1 for the value v
abbrev pub part : Option ℕ → ℕ
part None = 0
part (Some v) = v + 1

-- the sum of the parts, each times its weight: that is w for the first, and for each other one the product of
-- (k + 1) over the attributes before it
abbrev pub weighed : ℕ → List ℕ → List (Option ℕ) → ℕ
weighed w [] vs = 0
weighed w (k ∷ ks) [] = 0
weighed w (k ∷ ks) (v ∷ vs) = part v * w + weighed (w * (k + 1)) ks vs

-- 0 for an absent object, otherwise 1 plus the weighed sum
abbrev pub code : List ℕ → ObjectState → ℕ
code ks absent = 0
code ks (there vs) = 1 + weighed 1 ks vs

-- back again: the value of a part
abbrev pub from_part : ℕ → Option ℕ
from_part zero = None
from_part (suc v) = Some v

-- the values that a weighed sum stands for
abbrev pub values_from : List ℕ → ℕ → List (Option ℕ)
values_from [] c = []
values_from (k ∷ ks) c = from_part (c % (k + 1)) ∷ values_from ks (c / (k + 1))

-- the object that a code stands for
abbrev pub object_from : List ℕ → ℕ → ObjectState
object_from ks zero = absent
object_from ks (suc c) = there (values_from ks c)

-- the objects of these sizes and the numbers below the count of codes correspond one to one
pub record Corresponds (ks : List ℕ) : Type 0 where
  pub code_below : (x : ObjectState) → object_fits ks x ≡ true → code ks x < size_states ks
  pub object_of_code : (x : ObjectState) → object_fits ks x ≡ true → object_from ks (code ks x) ≡ x
  pub is_object : (c : ℕ) → object_fits ks (object_from ks c) ≡ true
  pub code_of_object : (c : ℕ) → c < size_states ks → code ks (object_from ks c) ≡ c

-- the value, or null, of an attribute in the code of an object that is there
abbrev pub value_in : List ℕ → ℕ → ℕ → Option ℕ
value_in ks c a = slice_index_or (values_from ks (c - 1)) a None

-- a number is a code if it is below their count; what is none has no other code
abbrev pub known : List ℕ → ℕ → Option ℕ → Option ℕ
known ks c r = cond (nat_lt c (size_states ks)) r None

-- the code of the object with another value, or null, of an attribute
abbrev pub updated_code : List ℕ → ℕ → ℕ → Option ℕ → Option ℕ
updated_code ks c a v = known ks c (option_map (code ks) (updated ks (object_from ks c) a v))

-- The numbers of the states of n objects. `ks` has the size of each attribute.
use Rattle.std.specs.Prelude.{◌≡◌, ℕ, zero, suc, ◌+◌, ◌*◌, ◌/◌, ◌%◌, ◌^◌, ◌<◌, Bool, true, ◌&&◌, List, [], ◌∷◌, length, ◌==◌}
use Rattle.scheme.specs.Sizes.{size_states}
use Rattle.codes.specs.Objects.{object_fits}
use Rattle.codes.specs.Codes.{code, object_from}
use Rattle.enforcement.specs.Enforcement.{State}

-- each object is absent, or has for each attribute a value below its size or null
abbrev pub all_fit : List ℕ → State → Bool
all_fit ks [] = true
all_fit ks (x ∷ t) = object_fits ks x && all_fit ks t

-- t is a state of n objects
abbrev pub state_fits : List ℕ → ℕ → State → Bool
state_fits ks n t = length t == n && all_fit ks t

-- the sum of the objects' codes, each times the count of codes to the power of the object's number; the first has
-- the number i
abbrev pub number_from : ℕ → List ℕ → State → ℕ
number_from i ks [] = 0
number_from i ks (x ∷ t) = code ks x * size_states ks ^ i + number_from (i + 1) ks t

abbrev pub number : List ℕ → State → ℕ
number ks t = number_from 0 ks t

-- back again: the state of n objects that a number stands for
abbrev pub state_from : List ℕ → ℕ → ℕ → State
state_from ks zero m = []
state_from ks (suc n) m = object_from ks (m % size_states ks) ∷ state_from ks n (m / size_states ks)

-- states and the numbers below their count correspond one to one
pub record Corresponds (ks : List ℕ) (n : ℕ) : Type 0 where
  pub number_below : (t : State) → state_fits ks n t ≡ true → number ks t < size_states ks ^ n
  pub state_of_number : (t : State) → state_fits ks n t ≡ true → state_from ks n (number ks t) ≡ t
  pub is_state : (m : ℕ) → state_fits ks n (state_from ks n m) ≡ true
  pub number_of_state : (m : ℕ) → m < size_states ks ^ n → number ks (state_from ks n m) ≡ m

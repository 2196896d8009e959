-- Numberings of states, and the states that the code holds.
use Rattle.std.specs.Prelude.{ℕ, ◌+◌, ◌/◌, ◌%◌, ◌^◌, Bool, cond, ◌&&◌, List, map, length, Some, None, Option, nat_le}
use Rattle.bounded.specs.declared.Bounded.{Bounded}
use Rattle.bounded.specs.Items.{items}
use Rattle.scheme.specs.Sizes.{size_states}
use Rattle.codes.specs.declared.object.ObjectState.{ObjectState}
use Rattle.codes.specs.Meanings.{object_of, sizes_in}
use Rattle.enforcement.specs.declared.pair.Pair.{Pair}
use Rattle.enforcement.specs.Enforcement.{State}
use Rattle.record.specs.declared.numbering.Numbering.{Numbering}
use Rattle.record.specs.States.{all_fit, number_from}

-- the sizes of the attributes, and the count of objects
pub record Dimensions : Type 0 where
  pub sizes : List ℕ
  pub objects : ℕ

abbrev pub dimensions_of : Numbering → Dimensions
dimensions_of x = record { sizes = sizes_in x.codes; objects = length (items x.places) }

-- there are at most 1,048,576 states, of one object and of all
abbrev pub within_bounds : List ℕ → ℕ → Bool
within_bounds ks n = nat_le (size_states ks) 1048576 && nat_le (size_states ks ^ n) 1048576

abbrev pub state_of : Bounded ObjectState 8 → State
state_of t = map object_of (items t)

-- a sum so far, and the number of the objects that are left, from object i on; none where one does not fit
abbrev pub summed_from : ℕ → ℕ → List ℕ → State → Option ℕ
summed_from sum i ks t = cond (all_fit ks t) (Some (sum + number_from i ks t)) None

-- the codes of s and o in the state numbered x
abbrev pub pair_at : List ℕ → ℕ → ℕ → ℕ → Pair
pair_at ks x s o = record { subject = x / size_states ks ^ s % size_states ks; object = x / size_states ks ^ o % size_states ks }

-- What the numbers of a scheme's system number: its states, its moves, and the state that it starts in.
use Rattle.std.specs.Prelude.{◌≡◌, ℕ, ◌<◌, true, ◌↔◌, Some}
use Rattle.std.specs.List.{slice_get}
use Rattle.scheme.specs.Models.{ObjectModel, SchemeModel}
use Rattle.scheme.specs.Sizes.{sizes_of}
use Rattle.codes.specs.Objects.{there}
use Rattle.enforcement.specs.Enforcement.{State}
use Rattle.record.specs.States.{state_fits, number, state_from}
use Rattle.record.specs.Moves.{IsMove}
use Rattle.record.specs.Systems.{object_count}

-- the numbers of the states are just those below the count
pub record NumbersStates (m : SchemeModel) (count : ℕ) : Type 0 where
  pub below : (t : State) → state_fits (sizes_of m) (object_count m) t ≡ true → number (sizes_of m) t < count
  pub each : (x : ℕ) → x < count
      → (t : State) × (state_fits (sizes_of m) (object_count m) t ≡ true) × (number (sizes_of m) t ≡ x)

-- the numbers of the moves are just those below the count
abbrev pub NumbersMoves : SchemeModel → ℕ → Type 0
NumbersMoves m count = (v : ℕ) → (v < count) ↔ ((p : ℕ) × (s : ℕ) × (o : ℕ) × IsMove m v p s o)

-- in the state with this number each object is there, with the values of its line
abbrev pub StartsAsDeclared : SchemeModel → ℕ → Type 0
StartsAsDeclared m start =
    (i : ℕ) (o : ObjectModel) → slice_get m.objects i ≡ Some o
    → slice_get (state_from (sizes_of m) (object_count m) start) i ≡ Some (there o.values)

-- What holds of the found list in the midst of a search, for the contracts of its own functions.
use Rattle.std.specs.Prelude.{ℕ, ◌<◌, ◌≤◌, Bool, List, length}
use Rattle.walk.specs.declared.records.Found.{Found}
use Rattle.walk.specs.Walks.{Walk}
use Rattle.walk.specs.Search.{state_at, parent_at}
use Rattle.walk.specs.Visited.{Visited, Met}

-- the list holds states of the walk, as the move m is to be tried in the state at `place`
pub record Kept (walk : Walk) (stop : ℕ → Bool) (found : List Found) (place m : ℕ) : Type 0 where
  pub visited : Visited walk (Met stop) found place m
  pub within : place ≤ length found
  pub below : (i : ℕ) → i < length found → state_at found i < walk.states

-- each entry after the first stands behind its parent
abbrev pub Rooted : List Found → Type 0
Rooted found = (i : ℕ) → 0 < i → i < length found → parent_at found i < i

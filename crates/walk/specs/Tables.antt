-- What the tables hold in the midst of a search, for the contracts of its own functions.
use Rattle.std.specs.Prelude.{◌≡◌, ℕ, ◌+◌, ◌-◌, ◌*◌, ◌<◌, ◌≤◌, Bool, true, List, length, take, drop, slice_index}
use Rattle.walk.specs.declared.records.Found.{Found}
use Rattle.walk.specs.Walks.{Walk}
use Rattle.walk.specs.Search.{Outcome, ends, try_moves, take_states, search_from}
use Rattle.walk.specs.Results.{mark}
use Rattle.walk.specs.Kept.{Kept}

-- the search from where a place is to be taken, and from where a move is to be tried there: what a loop keeps equal to the whole
abbrev pub from_place : Walk → (ℕ → Bool) → ℕ → List Found → ℕ → Outcome
from_place walk stop place found tried = take_states walk stop (walk.states - place) place found tried

abbrev pub from_move : Walk → (ℕ → Bool) → ℕ → ℕ → List Found → ℕ → Outcome
from_move walk stop place move found tried =
    try_moves walk stop (λ found' tried'. from_place walk stop (place + 1) found' tried') (walk.moves - move) place move found tried

-- the marks of the states listed so far
abbrev pub Marked : List ℕ → List Found → Type 0
Marked marks found = (s : ℕ) → s < length marks → slice_index marks s ≡ mark found s

-- the tables as the move m is to be tried in the state at `place`: `count` states are listed, and the rest of the found table is as `before`
pub record Searching (walk : Walk) (stop : ℕ → Bool) (marks : List ℕ) (table before : List Found) (count place m : ℕ) : Type 0 where
  pub kept : Kept walk stop (take count table) place m
  pub marks_size : length marks ≡ walk.states
  pub table_size : length table ≡ walk.states
  pub fits : count ≤ length table
  pub rest : drop count table ≡ drop count before

-- the moves below m were tried in the state at `place`, from where `listed` states of the table `before` were listed
pub record Trying (walk : Walk) (stop : ℕ → Bool) (marks : List ℕ) (table before : List Found) (listed count place m : ℕ) : Type 0 where
  pub searching : Searching walk stop marks table before count place m
  pub grows : listed ≤ count
  pub here : place < count
  pub below : m ≤ walk.moves
  pub same : (tried : ℕ) → from_move walk stop place 0 (take listed before) tried ≡ from_move walk stop place m (take count table) (tried + m)

-- the move m ends the search
pub record Stopping (walk : Walk) (stop : ℕ → Bool) (marks : List ℕ) (table before : List Found) (listed count place m : ℕ) : Type 0 where
  pub trying : Trying walk stop marks table before listed count place m
  pub enabled : m < walk.moves
  pub stops : ends walk stop (take count table) place m ≡ true

-- no move ends it
pub record Passing (walk : Walk) (stop : ℕ → Bool) (marks : List ℕ) (table before : List Found) (listed count place : ℕ) : Type 0 where
  pub searching : Searching walk stop marks table before count (place + 1) 0
  pub grows : listed ≤ count
  pub here : place < count
  pub same : (tried : ℕ) → from_move walk stop place 0 (take listed before) tried ≡ from_place walk stop (place + 1) (take count table) (tried + walk.moves)

-- the states before `place` were taken
pub record Taking (walk : Walk) (stop : ℕ → Bool) (marks : List ℕ) (table before : List Found) (count place tried : ℕ) : Type 0 where
  pub searching : Searching walk stop marks table before count place 0
  pub begun : 0 < count
  pub upto : place ≤ count
  pub count_tried : tried ≡ place * walk.moves
  pub same : search_from walk stop ≡ from_place walk stop place (take count table) tried

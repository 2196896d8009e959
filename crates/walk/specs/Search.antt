-- The breadth-first search over a walk, for an enabled move that meets a goal.
use Rattle.std.specs.Prelude.{ℕ, zero, suc, ◌+◌, Bool, false, cond, ◌&&◌, ◌||◌, List, [], ◌∷◌, ◌++◌, length, is_some, Some, None, Option, ◌==◌, nat_lt, slice_index_or}
use Rattle.walk.specs.declared.records.Found.{Found}
use Rattle.walk.specs.Walks.{Walk}

-- how a search ends: the found list, the count of moves tried, and where a move has met the goal the witness
pub data Outcome : Type 0 where
  stopped : List Found → ℕ → List ℕ → Outcome
  exhausted : List Found → ℕ → Outcome

abbrev pub entry : ℕ → ℕ → ℕ → Found
entry s p m = record { state = s; parent = p; mv = m }

abbrev pub entry_at : List Found → ℕ → Found
entry_at found i = slice_index_or found i (entry 0 0 0)

abbrev pub state_at : List Found → ℕ → ℕ
state_at found i = (entry_at found i).state

abbrev pub parent_at : List Found → ℕ → ℕ
parent_at found i = (entry_at found i).parent

abbrev pub move_at : List Found → ℕ → ℕ
move_at found i = (entry_at found i).mv

-- the state stands in the list
abbrev pub listed : List Found → ℕ → Bool
listed [] s = false
listed (e ∷ es) s = e.state == s || listed es s

-- the moves recorded along the parents from the start to a place, in at most so many steps
abbrev pub path : ℕ → List Found → ℕ → List ℕ
path zero found place = []
path (suc most) found zero = []
path (suc most) found (suc place) =
    path most found (parent_at found (suc place)) ++ (move_at found (suc place) ∷ [])

-- a parent stands before its child, so a place is at most as many steps from the start as it is far
abbrev pub moves_to : List Found → ℕ → List ℕ
moves_to found place = path place found place

-- the move, tried in the state at a place, ends the search: it is enabled there and meets the goal
abbrev pub ends : Walk → (ℕ → Bool) → List Found → ℕ → ℕ → Bool
ends walk stop found place move = is_some (walk.step (state_at found place) move) && stop move

-- the list with the state that a move has led to, unless it is listed: its place of origin and the move are recorded
abbrev pub with_next : List Found → ℕ → ℕ → Option ℕ → List Found
with_next found place move None = found
with_next found place move (Some t) = cond (listed found t) found (found ++ (entry t place move ∷ []))

-- the list after a try that did not end the search
abbrev pub after_try : Walk → List Found → ℕ → ℕ → List Found
after_try walk found place move = with_next found place move (walk.step (state_at found place) move)

-- tries the moves from `move` on, `left` of them, in the state at a place, and then goes on by `then`
unfoldable pub try_moves : Walk → (ℕ → Bool) → (List Found → ℕ → Outcome) → ℕ → ℕ → ℕ → List Found → ℕ → Outcome
try_moves walk stop then zero place move found tried = then found tried
try_moves walk stop then (suc left) place move found tried =
    let rest : Outcome = try_moves walk stop then left place (move + 1) (after_try walk found place move) (tried + 1) in
    cond (ends walk stop found place move) (stopped found (tried + 1) (moves_to found place ++ (move ∷ []))) rest

-- takes the listed states from a place on, at most `left` of them
unfoldable pub take_states : Walk → (ℕ → Bool) → ℕ → ℕ → List Found → ℕ → Outcome
take_states walk stop zero place found tried = exhausted found tried
take_states walk stop (suc left) place found tried =
    let rest : Outcome =
    try_moves walk stop (λ found' tried'. take_states walk stop left (place + 1) found' tried') walk.moves place 0 found tried in
    cond (nat_lt place (length found)) rest (exhausted found tried)

-- the search begins with the start state; no more states are listed, and so taken, than there are
abbrev pub search_from : Walk → (ℕ → Bool) → Outcome
search_from walk stop = take_states walk stop walk.states 0 (entry walk.start 0 0 ∷ []) 0

-- What a search visits and in which order, and how it ends: by states, steps and indexes.
use Rattle.std.specs.Prelude.{◌≡◌, ℕ, ◌+◌, ◌*◌, ◌<◌, ◌⊎◌, Bool, true, List, [], ◌∷◌, ◌++◌, length, slice_index, Some}
use Rattle.walk.specs.declared.records.Found.{Found}
use Rattle.walk.specs.Walks.{Walk}
use Rattle.walk.specs.Search.{entry_at}

-- the try of the move m in the state at the index p of the list comes before that of the move k at the index r
abbrev pub Before : (p m r k : ℕ) → Type 0
Before p m r k = (p < r) ⊎ ((p ≡ r) × (m < k))

-- the entry at the index i is a step from its parent, which stands earlier, by the move recorded
pub record Comes (walk : Walk) (list : List Found) (i : ℕ) : Type 0 where
  pub earlier : (entry_at list i).parent < i
  pub by_step : let e = entry_at list i in walk.step (entry_at list e.parent).state e.mv ≡ Some e.state

-- the state t is listed, and no later than by the try of the move k at the index r
pub record ListedBy (list : List Found) (t r k : ℕ) : Type 0 where
  pub index : ℕ
  pub in_list : index < length list
  pub is_state : (entry_at list index).state ≡ t
  pub no_later : ¬ Before r k (entry_at list index).parent (entry_at list index).mv

-- the list as the move m is to be tried in the state at the index p
pub record Visited (walk : Walk) (goal : ℕ → Type 0) (list : List Found) (p m : ℕ) : Type 0 where
  -- the start state is the first entry, and each later one comes by a step
  pub some : 0 < length list
  pub first : entry_at list 0 ≡ record { state = walk.start; parent = 0; mv = 0 }
  pub comes : (i : ℕ) → 0 < i → i < length list → Comes walk list i
  -- each state stands once
  pub once : (i j : ℕ) → i < length list → j < length list
      → (entry_at list i).state ≡ (entry_at list j).state → i ≡ j
  -- the entries stand in the order of the tries that found them, and all of these were made
  pub in_order : (i j : ℕ) → 0 < i → i < j → j < length list
      → Before (entry_at list i).parent (entry_at list i).mv (entry_at list j).parent (entry_at list j).mv
  pub tried : (i : ℕ) → 0 < i → i < length list → Before (entry_at list i).parent (entry_at list i).mv p m
  -- every enabled move that was tried has led to a state that was listed then, if not before
  pub each_listed : (r k t : ℕ) → r < length list → Before r k p m
      → walk.step (entry_at list r).state k ≡ Some t → ListedBy list t r k
  -- and none of them meets the goal
  pub none_meets : (r k t : ℕ) → r < length list → Before r k p m
      → walk.step (entry_at list r).state k ≡ Some t → ¬ goal k

-- the moves are those recorded on a way from the first entry to that at `index`, each the parent of the next:
-- after j moves the way is at the index `at j`
pub record Way (list : List Found) (index : ℕ) (moves : List ℕ) : Type 0 where
  pub at : ℕ → ℕ
  pub begins : at 0 ≡ 0
  pub ends : at (length moves) ≡ index
  pub rises : (j : ℕ) → j < length moves → at j < at (j + 1)
  pub by_parents : (j : ℕ) → j < length moves → at j ≡ (entry_at list (at (j + 1))).parent
  pub by_moves : (j : ℕ) → j < length moves → slice_index moves j ≡ (entry_at list (at (j + 1))).mv

-- the try of an enabled move that meets the goal has ended the search: the first such try
pub record StoppedVisits (walk : Walk) (goal : ℕ → Type 0) (list : List Found) (tried : ℕ) (witness : List ℕ) : Type 0 where
  pub index : ℕ
  pub last : ℕ
  pub visited : Visited walk goal list index last
  pub in_list : index < length list
  pub enabled : (t : ℕ) × (walk.step (entry_at list index).state last ≡ Some t)
  pub meets : goal last
  pub all_tried : tried ≡ index * walk.moves + last + 1
  -- the witness is the moves recorded on the way there, and then the last
  pub before : List ℕ
  pub way : Way list index before
  pub is_last : witness ≡ before ++ (last ∷ [])

-- every move was tried in every listed state
pub record ExhaustedVisits (walk : Walk) (goal : ℕ → Type 0) (list : List Found) (tried : ℕ) : Type 0 where
  pub visited : Visited walk goal list (length list) 0
  pub all_tried : tried ≡ length list * walk.moves

-- a goal that is a test of moves
abbrev pub Met : (ℕ → Bool) → ℕ → Type 0
Met stop m = stop m ≡ true

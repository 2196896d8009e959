-- Runs of a walk, and what a search says of them.
use Rattle.std.specs.Prelude.{◌≡◌, ℕ, ◌*◌, ◌<◌, ◌≤◌, Bool, true, List, [], ◌∷◌, ◌++◌, length, take, is_some, Some, None, Option}
use Rattle.walk.specs.declared.records.Found.{Found}
use Rattle.walk.specs.declared.records.Ending.{Ending}
use Rattle.walk.specs.declared.records.Ending.TheVariants.{Stopped, Exhausted}
use Rattle.walk.specs.Walks.{Walk}
use Rattle.walk.specs.Search.{state_at}

-- goes on from the state that a step leads to
abbrev pub on_from : Option ℕ → (ℕ → Option ℕ) → Option ℕ
on_from None go = None
on_from (Some t) go = go t

-- the state to which moves, made in turn from the state s, lead; none where one of them has no step
unfoldable pub run_from : Walk → ℕ → List ℕ → Option ℕ
run_from walk s [] = Some s
run_from walk s (m ∷ ms) = on_from (walk.step s m) (λ t. run_from walk t ms)

-- the moves lead from the start to the state t
abbrev pub Leads : Walk → List ℕ → ℕ → Type 0
Leads walk ms t = run_from walk walk.start ms ≡ Some t

-- the moves can be made in turn from the start, and the last one meets the goal
pub record Meets (walk : Walk) (stop : ℕ → Bool) (moves : List ℕ) : Type 0 where
  pub before : List ℕ
  pub last : ℕ
  pub is_last : moves ≡ before ++ (last ∷ [])
  pub goal : stop last ≡ true
  pub at : ℕ
  pub leads : Leads walk before at
  pub enabled : is_some (walk.step at last) ≡ true

-- the first `count` listed states are exactly those to which runs lead, each once
pub record ListsReached (walk : Walk) (count : ℕ) (found : List Found) : Type 0 where
  pub reached : (i : ℕ) → i < count → (ms : List ℕ) × Leads walk ms (state_at found i)
  pub all : (ms : List ℕ) (t : ℕ) → Leads walk ms t → (i : ℕ) × (i < count) × (state_at found i ≡ t)
  pub once : (i j : ℕ) → i < count → j < count → state_at found i ≡ state_at found j → i ≡ j

-- the search was stopped: the witness meets the goal, and no shorter run does
pub record StoppedMeans (walk : Walk) (stop : ℕ → Bool) (total : ℕ) (witness : List ℕ) : Type 0 where
  pub fits : total ≤ length witness
  pub meets : Meets walk stop (take total witness)
  pub shortest : (ms : List ℕ) → Meets walk stop ms → total ≤ length ms

-- the search was exhausted: no run meets the goal, the reached states are listed, and every move was tried in each
pub record ExhaustedMeans (walk : Walk) (stop : ℕ → Bool) (count tried : ℕ) (found : List Found) : Type 0 where
  pub none : (ms : List ℕ) → Meets walk stop ms → ⊥
  pub fits : count ≤ length found
  pub lists : ListsReached walk count found
  pub all_tried : tried ≡ count * walk.moves

-- what an answer says of the walk's runs, with the tables as the search leaves them
abbrev pub Means : Walk → (ℕ → Bool) → Option Ending → List Found → List ℕ → Type 0
Means walk stop None found witness = Unit {0}
Means walk stop (Some (Stopped count tried total)) found witness = StoppedMeans walk stop total witness
Means walk stop (Some (Exhausted count tried)) found witness = ExhaustedMeans walk stop count tried found

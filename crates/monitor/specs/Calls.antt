-- What the calls of a monitor do, in the words of its system: moves, steps, labels and numbers.
use Rattle.std.specs.Prelude.{◌≡◌, ℕ, ◌<◌, ◌≤◌, Bool, true, false, ◌↔◌, List, map, length, take, Some, None, Ok, Err, Result, slice_index}
use Rattle.walk.specs.Runs.{run_from}
use Rattle.protection.specs.declared.permission.Permission.{Permission}
use Rattle.protection.specs.Refusals.{Refused, RefusedWith}
use Rattle.protection.specs.Systems.{System, WithinCounts}
use Rattle.protection.specs.Histories.{enforce, leaves, grants}

-- the move m has a step in the state s, and the label p
abbrev pub IsEnabledAs : System → ℕ → Permission → ℕ → Type 0
IsEnabledAs system s p m = (t : ℕ) × (system.walk.step s m ≡ Some t) × (system.label m ≡ Some p)

-- `enforce` of m in the state s, which leaves the state t
pub record MakesThatMove (system : System) (s m : ℕ)
    (answer : Result ℕ Refused) (t : ℕ) : Type 0 where
  -- the answer is the move, and the state is the one to which its step leads
  pub granted_is_made : (k : ℕ) → answer ≡ Ok k
      → (k ≡ m) × (m < system.walk.moves) × (system.walk.step s m ≡ Some t)
  pub enabled_is_granted : (u : ℕ) → m < system.walk.moves → system.walk.step s m ≡ Some u
      → answer ≡ Ok m
  pub refused_60 : RefusedWith 60 answer ↔ (system.walk.moves ≤ m)
  pub refused_61 : RefusedWith 61 answer ↔ ((m < system.walk.moves) × (system.walk.step s m ≡ None))
  pub refused_stays : (r : Refused) → answer ≡ Err r → t ≡ s

-- `request` of p in the state s, which leaves the state t
pub record MakesTheLowestMove (system : System) (s : ℕ) (p : Permission)
    (answer : Result ℕ Refused) (t : ℕ) : Type 0 where
  -- the answer is a move labelled p, and the state is the one to which its step leads
  pub granted_is_made : (m : ℕ) → answer ≡ Ok m
      → (system.label m ≡ Some p) × (system.walk.step s m ≡ Some t)
  pub none_lower_is_enabled : (m k : ℕ) → answer ≡ Ok m → k < m → ¬ IsEnabledAs system s p k
  pub enabled_is_granted : (k : ℕ) → IsEnabledAs system s p k → (m : ℕ) × (answer ≡ Ok m)
  pub refused_62 : RefusedWith 62 answer ↔ (¬ WithinCounts system p)
  pub refused_61 : RefusedWith 61 answer
      ↔ (WithinCounts system p × ((m : ℕ) → ¬ IsEnabledAs system s p m))
  pub refused_stays : (r : Refused) → answer ≡ Err r → t ≡ s

-- `may` of p in the state s
pub record TellsWhetherEnabled (system : System) (s : ℕ) (p : Permission)
    (answer : Result Bool Refused) : Type 0 where
  pub yes : (answer ≡ Ok true) ↔ ((m : ℕ) × IsEnabledAs system s p m)
  pub no : (answer ≡ Ok false) ↔ (WithinCounts system p × ((m : ℕ) → ¬ IsEnabledAs system s p m))
  pub refused_62 : RefusedWith 62 answer ↔ (¬ WithinCounts system p)

-- a replay of moves from the state s, which leaves the state t
pub record MakesMovesInTurn (system : System) (s : ℕ) (moves : List ℕ)
    (answer : Result Unit Refused) (t : ℕ) : Type 0 where
  -- how many are granted, from the first on: their steps lead to the state t
  pub count : ℕ
  pub not_more : count ≤ length moves
  pub steps_lead_there : run_from system.walk s (take count moves) ≡ Some t
  -- as a list of calls of `enforce` they are granted, and leave this state
  pub granted_as_calls : grants system s (map enforce (take count moves)) ≡ take count moves
  pub left_by_calls : leaves system s (map enforce (take count moves)) ≡ t
  -- all of them, or up to the first that is refused, with its refusal
  pub all_granted : (answer ≡ Ok tt) ↔ (count ≡ length moves)
  pub next_is_refused : (r : Refused) → answer ≡ Err r
      → MakesThatMove system t (slice_index moves count) (Err r) t

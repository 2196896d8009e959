-- What a lock list means, what `lock` does to it, and what locks promise of every history of a
-- monitor over it.
use Rattle.std.specs.Prelude.{◌≡◌, ℕ, ◌+◌, ◌<◌, ◌≤◌, ◌↔◌, ◌⊎◌, List, ◌++◌, length, Some, None, Ok, Err, Result, Contains as IsListed}
use Rattle.protection.specs.declared.permission.Permission.{Permission}
use Rattle.protection.specs.Refusals.{Refused, RefusedWith}
use Rattle.protection.specs.Systems.{System, WithinCounts}
use Rattle.protection.specs.Histories.{Call, Contains, EndsInGrant}

-- a system is the one below it, but that the moves whose labels are listed have no step
pub record LacksLockedSteps (below : System) (locks : List Permission)
    (system : System) : Type 0 where
  pub states_stay : system.walk.states ≡ below.walk.states
  pub start_stays : system.walk.start ≡ below.walk.start
  pub moves_stay : system.walk.moves ≡ below.walk.moves
  pub objects_stay : system.objects ≡ below.objects
  pub rights_stay : system.rights ≡ below.rights
  pub labels_stay : (m : ℕ) → system.label m ≡ below.label m
  pub listed_has_no_step : (s m : ℕ) (p : Permission) → below.label m ≡ Some p → IsListed locks p
      → system.walk.step s m ≡ None
  pub others_keep_steps : (s m : ℕ)
      → ((p : Permission) → below.label m ≡ Some p → ¬ IsListed locks p)
      → system.walk.step s m ≡ below.walk.step s m

-- `lock` of p: the list before it, its answer, and the list that it leaves
pub record ListsThePermission (below : System) (old : List Permission) (p : Permission)
    (answer : Result ℕ Refused) (new : List Permission) : Type 0 where
  -- accepted: just p is listed besides what was, in its order; the answer is how many are listed
  pub listed_then : (n : ℕ) → answer ≡ Ok n
      → (q : Permission) → IsListed new q ↔ (IsListed old q ⊎ (q ≡ p))
  pub order_stays : (n : ℕ) → answer ≡ Ok n → (more : List Permission) × (new ≡ old ++ more)
  pub counted : (n : ℕ) → answer ≡ Ok n → (n ≡ length new) × (n ≤ 16)
  -- it is accepted where p is listed, and changes nothing, and otherwise where there is room
  pub listed_is_accepted : WithinCounts below p → IsListed old p
      → (answer ≡ Ok (length old)) × (new ≡ old)
  pub room_is_taken : WithinCounts below p → ¬ IsListed old p → length old < 16
      → answer ≡ Ok (length old + 1)
  pub refused_51 : RefusedWith 51 answer ↔ (¬ WithinCounts below p)
  pub refused_50 : RefusedWith 50 answer
      ↔ (WithinCounts below p × (¬ IsListed old p) × (length old ≡ 16))
  pub refused_stays : (r : Refused) → answer ≡ Err r → new ≡ old

pub record LocksHold (below : System) (locks : List Permission) (system : System) : Type 0 where
  -- locks leave all alone but the steps of what is locked
  pub others_stay : LacksLockedSteps below locks system
  -- no history contains a grant of what is locked, or a yes to it
  pub locked_is_never_granted : (p : Permission) → IsListed locks p
      → (calls : List Call) → ¬ Contains system p calls
  -- locks open nothing: what a history comes to grant, some history of the system below does, too
  pub nothing_new_is_granted : (p : Permission) (calls : List Call) → EndsInGrant system p calls
      → (before : List Call) × EndsInGrant below p before

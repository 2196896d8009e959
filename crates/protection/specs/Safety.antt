-- The safety promise: what a verdict and the tables say of every history of the system's monitors.
use Rattle.std.specs.Prelude.{◌≡◌, ℕ, ◌*◌, ◌<◌, ◌≤◌, true, false, ◌↔◌, List, map, length, take, Ok, Err, Result}
use Rattle.walk.specs.declared.records.Found.{Found}
use Rattle.walk.specs.Search.{state_at}
use Rattle.protection.specs.declared.permission.Permission.{Permission}
use Rattle.protection.specs.declared.answers.Verdict.{Verdict}
use Rattle.protection.specs.declared.answers.Refusal.{Refusal}
use Rattle.protection.specs.Systems.{System}
use Rattle.protection.specs.Answers.{Said, verdict_values}
use Rattle.protection.specs.Histories.{Call, enforce, history_leaves, history_grants, Contains, EndsInGrant}

-- a new monitor grants the moves in turn by `enforce`, and the last is a grant of q
pub record Replays (system : System) (q : Permission) (moves : List ℕ) : Type 0 where
  pub granted_each : history_grants system (map enforce moves) ≡ moves
  pub last_grants : EndsInGrant system q (map enforce moves)

-- the first `count` listed states are exactly those in which histories leave their monitors, each once; each
-- is left by calls of `enforce` alone, all of them granted
pub record ListsLeft (system : System) (count : ℕ) (found : List Found) : Type 0 where
  pub left : (i : ℕ) → i < count
      → (moves : List ℕ) × (history_grants system (map enforce moves) ≡ moves) × (history_leaves system (map enforce moves) ≡ state_at found i)
  pub all : (calls : List Call) → (i : ℕ) × (i < count) × (state_at found i ≡ history_leaves system calls)
  pub once : (i j : ℕ) → i < count → j < count → state_at found i ≡ state_at found j → i ≡ j

pub record Safety (system : System) (q : Permission) (v : Said) (found : List Found) (witness : List ℕ) : Type 0 where
  -- never exactly when no history contains a grant of q or a yes to q
  pub never_means_no_grant : (v.leaks ≡ false) ↔ ((calls : List Call) → Contains system q calls → ⊥)
  -- leak exactly when some history ends in a grant of q
  pub leak_means_a_grant : (v.leaks ≡ true) ↔ ((calls : List Call) × EndsInGrant system q calls)
  -- then the witness has as many moves as the verdict says, and is replayed
  pub leak_is_written : v.leaks ≡ true → v.length ≤ length witness
  pub leak_is_replayed : v.leaks ≡ true → Replays system q (take v.length witness)
  -- and no history comes to a grant of q with fewer grants
  pub leak_is_shortest : v.leaks ≡ true → (calls : List Call) → EndsInGrant system q calls → v.length ≤ length (history_grants system calls)
  -- under never the list has the states that histories come to, and every move was tried in each
  pub never_is_listed : v.leaks ≡ false → v.found ≤ length found
  pub never_lists_left : v.leaks ≡ false → ListsLeft system v.found found
  pub never_tries_all : v.leaks ≡ false → v.tried ≡ v.found * system.walk.moves

-- of an accepted analysis, with the tables as it leaves them
abbrev pub Promise : System → Permission → Result Verdict Refusal → List Found → List ℕ → Type 0
Promise system q (Ok v) found witness = Safety system q (verdict_values v) found witness
Promise system q (Err e) found witness = Unit {0}

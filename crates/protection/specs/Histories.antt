-- The monitor's calls, and histories of calls on one monitor.
use Rattle.std.specs.Prelude.{◌≡◌, ℕ, Bool, true, cond, ◌&&◌, ◌⊎◌, List, [], ◌∷◌, ◌++◌, is_some, Some, None, Ok, Err, Option, Result, nat_lt}
use Rattle.std.specs.Option.{unwrap_or, ok_or, option_to_list}
use Rattle.std.specs.Result.{result_ok}
use Rattle.protection.specs.declared.permission.Permission.{Permission}
use Rattle.protection.specs.Lowest.{lowest}
use Rattle.protection.specs.Refusals.{Refused, refused}
use Rattle.protection.specs.Systems.{System, labelled, within_counts}

-- any call, with any arguments
pub data Call : Type 0 where
  enforce : ℕ → Call
  request : Permission → Call
  may : Permission → Call
  state : Call
  restart : Call

abbrev pub enabled : System → ℕ → ℕ → Bool
enabled system s m = is_some (system.walk.step s m)

-- the move m is enabled in the state s and labelled p
abbrev pub enabled_as : System → ℕ → Permission → ℕ → Bool
enabled_as system s p m = enabled system s m && labelled system m p

-- the lowest such move
abbrev pub lowest_enabled : System → ℕ → Permission → Option ℕ
lowest_enabled system s p = lowest (enabled_as system s p) system.walk.moves

-- what a monitor in the state s answers
abbrev pub enforce_answer : System → ℕ → ℕ → Result ℕ Refused
enforce_answer system s m =
    cond (nat_lt m system.walk.moves) (cond (enabled system s m) (Ok m) (Err (refused 61))) (Err (refused 60))

abbrev pub request_answer : System → ℕ → Permission → Result ℕ Refused
request_answer system s p = cond (within_counts system p) (ok_or (lowest_enabled system s p) (refused 61)) (Err (refused 62))

abbrev pub may_answer : System → ℕ → Permission → Result Bool Refused
may_answer system s p = cond (within_counts system p) (Ok (is_some (lowest_enabled system s p))) (Err (refused 62))

-- a grant is an accepted `enforce` or `request`: the move that a call grants in the state s
abbrev pub granted : System → ℕ → Call → Option ℕ
granted system s (enforce m) = result_ok (enforce_answer system s m)
granted system s (request p) = result_ok (request_answer system s p)
granted system s (may p) = None
granted system s state = None
granted system s restart = None

-- the state after a granted move
abbrev pub moved : System → ℕ → Option ℕ → ℕ
moved system s None = s
moved system s (Some m) = unwrap_or (system.walk.step s m) s

-- the state after a call in the state s
abbrev pub after : System → ℕ → Call → ℕ
after system s (enforce m) = moved system s (granted system s (enforce m))
after system s (request p) = moved system s (granted system s (request p))
after system s (may p) = s
after system s state = s
after system s restart = system.walk.start

-- the state in which calls leave a monitor that was in the state s
unfoldable pub leaves : System → ℕ → List Call → ℕ
leaves system s [] = s
leaves system s (c ∷ cs) = leaves system (after system s c) cs

-- the moves that calls grant, in their order
unfoldable pub grants : System → ℕ → List Call → List ℕ
grants system s [] = []
grants system s (c ∷ cs) = option_to_list (granted system s c) ++ grants system (after system s c) cs

-- a history is a list of calls on a new monitor: the state in which it leaves the monitor, and its grants
abbrev pub history_leaves : System → List Call → ℕ
history_leaves system calls = leaves system system.walk.start calls

abbrev pub history_grants : System → List Call → List ℕ
history_grants system calls = grants system system.walk.start calls

-- in the state s the call is a grant of q: a grant of a move labelled q
abbrev pub Grants : System → Permission → ℕ → Call → Type 0
Grants system q s c = (m : ℕ) × (granted system s c ≡ Some m) × (system.label m ≡ Some q)

-- in the state s the call is a yes to q: a `may` of q that says yes
abbrev pub SaysYes : System → Permission → ℕ → Call → Type 0
SaysYes system q s c = (c ≡ may q) × (may_answer system s q ≡ Ok true)

-- the history contains a grant of q or a yes to q
abbrev pub Contains : System → Permission → List Call → Type 0
Contains system q calls =
    (before : List Call) × (c : Call) × (later : List Call) × (calls ≡ before ++ (c ∷ later))
    × (Grants system q (history_leaves system before) c ⊎ SaysYes system q (history_leaves system before) c)

-- the history ends in a grant of q: its last call is one
abbrev pub EndsInGrant : System → Permission → List Call → Type 0
EndsInGrant system q calls =
    (before : List Call) × (c : Call) × (calls ≡ before ++ (c ∷ [])) × Grants system q (history_leaves system before) c

-- What a lock list means, and what `lock` answers.
use Rattle.std.specs.Prelude.{ℕ, ◌+◌, Bool, false, cond, ◌||◌, List, [], ◌∷◌, ◌++◌, length, Some, None, Ok, Err, Option, Result, nat_le}
use Rattle.walk.specs.Walks.{Walk}
use Rattle.protection.specs.declared.permission.Permission.{Permission}
use Rattle.protection.specs.Permissions.{same, within}
use Rattle.protection.specs.Systems.{Labels}
use Rattle.protection.specs.Refusals.{Refused, refused}

abbrev pub is_listed : List Permission → Permission → Bool
is_listed [] p = false
is_listed (q ∷ qs) p = same q p || is_listed qs p

-- a move's label is listed
abbrev pub is_locked : List Permission → Option Permission → Bool
is_locked locks None = false
is_locked locks (Some p) = is_listed locks p

-- the walk without the steps of moves whose label is listed
abbrev pub locked_step : List Permission → Walk → Labels → ℕ → ℕ → Option ℕ
locked_step locks walk labels s m = cond (is_locked locks (labels.label m)) None (walk.step s m)

abbrev pub locked_walk : List Permission → Walk → Labels → Walk
locked_walk locks walk labels =
    record { states = walk.states; start = walk.start; moves = walk.moves; step = locked_step locks walk labels }

-- how many are listed after `lock` of p, or its refusal
abbrev pub lock_answer : Labels → List Permission → Permission → Result ℕ Refused
lock_answer labels locks p =
    cond (within labels.objects labels.rights p)
    (cond (is_listed locks p) (Ok (length locks))
    (cond (nat_le 16 (length locks)) (Err (refused 50)) (Ok (length locks + 1))))
    (Err (refused 51))

-- what is listed then
abbrev pub locks_after : Labels → List Permission → Permission → List Permission
locks_after labels locks p =
    cond (within labels.objects labels.rights p)
    (cond (is_listed locks p) locks
    (cond (nat_le 16 (length locks)) locks (locks ++ (p ∷ []))))
    locks

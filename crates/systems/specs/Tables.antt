-- What the numbers of a table system mean, and which are refused.
use Rattle.std.specs.Prelude.{ℕ, zero, suc, ◌+◌, ◌*◌, Bool, cond, not, ◌&&◌, List, [], length, is_some, Some, None, Ok, Err, Option, Result, ◌==◌, nat_le, nat_lt, slice_index}
use Rattle.std.specs.Option.{option_map, option_or}
use Rattle.walk.specs.Walks.{Walk}
use Rattle.protection.specs.declared.permission.Permission.{Permission}
use Rattle.protection.specs.Permissions.{within}
use Rattle.protection.specs.Systems.{Labels}
use Rattle.protection.specs.Lowest.{lowest}
use Rattle.protection.specs.Refusals.{Refused, refused}
use Rattle.systems.specs.Refusals.{refused_at}

-- three label numbers a move, and the entries state by state
pub record Table : Type 0 where
  pub states : ℕ
  pub moves : ℕ
  pub objects : ℕ
  pub rights : ℕ
  pub start : ℕ
  pub labels : List ℕ
  pub entries : List ℕ

-- one state, and no move, object or right
abbrev pub bare : Table
bare = record { states = 1; moves = 0; objects = 0; rights = 0; start = 0; labels = []; entries = [] }

-- the label of the move m
abbrev pub permission_at : List ℕ → ℕ → Permission
permission_at labels m =
    record { subject = slice_index labels (3 * m); object = slice_index labels (3 * m + 1); right = slice_index labels (3 * m + 2) }

-- entry 0 is no step, any other is the next state plus 1
abbrev pub next_of : ℕ → Option ℕ
next_of zero = None
next_of (suc t) = Some t

abbrev pub table_step : Table → ℕ → ℕ → Option ℕ
table_step t s m =
    cond (nat_lt s t.states && nat_lt m t.moves) (next_of (slice_index t.entries (s * t.moves + m))) None

abbrev pub table_walk : Table → Walk
table_walk t = record { states = t.states; start = t.start; moves = t.moves; step = table_step t }

abbrev pub table_label : Table → ℕ → Option Permission
table_label t m = cond (nat_lt m t.moves) (Some (permission_at t.labels m)) None

abbrev pub table_labels : Table → Labels
table_labels t = record { objects = t.objects; rights = t.rights; label = table_label t }

-- the tests of the refusals
abbrev pub counts_out : (states moves objects rights : ℕ) → Bool
counts_out n m o r = not (nat_le 1 n && nat_le n 1048576 && nat_le m 4096 && nat_le o 255 && nat_le r 255)

abbrev pub lengths_out : (states moves labels entries : ℕ) → Bool
lengths_out n m labels entries = not (labels == 3 * m && entries == n * m)

abbrev pub label_out : (objects rights : ℕ) → List ℕ → ℕ → Bool
label_out o r labels m = not (within o r (permission_at labels m))

abbrev pub entry_out : ℕ → List ℕ → ℕ → Bool
entry_out n entries place = nat_lt n (slice_index entries place)

-- the first refusal that applies
unfoldable pub refusal : Table → Option Refused
refusal t =
    cond (counts_out t.states t.moves t.objects t.rights) (Some (refused 40))
    (cond (lengths_out t.states t.moves (length t.labels) (length t.entries)) (Some (refused 41))
    (cond (nat_le t.states t.start) (Some (refused 42))
    (option_or (option_map (refused_at 43) (lowest (label_out t.objects t.rights t.labels) t.moves))
    (option_map (refused_at 44) (lowest (entry_out t.states t.entries) (length t.entries))))))

abbrev pub accepts : Table → Bool
accepts t = not (is_some (refusal t))

-- what `fill` answers, and what the table system holds afterwards
abbrev pub fill_answer : Table → Result Unit Refused
fill_answer t = elim (refusal t) [ Some e ↦ Err e | None ↦ Ok tt ]

abbrev pub filled : Table → Table → Table
filled old t = cond (accepts t) t old

-- The protection system that a scheme means.
use Rattle.std.specs.Prelude.{◌≡◌, ℕ, cond, ◌&&◌, [], map, length, Some, None, Option, nat_lt, slice_index_or}
use Rattle.std.specs.Option.{option_map}
use Rattle.walk.specs.Walks.{Walk}
use Rattle.protection.specs.declared.permission.Permission.{Permission}
use Rattle.protection.specs.Systems.{Labels, System, system_of}
use Rattle.scheme.specs.declared.entries.Query.{Query}
use Rattle.scheme.specs.Models.{ObjectModel, PolicyModel, SchemeModel}
use Rattle.scheme.specs.Sizes.{sizes_of}
use Rattle.scheme.specs.Counts.{state_count, move_count}
use Rattle.codes.specs.Objects.{there}
use Rattle.enforcement.specs.Enforcement.{State, enforced}
use Rattle.record.specs.declared.moves.Move.{Move}
use Rattle.record.specs.States.{number, state_from}
use Rattle.record.specs.Moves.{move_at, move_of}

abbrev pub object_count : SchemeModel → ℕ
object_count m = length m.objects

-- in the start state every object is there, with the values of its line
abbrev pub start_state : SchemeModel → State
start_state m = map (λ (o : ObjectModel). there o.values) m.objects

abbrev pub no_policy : PolicyModel
no_policy = record { name = []; right = 0; predicates = []; actions = [] }

abbrev pub policy_at : SchemeModel → ℕ → PolicyModel
policy_at m p = slice_index_or m.policies p no_policy

-- the state after the policy of a move is enforced on its subject and object
abbrev pub state_after : SchemeModel → Move → State → Option State
state_after m x t = enforced (sizes_of m) (policy_at m x.policy).predicates (policy_at m x.policy).actions x.subject x.object t

-- by their numbers; a number that is no state or no move has no step
abbrev pub step_of : SchemeModel → ℕ → ℕ → Option ℕ
step_of m t v =
    cond (nat_lt t (state_count m) && nat_lt v (move_count m))
    (option_map (number (sizes_of m)) (state_after m (move_at (object_count m) v) (state_from (sizes_of m) (object_count m) t)))
    None

-- a step of a scheme
pub record Step (m : SchemeModel) : Type 0 where
  pub from : ℕ
  pub by : ℕ
  pub to : ℕ
  pub is_step : step_of m from by ≡ Some to

-- the permission that a move is a use of
abbrev pub permission_of : SchemeModel → Move → Permission
permission_of m x = record { subject = x.subject; object = x.object; right = (policy_at m x.policy).right }

abbrev pub label_of : SchemeModel → ℕ → Option Permission
label_of m v = option_map (permission_of m) (move_of m v)

abbrev pub walk_of : SchemeModel → Walk
walk_of m = record { states = state_count m; start = number (sizes_of m) (start_state m); moves = move_count m; step = step_of m }

abbrev pub labels_of : SchemeModel → Labels
labels_of m = record { objects = object_count m; rights = length m.rights; label = label_of m }

abbrev pub scheme_system : SchemeModel → System
scheme_system m = system_of (walk_of m) (labels_of m)

-- what a query asks about
abbrev pub permission_asked : Query → Permission
permission_asked q = record { subject = q.subject; object = q.object; right = q.right }

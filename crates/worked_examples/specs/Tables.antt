-- Worked examples of table systems: what their numbers mean, and what analyses and monitors answer.
use Rattle.std.specs.Prelude.{◌≡◌, ℕ, true, false, List, [], ◌∷◌, map, Some, None, Ok, Err, Result}
use Rattle.std.specs.List.{range_with_len}
use Rattle.walk.specs.declared.records.Found.{Found}
use Rattle.walk.specs.Results.{found_of, witness_of, marks_of}
use Rattle.protection.specs.declared.permission.Permission.{Permission}
use Rattle.protection.specs.Systems.{System, system_of}
use Rattle.protection.specs.Refusals.{Refused}
use Rattle.protection.specs.Answers.{Said}
use Rattle.protection.specs.Analysis.{analysis, analysis_answer}
use Rattle.protection.specs.Histories.{enforce, request, may, state, restart, enforce_answer, request_answer, may_answer, history_leaves, history_grants}
use Rattle.systems.specs.Tables.{Table, table_walk, table_labels, accepts}
use Rattle.worked_examples.specs.Permissions.{permission}
use Rattle.worked_examples.specs.RefusalNumbers.{carrying}

-- the system that the numbers of a table are
abbrev pub of_table : Table → System
of_table t = system_of (table_walk t) (table_labels t)

-- two states, and one move, which is labelled 0 1 0 and leads from the first to the second
abbrev pub two_states : Table
two_states =
    record {
      states = 2;
      moves = 1;
      objects = 2;
      rights = 1;
      start = 0;
      labels = 0 ∷ 1 ∷ 0 ∷ [];
      entries = 2 ∷ 0 ∷ [];
    }

-- three states, of which the last is the start, and four moves, of which 1 and 2 share a label;
-- from state 0 these lead to 1 and to 2, from state 1 the moves 0, 2 and 3 lead to 1, 0 and 2, and
-- from state 2 the move 0 leads to 0
abbrev pub three_states : Table
three_states =
    record {
      states = 3;
      moves = 4;
      objects = 2;
      rights = 2;
      start = 2;
      labels = 0 ∷ 1 ∷ 1 ∷ 1 ∷ 0 ∷ 0 ∷ 1 ∷ 0 ∷ 0 ∷ 0 ∷ 0 ∷ 1 ∷ [];
      entries = 0 ∷ 2 ∷ 3 ∷ 0 ∷ 2 ∷ 0 ∷ 1 ∷ 3 ∷ 1 ∷ 0 ∷ 0 ∷ 0 ∷ [];
    }

abbrev pub three : System
three = of_table three_states

-- the label that its moves 1 and 2 share
abbrev pub shared : Permission
shared = permission 1 0 0

-- the same with other numbers
abbrev pub starting_at : ℕ → Table
starting_at s = record three_states { start = s }

abbrev pub with_labels : List ℕ → Table
with_labels ls = record three_states { labels = ls }

abbrev pub with_entries : List ℕ → Table
with_entries es = record three_states { entries = es }

-- an analysis with tables of just the length that is needed
abbrev pub answer : Table → Permission → Result Said Refused
answer t q = analysis_answer (of_table t) q t.states t.states t.states

abbrev pub listed : Table → Permission → List Found
listed t q = found_of (analysis (of_table t) q)

abbrev pub marks : Table → Permission → List ℕ
marks t q = marks_of t.states (listed t q)

abbrev pub witness : Table → Permission → List ℕ
witness t q = witness_of (analysis (of_table t) q)

-- a listed state, with the index of the state that it was found from, and the move
abbrev pub found : ℕ → ℕ → ℕ → Found
found s parent mv = record { state = s; parent = parent; mv = mv }

abbrev pub leaks : ℕ → ℕ → ℕ → Result Said Refused
leaks found tried length =
    Ok (record { leaks = true; found = found; tried = tried; length = length })

abbrev pub never : ℕ → ℕ → Result Said Refused
never found tried = Ok (record { leaks = false; found = found; tried = tried; length = 0 })

pub record TwoStates : Type 0 where
  pub accepted : accepts two_states ≡ true
  pub leads : (of_table two_states).walk.step 0 0 ≡ Some 1
  pub no_step : (of_table two_states).walk.step 1 0 ≡ None
  pub leak : answer two_states (permission 0 1 0) ≡ leaks 1 1 1
  pub leak_witness : witness two_states (permission 0 1 0) ≡ 0 ∷ []
  pub never_used : answer two_states (permission 1 0 0) ≡ never 2 2

pub record ThreeStates : Type 0 where
  pub accepted : accepts three_states ≡ true
  -- steps, state by state
  pub steps_of_0 : map (three.walk.step 0) (range_with_len 0 5)
      ≡ None ∷ Some 1 ∷ Some 2 ∷ None ∷ None ∷ []
  pub steps_of_1 : map (three.walk.step 1) (range_with_len 0 5)
      ≡ Some 1 ∷ None ∷ Some 0 ∷ Some 2 ∷ None ∷ []
  pub steps_of_2 : map (three.walk.step 2) (range_with_len 0 5)
      ≡ Some 0 ∷ None ∷ None ∷ None ∷ None ∷ []
  pub no_state_3 : three.walk.step 3 0 ≡ None
  pub first_label : three.label 0 ≡ Some (permission 0 1 1)
  pub shared_label : map three.label (1 ∷ 2 ∷ []) ≡ Some shared ∷ Some shared ∷ []
  pub last_label : three.label 3 ≡ Some (permission 0 0 1)
  pub no_move_4 : three.label 4 ≡ None
  -- a leak of two moves, one of three, and never
  pub leak_of_2 : answer three_states shared ≡ leaks 2 6 2
  pub witness_of_2 : witness three_states shared ≡ 0 ∷ 1 ∷ []
  pub marks_of_2 : marks three_states shared ≡ 2 ∷ 0 ∷ 1 ∷ []
  pub leak_of_3 : answer three_states (permission 0 0 1) ≡ leaks 3 12 3
  pub witness_of_3 : witness three_states (permission 0 0 1) ≡ 0 ∷ 1 ∷ 3 ∷ []
  pub no_move_so_labelled : answer three_states (permission 0 1 0) ≡ never 3 12
  pub list_of_never : listed three_states (permission 0 1 0)
      ≡ found 2 0 0 ∷ found 0 0 0 ∷ found 1 1 1 ∷ []
  pub marks_of_never : marks three_states (permission 0 1 0) ≡ 2 ∷ 3 ∷ 1 ∷ []
  pub witness_of_never : witness three_states (permission 0 1 0) ≡ []
  -- analyses that are refused: 30, and then 31
  pub out_of_counts : analysis_answer three (permission 0 0 2) 3 3 3 ≡ Err (carrying 30 [])
  pub short_marks : analysis_answer three (permission 0 1 0) 2 3 3 ≡ Err (carrying 31 [])
  pub short_list : analysis_answer three (permission 0 1 0) 3 2 3 ≡ Err (carrying 31 [])
  pub short_witness : analysis_answer three (permission 0 1 0) 3 3 2 ≡ Err (carrying 31 [])
  pub both_faults : analysis_answer three (permission 2 0 0) 0 0 0 ≡ Err (carrying 30 [])
  -- a monitor: the lowest enabled move of a label, and the start
  pub lower_of_two : request_answer three 0 shared ≡ Ok 1
  pub the_enabled_one : request_answer three 1 shared ≡ Ok 2
  pub none_enabled : request_answer three 2 shared ≡ Err (carrying 61 [])
  pub no_such_request : request_answer three 0 (permission 1 0 2) ≡ Err (carrying 62 [])
  pub may_be_used : map (λ s. may_answer three s shared) (0 ∷ 1 ∷ 2 ∷ [])
      ≡ Ok true ∷ Ok true ∷ Ok false ∷ []
  pub may_out_of_counts : may_answer three 0 (permission 0 2 0) ≡ Err (carrying 62 [])
  pub enforced : enforce_answer three 1 3 ≡ Ok 3
  pub not_enabled : enforce_answer three 0 3 ≡ Err (carrying 61 [])
  pub no_such_move : enforce_answer three 0 4 ≡ Err (carrying 60 [])
  pub new_monitor : history_leaves three [] ≡ 2
  pub after_request : history_leaves three (enforce 0 ∷ request shared ∷ []) ≡ 1
  pub granted : history_grants three (enforce 0 ∷ request shared ∷ request shared ∷ [])
      ≡ 0 ∷ 1 ∷ 2 ∷ []
  pub asking_changes_nothing : history_leaves three (enforce 0 ∷ may shared ∷ state ∷ []) ≡ 0
  pub refused_changes_nothing :
      history_leaves three (enforce 1 ∷ enforce 7 ∷ request (permission 0 0 1) ∷ [])
      ≡ 2
  pub restarted : history_leaves three (enforce 0 ∷ enforce 1 ∷ restart ∷ []) ≡ 2

-- three states, of which the second is the start, and two moves of one label: move 0 leads from state
-- 2 to 1, move 1 from 0 to 2, from 1 to 0 and from 2 to 0
abbrev pub one_label : Table
one_label =
    record {
      states = 3;
      moves = 2;
      objects = 2;
      rights = 1;
      start = 1;
      labels = 0 ∷ 1 ∷ 0 ∷ 0 ∷ 1 ∷ 0 ∷ [];
      entries = 0 ∷ 3 ∷ 0 ∷ 1 ∷ 2 ∷ 1 ∷ [];
    }

pub record OneLabel : Type 0 where
  pub accepted : accepts one_label ≡ true
  pub steps_of_move_0 : map (λ s. (of_table one_label).walk.step s 0) (range_with_len 0 4)
      ≡ None ∷ None ∷ Some 1 ∷ None ∷ []
  pub steps_of_move_1 : map (λ s. (of_table one_label).walk.step s 1) (range_with_len 0 4)
      ≡ Some 2 ∷ Some 0 ∷ Some 0 ∷ None ∷ []
  pub labels : map (of_table one_label).label (range_with_len 0 3)
      ≡ Some (permission 0 1 0) ∷ Some (permission 0 1 0) ∷ None ∷ []
  pub leak : answer one_label (permission 0 1 0) ≡ leaks 1 2 1
  pub leak_witness : witness one_label (permission 0 1 0) ≡ 1 ∷ []
  pub never_used : answer one_label (permission 1 0 0) ≡ never 3 6
  pub list : listed one_label (permission 1 0 0) ≡ found 1 0 0 ∷ found 0 0 1 ∷ found 2 1 1 ∷ []
  pub marked : marks one_label (permission 1 0 0) ≡ 2 ∷ 1 ∷ 3 ∷ []
  -- the lower of the two is requested where both are enabled
  pub requested : map (λ s. request_answer (of_table one_label) s (permission 0 1 0)) (0 ∷ 1 ∷ 2 ∷ [])
      ≡ Ok 1 ∷ Ok 1 ∷ Ok 0 ∷ []
  pub led_to : map (history_leaves (of_table one_label))
      ([] ∷ (request (permission 0 1 0) ∷ []) ∷ (enforce 1 ∷ enforce 1 ∷ []) ∷ [])
      ≡ 1 ∷ 0 ∷ 2 ∷ []
  pub may_be_used : may_answer (of_table one_label) 0 (permission 0 1 0) ≡ Ok true
  pub may_not_be_used : may_answer (of_table one_label) 0 (permission 1 0 0) ≡ Ok false
  pub restarted : history_leaves (of_table one_label) (enforce 1 ∷ restart ∷ []) ≡ 1

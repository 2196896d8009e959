-- A worked example with three of each kind: ann hands a key over to bob, bob unlocks the door, and
-- ann, without the key, enters. Policies are numbered in another order than their rights.
use Rattle.std.specs.Prelude.{◌≡◌, [], ◌∷◌, Some, None}
use Rattle.walk.specs.Results.{found_of, witness_of}
use Rattle.protection.specs.Analysis.{analysis}
use Rattle.protection.specs.Histories.{enforce, history_leaves}
use Rattle.scheme.specs.Models.{SchemeModel}
use Rattle.scheme.specs.Counts.{state_count, move_count}
use Rattle.scheme.specs.Sizes.{sizes_of}
use Rattle.record.specs.States.{number, state_from}
use Rattle.record.specs.Systems.{start_state, step_of, label_of, scheme_system}
use Rattle.worked_examples.specs.Permissions.{permission}
use Rattle.worked_examples.specs.Numbers.{three}

-- badge, key and open of ann, bob and the door; each is 0 or null, so that the weights are 1, 2 and
-- 4, an object has 1 + 2 × 2 × 2 = 9 states, and the objects count 1, 9 and 81
pub record Handover (m : SchemeModel) : Type 0 where
  pub states : state_count m ≡ 729
  pub moves : move_count m ≡ 27
  -- 4 + 2 × 9 + 1 × 81
  pub start : number (sizes_of m) (start_state m) ≡ 103
  pub first_state : state_from (sizes_of m) 3 103
      ≡ three (Some 0) (Some 0) None ∷ three (Some 0) None None ∷ three None None None ∷ []
  -- bob has the key and the door is open: 2 + 4 × 9 + 5 × 81
  pub last_state : state_from (sizes_of m) 3 443
      ≡ three (Some 0) None None ∷ three (Some 0) (Some 0) None ∷ three None None (Some 0) ∷ []
  -- policy 0 is for right 2, policy 1 for right 0, policy 2 for right 1: the moves are
  -- 0 × 9 + 0 × 3 + 1, 1 × 9 + 1 × 3 + 2 and 2 × 9 + 0 × 3 + 2
  pub handover_label : label_of m 1 ≡ Some (permission 0 1 2)
  pub turn_label : label_of m 14 ≡ Some (permission 1 2 0)
  pub pass_label : label_of m 20 ≡ Some (permission 0 2 1)
  pub last_label : label_of m 26 ≡ Some (permission 2 2 1)
  pub no_label : label_of m 27 ≡ None
  pub hands_over : step_of m 103 1 ≡ Some 119
  pub unlocks : step_of m 119 14 ≡ Some 443
  pub unlocks_first : step_of m 103 11 ≡ Some 427
  -- to enter changes nothing
  pub enters : step_of m 443 20 ≡ Some 443
  pub enters_not_with_the_key : step_of m 427 20 ≡ None
  pub locked_out : step_of m 119 20 ≡ None
  pub left_in :
      history_leaves (scheme_system m) (enforce 1 ∷ enforce 14 ∷ enforce 20 ∷ enforce 3 ∷ [])
      ≡ 427
  -- can ann come to enter the door?
  pub witness : witness_of (analysis (scheme_system m) (permission 0 2 1)) ≡ 1 ∷ 14 ∷ 20 ∷ []
  pub listed : found_of (analysis (scheme_system m) (permission 0 2 1))
      ≡ record { state = 103; parent = 0; mv = 0 } ∷ record { state = 119; parent = 0; mv = 1 }
      ∷ record { state = 427; parent = 0; mv = 11 }
      ∷ record { state = 443; parent = 1; mv = 14 } ∷ []

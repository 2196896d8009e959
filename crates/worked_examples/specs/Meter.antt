-- The worked example of the documents: the meter, its states, steps and labels, an analysis and a
-- monitor.
use Rattle.std.specs.Prelude.{◌≡◌, ℕ, true, List, [], ◌∷◌, map, Some, None, Ok, Err, Option}
use Rattle.walk.specs.Results.{found_of, witness_of}
use Rattle.protection.specs.Refusals.{refused}
use Rattle.protection.specs.Analysis.{analysis}
use Rattle.protection.specs.Histories.{enforce, enforce_answer, request_answer, may_answer, history_leaves, history_grants}
use Rattle.scheme.specs.Models.{SchemeModel}
use Rattle.scheme.specs.Counts.{state_count, move_count}
use Rattle.scheme.specs.Sizes.{sizes_of}
use Rattle.codes.specs.Codes.{code}
use Rattle.enforcement.specs.Enforcement.{State}
use Rattle.record.specs.States.{number, state_from}
use Rattle.record.specs.Systems.{object_count, start_state, step_of, label_of, scheme_system}
use Rattle.worked_examples.specs.Permissions.{permission}
use Rattle.worked_examples.specs.Actions.{two}

-- role and left of ann, and of m1
abbrev pub both : Option ℕ → Option ℕ → Option ℕ → Option ℕ → State
both role left role' left' = two role left ∷ two role' left' ∷ []

-- the state of a number, and the codes of its objects
abbrev pub Numbered : SchemeModel → ℕ → State → List ℕ → Type 0
Numbered m n t codes =
    (state_from (sizes_of m) (object_count m) n ≡ t) × (map (code (sizes_of m)) t ≡ codes)

pub record Meter (m : SchemeModel) : Type 0 where
  pub states : state_count m ≡ 169
  pub moves : move_count m ≡ 8
  pub start : number (sizes_of m) (start_state m) ≡ 93
  pub first_state : Numbered m 93 (both (Some 0) None None (Some 1)) (2 ∷ 7 ∷ [])
  pub driven : Numbered m 54 (both (Some 0) None None (Some 0)) (2 ∷ 4 ∷ [])
  pub refilled : Numbered m 132 (both (Some 0) None None (Some 2)) (2 ∷ 10 ∷ [])
  pub last_state : Numbered m 168 (both (Some 1) (Some 2) (Some 1) (Some 2)) (12 ∷ 12 ∷ [])
  pub drives : step_of m 93 1 ≡ Some 54
  pub refills : step_of m 54 5 ≡ Some 132
  pub drives_again : step_of m 132 1 ≡ Some 93
  pub refills_not_at_first : step_of m 93 5 ≡ None
  -- what is no state, and what is no move, has no step
  pub no_state : step_of m 169 1 ≡ None
  pub no_move : step_of m 93 8 ≡ None
  -- ann (0) and m1 (1), each with each: four moves for the right drive (0), and four for load (1)
  pub drive_labels : map (label_of m) (0 ∷ 1 ∷ 2 ∷ 3 ∷ [])
      ≡ map Some (permission 0 0 0 ∷ permission 0 1 0 ∷ permission 1 0 0 ∷ permission 1 1 0 ∷ [])
  pub load_labels : map (label_of m) (4 ∷ 5 ∷ 6 ∷ 7 ∷ [])
      ≡ map Some (permission 0 0 1 ∷ permission 0 1 1 ∷ permission 1 0 1 ∷ permission 1 1 1 ∷ [])
  pub no_label : label_of m 8 ≡ None
  -- move 0 pairs ann with herself
  pub never_with_herself : (x : ℕ) → step_of m x 0 ≡ None
  -- of the question whether ann can come to load m1
  pub listed : found_of (analysis (scheme_system m) (permission 0 1 1))
      ≡ record { state = 93; parent = 0; mv = 0 } ∷ record { state = 54; parent = 0; mv = 1 } ∷ []
  pub witness : witness_of (analysis (scheme_system m) (permission 0 1 1)) ≡ 1 ∷ 5 ∷ []
  -- a new monitor grants the two moves, and is left in state 132
  pub granted_in_turn : history_grants (scheme_system m) (enforce 1 ∷ enforce 5 ∷ []) ≡ 1 ∷ 5 ∷ []
  pub left_in : history_leaves (scheme_system m) (enforce 1 ∷ enforce 5 ∷ []) ≡ 132
  pub no_such_move : enforce_answer (scheme_system m) 93 8 ≡ Err (refused 60)
  pub not_enabled_yet : enforce_answer (scheme_system m) 93 5 ≡ Err (refused 61)
  pub requested : request_answer (scheme_system m) 93 (permission 0 1 0) ≡ Ok 1
  pub may_be_driven : may_answer (scheme_system m) 93 (permission 0 1 0) ≡ Ok true
  pub no_third_right : may_answer (scheme_system m) 93 (permission 0 1 2) ≡ Err (refused 62)

-- Worked examples of numbers: counts, the codes of objects, the numbers of states and of moves.
use Rattle.std.specs.Prelude.{◌≡◌, ℕ, true, false, List, [], ◌∷◌, map, replicate, Some, None, Option}
use Rattle.std.specs.List.{range_with_len}
use Rattle.scheme.specs.Models.{bare_model}
use Rattle.scheme.specs.Counts.{state_count, move_count}
use Rattle.scheme.specs.Sizes.{size_states}
use Rattle.codes.specs.Objects.{ObjectState, absent, there}
use Rattle.codes.specs.Codes.{code, object_from, value_in, updated_code}
use Rattle.record.specs.declared.moves.Move.{Move}
use Rattle.record.specs.States.{state_fits, number, state_from}
use Rattle.record.specs.Moves.{move_at}
use Rattle.worked_examples.specs.Actions.{two}
use Rattle.worked_examples.specs.Limits.{scheme_with, policy_with}

-- all objects with attributes of the sizes 2 and 3, in the order of their codes: first absent, then
-- by the second attribute, and in it by the first
abbrev pub all_objects : List ObjectState
all_objects =
    absent
    ∷ two None None ∷ two (Some 0) None ∷ two (Some 1) None
    ∷ two None (Some 0) ∷ two (Some 0) (Some 0) ∷ two (Some 1) (Some 0)
    ∷ two None (Some 1) ∷ two (Some 0) (Some 1) ∷ two (Some 1) (Some 1)
    ∷ two None (Some 2) ∷ two (Some 0) (Some 2) ∷ two (Some 1) (Some 2)
    ∷ []

-- three values, or nulls
abbrev pub three : Option ℕ → Option ℕ → Option ℕ → ObjectState
three a b c = there (a ∷ b ∷ c ∷ [])

-- one value, or null
abbrev pub one : Option ℕ → ObjectState
one a = there (a ∷ [])

-- this policy, on this subject and object
abbrev pub move : ℕ → ℕ → ℕ → Move
move p s o = record { policy = p; subject = s; object = o }

pub record Numbers : Type 0 where
  -- a new scheme record has one state and no move
  pub bare_states : state_count bare_model ≡ 1
  pub bare_moves : move_count bare_model ≡ 0
  -- the states of one object: absent, or a value or null of each attribute
  pub no_attribute : size_states [] ≡ 2
  pub one_value : size_states (1 ∷ []) ≡ 3
  pub two_attributes : size_states (2 ∷ 3 ∷ []) ≡ 13
  pub three_attributes : size_states (2 ∷ 10 ∷ 30 ∷ []) ≡ 1024
  -- 1 and 251 to the power of 4
  pub largest : size_states (250 ∷ 250 ∷ 250 ∷ 250 ∷ []) ≡ 3969126002
  -- of three objects; and the moves of two policies
  pub three_objects : state_count (scheme_with 1 1 3 0 []) ≡ 27
  pub two_policies : move_count (scheme_with 1 1 3 0 (replicate 2 (policy_with 0 0))) ≡ 18
  pub no_policy : move_count (scheme_with 1 1 3 0 []) ≡ 0
  -- all codes of two attributes, of the sizes 2 and 3
  pub codes : map (code (2 ∷ 3 ∷ [])) all_objects ≡ range_with_len 0 13
  pub objects : map (object_from (2 ∷ 3 ∷ [])) (range_with_len 0 13) ≡ all_objects
  -- with the sizes 1, 4 and 2 the weights are 1, 2 and 10: 1 + 1 × 1 + 3 × 2 + 2 × 10
  pub code_of_three : code (1 ∷ 4 ∷ 2 ∷ []) (three (Some 0) (Some 2) (Some 1)) ≡ 28
  pub code_of_nulls : code (1 ∷ 4 ∷ 2 ∷ []) (three None (Some 3) None) ≡ 9
  pub last_code : code (1 ∷ 4 ∷ 2 ∷ []) (three (Some 0) (Some 3) (Some 1)) ≡ 30
  pub object_of_28 : object_from (1 ∷ 4 ∷ 2 ∷ []) 28 ≡ three (Some 0) (Some 2) (Some 1)
  -- an attribute read, and changed, on the code
  pub read_first : value_in (2 ∷ 3 ∷ []) 9 0 ≡ Some 1
  pub read_second : value_in (2 ∷ 3 ∷ []) 12 1 ≡ Some 2
  pub read_null : value_in (2 ∷ 3 ∷ []) 10 0 ≡ None
  pub changed : updated_code (2 ∷ 3 ∷ []) 9 1 (Some 2) ≡ Some 12
  pub made_null : updated_code (2 ∷ 3 ∷ []) 9 0 None ≡ Some 7
  pub at_the_size : updated_code (2 ∷ 3 ∷ []) 9 1 (Some 3) ≡ None
  pub absent_unchanged : updated_code (2 ∷ 3 ∷ []) 0 0 None ≡ None
  pub no_code : updated_code (2 ∷ 3 ∷ []) 13 0 None ≡ None
  -- an attribute that does not exist is null, and null is all that it takes
  pub read_missing : value_in (2 ∷ 3 ∷ []) 9 2 ≡ None
  pub missing_stays : updated_code (2 ∷ 3 ∷ []) 9 2 None ≡ Some 9
  pub missing_takes_no_value : updated_code (2 ∷ 3 ∷ []) 9 2 (Some 0) ≡ None
  -- the first object is the lowest digit; an absent one counts 0: 0 + 1 × 3 + 2 × 9
  pub state_with_absent : number (1 ∷ []) (absent ∷ one None ∷ one (Some 0) ∷ []) ≡ 21
  pub state_of_21 : state_from (1 ∷ []) 3 21 ≡ absent ∷ one None ∷ one (Some 0) ∷ []
  pub first_there : number (1 ∷ []) (one (Some 0) ∷ absent ∷ absent ∷ []) ≡ 2
  pub last_there : number (1 ∷ []) (absent ∷ absent ∷ one (Some 0) ∷ []) ≡ 18
  pub all_absent : state_from (1 ∷ []) 3 0 ≡ absent ∷ absent ∷ absent ∷ []
  pub last_state : number (1 ∷ []) (one (Some 0) ∷ one (Some 0) ∷ one (Some 0) ∷ []) ≡ 26
  pub first_of_two_absent : number (2 ∷ 3 ∷ []) (absent ∷ two None (Some 1) ∷ []) ≡ 91
  -- as many objects as there are, and values below their sizes
  pub is_state : state_fits (2 ∷ 3 ∷ []) 2 (two (Some 1) None ∷ absent ∷ []) ≡ true
  pub object_missing : state_fits (2 ∷ 3 ∷ []) 2 (two (Some 1) None ∷ []) ≡ false
  pub value_too_large : state_fits (2 ∷ 3 ∷ []) 2 (absent ∷ two (Some 2) None ∷ []) ≡ false
  -- with three objects the moves of policy 1 are 9 to 17, and 21 is 2 × 9 + 1 × 3 + 0
  pub moves_of_policy_1 : map (move_at 3) (range_with_len 9 9)
      ≡ move 1 0 0 ∷ move 1 0 1 ∷ move 1 0 2 ∷ move 1 1 0 ∷ move 1 1 1 ∷ move 1 1 2 ∷ move 1 2 0
      ∷ move 1 2 1 ∷ move 1 2 2 ∷ []
  pub move_21 : move_at 3 21 ≡ move 2 1 0
  pub move_5_of_two : move_at 2 5 ≡ move 1 0 1

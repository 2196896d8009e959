-- The worked examples of schemes, by computation.
use Rattle.std.proofs.Common.{refl}
use Rattle.worked_examples.specs.Predicates.{Predicates}
use Rattle.worked_examples.specs.Actions.{Actions}
use Rattle.worked_examples.specs.Steps.{Steps}
use Rattle.worked_examples.specs.Numbers.{Numbers}

pub predicates : Predicates
predicates =
    record {
      equal = refl;
      not_equal = refl;
      less = refl;
      at_most = refl;
      greater = refl;
      at_least = refl;
      null_is_not_equal = refl;
      null_is_not_unequal = refl;
      null_is_not_less = refl;
      null_is_not_at_most = refl;
      null_is_not_greater = refl;
      null_is_not_at_least = refl;
      null = refl;
      set = refl;
      null_of_values = refl;
      set_of_values = refl;
      first_of_subject = refl;
      second_of_subject = refl;
      first_of_object = refl;
      second_of_object = refl;
      first_is_not_null = refl;
      first_is_set = refl;
      second_is_not_set = refl;
      missing_is_null = refl;
      object_is_set = refl;
      subject_below_object = refl;
      object_not_below_subject = refl;
      second_above_first = refl;
      null_operand = refl;
      null_beside_itself = refl;
      below_255 = refl;
      none_to_hold = refl;
      both_hold = refl;
      first_fails = refl;
      second_fails = refl;
    }

pub actions : Actions
actions =
    record {
      no_action = refl;
      to_number = refl;
      to_size = refl;
      to_number_of_second = refl;
      to_size_of_second = refl;
      to_term = refl;
      to_smaller_term = refl;
      to_term_at_size = refl;
      to_null_term = refl;
      to_null = refl;
      to_null_again = refl;
      add_nothing = refl;
      add_to_the_last_value = refl;
      add_to_the_size = refl;
      add_beyond_a_byte = refl;
      add_to_null = refl;
      sub_nothing = refl;
      sub_to_zero = refl;
      sub_below_zero = refl;
      sub_from_null = refl;
      destroy_subject = refl;
      destroy_object = refl;
      destroy_both = refl;
      destroy_twice = refl;
      read_destroyed = refl;
      change_destroyed = refl;
      clear_destroyed = refl;
      add_to_destroyed = refl;
      sub_from_destroyed = refl;
      change_the_other = refl;
      assigned_in_turn = refl;
      add_then_add = refl;
      first_fails = refl;
      last_fails = refl;
      sub_below_zero_fails = refl;
      add_one_to_one = refl;
      add_to_the_size_fails = refl;
    }

pub steps : Steps
steps =
    record {
      nothing_asked = refl;
      object_changes = refl;
      the_other_way_round = refl;
      last_changes = refl;
      destroyed = refl;
      itself = refl;
      absent_object = refl;
      absent_subject = refl;
      holds_beforehand = refl;
      would_hold_afterwards = refl;
      one_does_not_hold = refl;
      action_fails = refl;
    }

pub numbers : Numbers
numbers =
    record {
      bare_states = refl;
      bare_moves = refl;
      no_attribute = refl;
      one_value = refl;
      two_attributes = refl;
      three_attributes = refl;
      largest = refl;
      three_objects = refl;
      two_policies = refl;
      no_policy = refl;
      codes = refl;
      objects = refl;
      code_of_three = refl;
      code_of_nulls = refl;
      last_code = refl;
      object_of_28 = refl;
      read_first = refl;
      read_second = refl;
      read_null = refl;
      changed = refl;
      made_null = refl;
      at_the_size = refl;
      absent_unchanged = refl;
      no_code = refl;
      read_missing = refl;
      missing_stays = refl;
      missing_takes_no_value = refl;
      state_with_absent = refl;
      state_of_21 = refl;
      first_there = refl;
      last_there = refl;
      all_absent = refl;
      last_state = refl;
      first_of_two_absent = refl;
      is_state = refl;
      object_missing = refl;
      value_too_large = refl;
      moves_of_policy_1 = refl;
      move_21 = refl;
      move_5_of_two = refl;
    }

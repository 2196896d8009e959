-- The worked examples of texts, by computation.
use Rattle.std.proofs.Common.{◌≡◌, ℕ, ◌<◌, List, length, refl}
use Rattle.std.proofs.lemmas.Bool.{lt-leb}
use Rattle.std.specs.Prelude.{codes}
use Rattle.std.specs.Fmt.{digits}
use Rattle.text.specs.Naming.{size_at}
use Rattle.report.specs.Reports.{annex_output}
use Rattle.worked_examples.specs.Words.{Words}
use Rattle.worked_examples.specs.Cutting.{Cutting}
use Rattle.worked_examples.specs.Order.{Order}
use Rattle.worked_examples.specs.Roles.{Roles}
use Rattle.worked_examples.specs.Limits.{Limits}
use Rattle.worked_examples.specs.Declared.{Declared}
use Rattle.worked_examples.specs.Names.{Names}
use Rattle.worked_examples.specs.RefusedTexts.{RefusedTexts}
use Rattle.worked_examples.specs.Ranks.{Ranks}
use Rattle.worked_examples.specs.RefusalNumbers.{RefusalNumbers}

-- a text of more than 65,535 bytes, whatever they are
too_long : (text : List ℕ) → 65535 < length text → annex_output text ≡ codes "refused 4 0 0\n"
unfolding digits
too_long text long = rw (lt-leb (length text) 65535 long) refl

pub words : Words
unfolding digits
words =
    record {
      first_of_name = refl;
      next_of_name = refl;
      later_in_name = refl;
      names = refl;
      no_names = refl;
      name_of_15 = refl;
      name_of_16 = refl;
      key_words = refl;
      numbers = refl;
      least_number = refl;
      number_of_one_digit = refl;
      number_of_two_digits = refl;
      number_of_three_digits = refl;
      greatest_number = refl;
      no_numbers = refl;
      leading_zeros = refl;
      no_digits = refl;
      term_of_subject = refl;
      term_of_object = refl;
      long_term = refl;
      longer_term = refl;
      no_party = refl;
      no_attribute = refl;
      no_dot = refl;
      equal = refl;
      not_equal = refl;
      less = refl;
      at_most = refl;
      greater = refl;
      at_least = refl;
      no_comparisons = refl;
      dash = refl;
      no_dash = refl;
    }

pub cutting : Cutting
cutting =
    record {
      three_lines = refl;
      last_line_ended = refl;
      empty_text = refl;
      single_line_end = refl;
      two_line_ends = refl;
      space_at_the_end = refl;
      carriage_return = refl;
      two_words = refl;
      more_spaces = refl;
      three_words = refl;
      words_of_a_text = refl;
      no_word = refl;
      spaces_alone = refl;
      tab = refl;
      allowed_bytes = refl;
      bytes_at_the_limits = refl;
      byte_fault = refl;
      leftmost_byte = refl;
      word_of_17 = refl;
      word_of_18 = refl;
      leftmost_word = refl;
      byte_before_word = refl;
    }

pub order : Order
order =
    record {
      attr_word = refl;
      right_word = refl;
      object_word = refl;
      policy_word = refl;
      if_word = refl;
      do_word = refl;
      query_word = refl;
      misspelled = refl;
      other_words = refl;
      attr_below = refl;
      right_below = refl;
      object_below = refl;
      policy_below = refl;
      if_below = refl;
      do_below = refl;
      query_below = refl;
      attr_counts = refl;
      right_counts = refl;
      object_counts = refl;
      policy_counts = refl;
      if_counts = refl;
      do_counts = refl;
      query_counts = refl;
    }

pub roles : Roles
roles =
    record {
      attr_line = refl;
      right_line = refl;
      object_line = refl;
      policy_line = refl;
      test_line = refl;
      comparison_line = refl;
      destroy_line = refl;
      to_line = refl;
      add_line = refl;
      sub_line = refl;
      query_line = refl;
      new_name = refl;
      declared_right = refl;
      declared_object = refl;
      size = refl;
      value = refl;
      term = refl;
      operand = refl;
      source = refl;
      comparison = refl;
      amount = refl;
      test = refl;
      verb = refl;
      destroy = refl;
      party = refl;
    }

pub limits : Limits
unfolding size_at
limits =
    record {
      attributes = refl;
      rights = refl;
      objects = refl;
      policies = refl;
      queries = refl;
      predicates = refl;
      actions = refl;
      none_without_a_policy = refl;
      predicates_below_a_full_policy = refl;
      actions_below_a_full_policy = refl;
      one_attribute_more = refl;
      fourth_attribute = refl;
      size_1 = refl;
      size_250 = refl;
      sizes_of_values = refl;
      most_states = (_, (refl, refl));
      more_states = (_, (refl, refl));
      more_are_refused = (_, (refl, refl));
    }

pub declared : Declared
unfolding size_at
declared =
    record {
      meter = refl;
      handover = refl;
      every_clause = refl;
    }

pub names : Names
names =
    record {
      first = refl;
      second = refl;
      third = refl;
      no_such_name = refl;
      no_names = refl;
      of_attributes = refl;
      of_rights = refl;
      of_objects = refl;
      of_policies = refl;
      of_other_lines = refl;
      values = refl;
      value_at_the_size = refl;
      second_at_the_size = refl;
      value_missing = refl;
      value_too_many = refl;
      rights = refl;
      no_such_right = refl;
      handover_is_well_formed = refl;
    }

pub refused_texts : RefusedTexts
unfolding digits size_at
refused_texts =
    record {
      tab = refl;
      byte_127 = refl;
      byte_255 = refl;
      carriage_return = refl;
      long_word = refl;
      long_text = too_long;
      unknown = refl;
      attribute_too_late = refl;
      if_without_policy = refl;
      if_below_do = refl;
      query_of_three = refl;
      object_of_four = refl;
      no_name = refl;
      no_comparison = refl;
      no_verb = refl;
      used_object = refl;
      used_policy = refl;
      no_right = refl;
      no_object = refl;
      no_attribute = refl;
      no_attribute_of_operand = refl;
      size_0 = refl;
      size_251 = refl;
      value_at_the_size = refl;
      fifth_attribute = refl;
      seventh_predicate = refl;
      without_attribute = refl;
      without_right = refl;
      without_object = refl;
      empty_text = refl;
      single_line_end = refl;
      many_states = refl;
    }

pub ranks : Ranks
unfolding digits size_at
ranks =
    record {
      byte_before_length = refl;
      length_before_kind = refl;
      order_before_count = refl;
      count_before_form = refl;
      form_before_most = refl;
      most_before_name = refl;
      form_before_value = refl;
      name_left_of_size = refl;
      name_left_of_right = refl;
      leftmost_value = refl;
      undeclared_subject_first = refl;
      first_line = refl;
      line_before_end = refl;
      kinds_before_states = refl;
    }

pub refusal_numbers : RefusalNumbers
refusal_numbers =
    record {
      byte = refl;
      long_word = refl;
      long_text = refl;
      kind = refl;
      count = refl;
      form = refl;
      byte_of_line = refl;
      used = refl;
      undefined = refl;
      range = refl;
      most = refl;
      missing = refl;
      states = refl;
      kind_of_line = refl;
      word_of_line = refl;
      whole_text = refl;
      query_out_of_counts = refl;
      short_table = refl;
      counts = refl;
      lengths = refl;
      start = refl;
      label = refl;
      entry = refl;
      full = refl;
      lock_out_of_counts = refl;
      no_such_move = refl;
      not_enabled = refl;
      use_out_of_counts = refl;
    }

-- The worked examples of permissions, tables and locks, by computation.
use Rattle.std.proofs.Common.{refl}
use Rattle.walk.specs.Search.{try_moves, take_states}
use Rattle.protection.specs.Histories.{leaves, grants}
use Rattle.systems.specs.Tables.{refusal}
use Rattle.worked_examples.specs.Permissions.{Permissions}
use Rattle.worked_examples.specs.Tables.{TwoStates, ThreeStates, OneLabel}
use Rattle.worked_examples.specs.TableRefusals.{TableRefusals}
use Rattle.worked_examples.specs.Locks.{Locks}

pub permissions : Permissions
permissions =
    record {
      first = refl;
      last = refl;
      no_such_subject = refl;
      no_such_object = refl;
      no_such_right = refl;
      nothing_within_no_objects = refl;
      nothing_within_no_rights = refl;
      same_as_itself = refl;
      another_subject = refl;
      another_object = refl;
      another_right = refl;
      exchanged = refl;
      its_label = refl;
      another_label = refl;
      no_label = refl;
    }

pub two_states : TwoStates
unfolding try_moves take_states refusal
two_states =
    record {
      accepted = refl;
      leads = refl;
      no_step = refl;
      leak = refl;
      leak_witness = refl;
      never_used = refl;
    }

pub three_states : ThreeStates
unfolding try_moves take_states leaves grants refusal
three_states =
    record {
      accepted = refl;
      steps_of_0 = refl;
      steps_of_1 = refl;
      steps_of_2 = refl;
      no_state_3 = refl;
      first_label = refl;
      shared_label = refl;
      last_label = refl;
      no_move_4 = refl;
      leak_of_2 = refl;
      witness_of_2 = refl;
      marks_of_2 = refl;
      leak_of_3 = refl;
      witness_of_3 = refl;
      no_move_so_labelled = refl;
      list_of_never = refl;
      marks_of_never = refl;
      witness_of_never = refl;
      out_of_counts = refl;
      short_marks = refl;
      short_list = refl;
      short_witness = refl;
      both_faults = refl;
      lower_of_two = refl;
      the_enabled_one = refl;
      none_enabled = refl;
      no_such_request = refl;
      may_be_used = refl;
      may_out_of_counts = refl;
      enforced = refl;
      not_enabled = refl;
      no_such_move = refl;
      new_monitor = refl;
      after_request = refl;
      granted = refl;
      asking_changes_nothing = refl;
      refused_changes_nothing = refl;
      restarted = refl;
    }

pub one_label : OneLabel
unfolding try_moves take_states leaves grants refusal
one_label =
    record {
      accepted = refl;
      steps_of_move_0 = refl;
      steps_of_move_1 = refl;
      labels = refl;
      leak = refl;
      leak_witness = refl;
      never_used = refl;
      list = refl;
      marked = refl;
      requested = refl;
      led_to = refl;
      may_be_used = refl;
      may_not_be_used = refl;
      restarted = refl;
    }

pub table_refusals : TableRefusals
unfolding refusal
table_refusals =
    record {
      bare_accepted = refl;
      three_accepted = refl;
      at_the_most = refl;
      at_the_least = refl;
      no_state = refl;
      more_states = refl;
      more_moves = refl;
      more_objects = refl;
      more_rights = refl;
      no_state_refused = refl;
      lengths_match = refl;
      label_number_less = refl;
      label_number_more = refl;
      entry_less = refl;
      entry_more = refl;
      entry_more_refused = refl;
      last_state = refl;
      no_such_start = refl;
      no_such_subject = refl;
      no_such_object = refl;
      no_such_right = refl;
      first_of_two_labels = refl;
      no_such_step = refl;
      first_of_two_entries = refl;
      counts_before_lengths = refl;
      lengths_before_start = refl;
      start_before_label = refl;
      label_before_entry = refl;
    }

pub locks : Locks
unfolding try_moves take_states
locks =
    record {
      locked_never = refl;
      another_locked = refl;
      locked_moves = refl;
      other_moves = refl;
      start_stays = refl;
      label_stays = refl;
      never_granted = refl;
      opens_less = refl;
      request_refused = refl;
      may_says_no = refl;
      first_lock = refl;
      first_listed = refl;
      second_lock = refl;
      second_listed = refl;
      locked_again = refl;
      listed_once = refl;
      no_such_subject = refl;
      no_such_object = refl;
      no_such_right = refl;
      nothing_listed = refl;
      sixteenth = refl;
      sixteen_listed = refl;
      seventeenth = refl;
      still_sixteen = refl;
      listed_in_a_full_list = refl;
      counts_before_room = refl;
    }

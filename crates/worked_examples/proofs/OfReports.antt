-- The worked examples of whole reports, by computation; one of them, of every state, by cases.
use Rattle.std.proofs.Common.{◌≡◌, ℕ, Bool, true, false, cond, ◌&&◌, ltb, None, Option, refl}
use Rattle.std.specs.Fmt.{digits}
use Rattle.walk.specs.Search.{try_moves, take_states}
use Rattle.protection.specs.Histories.{leaves, grants}
use Rattle.text.specs.Naming.{size_at}
use Rattle.worked_examples.specs.Declared.{meter_scheme, handover_scheme}
use Rattle.worked_examples.specs.Meter.{Meter}
use Rattle.worked_examples.specs.Handover.{Handover}
use Rattle.worked_examples.specs.Reports.{Reports}

-- nothing, whatever the condition
nothing : (b : Bool) → cond {A = Option ℕ} (b && true) None None ≡ None
nothing true = refl
nothing false = refl

meter_is : Meter meter_scheme
unfolding try_moves take_states leaves grants
meter_is =
    record {
      states = refl;
      moves = refl;
      start = refl;
      first_state = (refl, refl);
      driven = (refl, refl);
      refilled = (refl, refl);
      last_state = (refl, refl);
      drives = refl;
      refills = refl;
      drives_again = refl;
      refills_not_at_first = refl;
      no_state = refl;
      no_move = refl;
      drive_labels = refl;
      load_labels = refl;
      no_label = refl;
      never_with_herself = λ x. nothing (ltb x 169);
      listed = refl;
      witness = refl;
      granted_in_turn = refl;
      left_in = refl;
      no_such_move = refl;
      not_enabled_yet = refl;
      requested = refl;
      may_be_driven = refl;
      no_third_right = refl;
    }

handover_is : Handover handover_scheme
unfolding try_moves take_states leaves grants
handover_is =
    record {
      states = refl;
      moves = refl;
      start = refl;
      first_state = refl;
      last_state = refl;
      handover_label = refl;
      turn_label = refl;
      pass_label = refl;
      last_label = refl;
      no_label = refl;
      hands_over = refl;
      unlocks = refl;
      unlocks_first = refl;
      enters = refl;
      enters_not_with_the_key = refl;
      locked_out = refl;
      left_in = refl;
      witness = refl;
      listed = refl;
    }

pub reports : Reports
unfolding digits size_at try_moves take_states
reports =
    record {
      meter_is = (_, (refl, meter_is));
      meter_prints = refl;
      meter_is_written = (_, (refl, refl));
      handover_is = (_, (refl, handover_is));
      handover_prints = refl;
      handover_is_written = (_, (refl, refl));
      every_clause_is_written = (_, (refl, refl));
      most_prints = refl;
      answered_prints = refl;
      unanswered_prints = refl;
    }

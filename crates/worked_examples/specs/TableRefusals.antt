-- Worked examples of numbers that a table system refuses.
use Rattle.std.specs.Prelude.{◌≡◌, true, false, [], ◌∷◌, Ok, Err}
use Rattle.systems.specs.Tables.{bare, counts_out, lengths_out, fill_answer}
use Rattle.worked_examples.specs.RefusalNumbers.{carrying}
use Rattle.worked_examples.specs.Tables.{two_states, three_states, starting_at, with_labels, with_entries}

pub record TableRefusals : Type 0 where
  pub bare_accepted : fill_answer bare ≡ Ok tt
  pub three_accepted : fill_answer three_states ≡ Ok tt
  -- 40: states, moves, objects, rights
  pub at_the_most : counts_out 1048576 4096 255 255 ≡ false
  pub at_the_least : counts_out 1 0 0 0 ≡ false
  pub no_state : counts_out 0 0 0 0 ≡ true
  pub more_states : counts_out 1048577 0 0 0 ≡ true
  pub more_moves : counts_out 1 4097 0 0 ≡ true
  pub more_objects : counts_out 1 0 256 0 ≡ true
  pub more_rights : counts_out 1 0 0 256 ≡ true
  pub no_state_refused : fill_answer (record two_states { states = 0 }) ≡ Err (carrying 40 [])
  -- 41: with 2 states and 4 moves there are 12 label numbers and 8 entries
  pub lengths_match : lengths_out 2 4 12 8 ≡ false
  pub label_number_less : lengths_out 2 4 11 8 ≡ true
  pub label_number_more : lengths_out 2 4 13 8 ≡ true
  pub entry_less : lengths_out 2 4 12 7 ≡ true
  pub entry_more : lengths_out 2 4 12 9 ≡ true
  pub entry_more_refused : fill_answer (record two_states { entries = 2 ∷ 0 ∷ 0 ∷ [] })
      ≡ Err (carrying 41 [])
  -- 42: the states are 0, 1 and 2
  pub last_state : fill_answer (starting_at 2) ≡ Ok tt
  pub no_such_start : fill_answer (starting_at 3) ≡ Err (carrying 42 [])
  -- 43, with the move: subject, object, right, and the first of two
  pub no_such_subject :
      fill_answer (with_labels (0 ∷ 1 ∷ 1 ∷ 1 ∷ 0 ∷ 0 ∷ 2 ∷ 0 ∷ 0 ∷ 0 ∷ 0 ∷ 1 ∷ []))
      ≡ Err (carrying 43 (2 ∷ []))
  pub no_such_object :
      fill_answer (with_labels (0 ∷ 1 ∷ 1 ∷ 1 ∷ 2 ∷ 0 ∷ 1 ∷ 0 ∷ 0 ∷ 0 ∷ 0 ∷ 1 ∷ []))
      ≡ Err (carrying 43 (1 ∷ []))
  pub no_such_right : fill_answer (with_labels (0 ∷ 1 ∷ 1 ∷ 1 ∷ 0 ∷ 0 ∷ 1 ∷ 0 ∷ 0 ∷ 0 ∷ 0 ∷ 2 ∷ []))
      ≡ Err (carrying 43 (3 ∷ []))
  pub first_of_two_labels :
      fill_answer (with_labels (0 ∷ 1 ∷ 1 ∷ 1 ∷ 0 ∷ 9 ∷ 9 ∷ 0 ∷ 0 ∷ 0 ∷ 0 ∷ 1 ∷ []))
      ≡ Err (carrying 43 (1 ∷ []))
  -- 44, with the entry's index: the entries are 0 to 3
  pub no_such_step : fill_answer (with_entries (0 ∷ 2 ∷ 3 ∷ 0 ∷ 2 ∷ 0 ∷ 1 ∷ 3 ∷ 1 ∷ 4 ∷ 0 ∷ 0 ∷ []))
      ≡ Err (carrying 44 (9 ∷ []))
  pub first_of_two_entries :
      fill_answer (with_entries (0 ∷ 2 ∷ 3 ∷ 0 ∷ 4 ∷ 0 ∷ 1 ∷ 9 ∷ 1 ∷ 0 ∷ 0 ∷ 0 ∷ []))
      ≡ Err (carrying 44 (4 ∷ []))
  -- the lower number counts
  pub counts_before_lengths : fill_answer (record two_states { states = 0; entries = [] })
      ≡ Err (carrying 40 [])
  pub lengths_before_start : fill_answer (record three_states { start = 3; entries = [] })
      ≡ Err (carrying 41 [])
  pub start_before_label : fill_answer (record two_states { start = 2; labels = 0 ∷ 2 ∷ 0 ∷ [] })
      ≡ Err (carrying 42 [])
  pub label_before_entry :
      fill_answer (record two_states { labels = 0 ∷ 2 ∷ 0 ∷ []; entries = 3 ∷ 0 ∷ [] })
      ≡ Err (carrying 43 (0 ∷ []))

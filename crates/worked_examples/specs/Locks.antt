-- Worked examples of lock lists: what `lock` answers and lists, and what a system with locks is.
use Rattle.std.specs.Prelude.{◌≡◌, ℕ, false, List, [], ◌∷◌, map, Some, None, Ok, Err}
use Rattle.std.specs.List.{range_with_len}
use Rattle.protection.specs.declared.permission.Permission.{Permission}
use Rattle.protection.specs.Systems.{System, Labels, system_of}
use Rattle.protection.specs.Analysis.{analysis_answer}
use Rattle.protection.specs.Histories.{request_answer, may_answer}
use Rattle.systems.specs.Tables.{Table, table_walk, table_labels}
use Rattle.systems.specs.Locks.{locked_walk, lock_answer, locks_after}
use Rattle.worked_examples.specs.Permissions.{permission}
use Rattle.worked_examples.specs.RefusalNumbers.{carrying}
use Rattle.worked_examples.specs.Tables.{two_states, three_states, shared, leaks, never}

-- a table system in which these permissions are locked
abbrev pub with_locks : List Permission → Table → System
with_locks locks t = system_of (locked_walk locks (table_walk t) (table_labels t)) (table_labels t)

-- the three states with the label locked that two moves share
abbrev pub without_shared : System
without_shared = with_locks (shared ∷ []) three_states

-- so many objects, and one right
abbrev pub labels_of : ℕ → Labels
labels_of objects = record { objects = objects; rights = 1; label = λ m. None }

-- as many permissions, of different subjects
abbrev pub of_subjects : ℕ → List Permission
of_subjects count = map (λ s. permission s 0 0) (range_with_len 0 count)

pub record Locks : Type 0 where
  -- the only label of the two states
  pub locked_never :
      analysis_answer (with_locks (permission 0 1 0 ∷ []) two_states) (permission 0 1 0) 2 2 2
      ≡ never 1 1
  pub another_locked :
      analysis_answer (with_locks (permission 1 0 0 ∷ []) two_states) (permission 0 1 0) 2 2 2
      ≡ leaks 1 1 1
  -- both moves of the label have no step, all other moves keep theirs, and labels stay
  pub locked_moves : map (without_shared.walk.step 0) (1 ∷ 2 ∷ []) ≡ None ∷ None ∷ []
  pub other_moves : map (without_shared.walk.step 1) (0 ∷ 1 ∷ 2 ∷ 3 ∷ [])
      ≡ Some 1 ∷ None ∷ None ∷ Some 2 ∷ []
  pub start_stays : without_shared.walk.start ≡ 2
  pub label_stays : without_shared.label 2 ≡ Some shared
  pub never_granted : analysis_answer without_shared shared 3 3 3 ≡ never 2 8
  pub opens_less : analysis_answer without_shared (permission 0 0 1) 3 3 3 ≡ never 2 8
  pub request_refused : request_answer without_shared 0 shared ≡ Err (carrying 61 [])
  pub may_says_no : may_answer without_shared 0 shared ≡ Ok false
  -- `lock` answers how many are listed; the new one stands last
  pub first_lock : lock_answer (labels_of 2) [] shared ≡ Ok 1
  pub first_listed : locks_after (labels_of 2) [] shared ≡ shared ∷ []
  pub second_lock : lock_answer (labels_of 2) (shared ∷ []) (permission 0 1 0) ≡ Ok 2
  pub second_listed : locks_after (labels_of 2) (shared ∷ []) (permission 0 1 0)
      ≡ shared ∷ permission 0 1 0 ∷ []
  pub locked_again : lock_answer (labels_of 2) (shared ∷ permission 0 1 0 ∷ []) shared ≡ Ok 2
  pub listed_once : locks_after (labels_of 2) (shared ∷ permission 0 1 0 ∷ []) shared
      ≡ shared ∷ permission 0 1 0 ∷ []
  -- 51: out of the counts
  pub no_such_subject : lock_answer (labels_of 2) [] (permission 2 0 0) ≡ Err (carrying 51 [])
  pub no_such_object : lock_answer (labels_of 2) [] (permission 0 2 0) ≡ Err (carrying 51 [])
  pub no_such_right : lock_answer (labels_of 2) [] (permission 0 0 1) ≡ Err (carrying 51 [])
  pub nothing_listed : locks_after (labels_of 2) [] (permission 0 0 1) ≡ []
  -- 50: 16 are listed, and this one is not
  pub sixteenth : lock_answer (labels_of 17) (of_subjects 15) (permission 15 0 0) ≡ Ok 16
  pub sixteen_listed : locks_after (labels_of 17) (of_subjects 15) (permission 15 0 0)
      ≡ of_subjects 16
  pub seventeenth : lock_answer (labels_of 17) (of_subjects 16) (permission 16 0 0)
      ≡ Err (carrying 50 [])
  pub still_sixteen : locks_after (labels_of 17) (of_subjects 16) (permission 16 0 0)
      ≡ of_subjects 16
  pub listed_in_a_full_list : lock_answer (labels_of 17) (of_subjects 16) (permission 3 0 0) ≡ Ok 16
  pub counts_before_room : lock_answer (labels_of 17) (of_subjects 16) (permission 17 0 0)
      ≡ Err (carrying 51 [])

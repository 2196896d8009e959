-- What a search leaves in the three tables that it was lent.
use Rattle.std.specs.Prelude.{◌≡◌, ℕ, ◌+◌, ◌<◌, ◌≤◌, ◌⊎◌, ◌↔◌, List, length, take, drop, slice_index, Some, None, Option}
use Rattle.walk.specs.declared.records.Found.{Found}
use Rattle.walk.specs.declared.records.Ending.{Ending}
use Rattle.walk.specs.declared.records.Ending.TheVariants.{Stopped, Exhausted}
use Rattle.walk.specs.Walks.{Walk}
use Rattle.walk.specs.Search.{entry_at}
use Rattle.walk.specs.Visited.{StoppedVisits, ExhaustedVisits}

-- the three tables that are lent to a search
pub record Tables : Type 0 where
  pub marks : List ℕ
  pub found : List Found
  pub witness : List ℕ

-- such tables, with these entries
abbrev pub tables : List ℕ → List Found → List ℕ → Tables
tables marks found witness = record { marks = marks; found = found; witness = witness }

-- one of them has fewer entries than there are states
abbrev pub SomeShort : ℕ → Tables → Type 0
SomeShort states lent = (length lent.marks < states) ⊎ ((length lent.found < states) ⊎ (length lent.witness < states))

-- the mark of each state is its index in the list plus 1, or 0 where it is not listed
pub record MarksTell (states : ℕ) (list : List Found) (marks : List ℕ) : Type 0 where
  pub listed : (s i : ℕ) → s < states → i < length list
      → (slice_index marks s ≡ i + 1) ↔ ((entry_at list i).state ≡ s)
  pub unlisted : (s : ℕ) → s < states
      → (slice_index marks s ≡ 0) ↔ ((i : ℕ) → i < length list → ¬ ((entry_at list i).state ≡ s))

-- the first n entries of a table may have been written; the rest is as it was
pub record WrittenUpTo {X : Type 0} (n : ℕ) (old new : List X) : Type 0 where
  pub room : n ≤ length new
  pub as_long : length new ≡ length old
  pub rest : drop n new ≡ drop n old

-- `count` states are listed and marked, and a witness of `total` moves is written
pub record Writes (states count total : ℕ) (old new : Tables) : Type 0 where
  pub tell : MarksTell states (take count new.found) new.marks
  pub marks : WrittenUpTo states old.marks new.marks
  pub found : WrittenUpTo count old.found new.found
  pub witness : WrittenUpTo total old.witness new.witness

-- what was visited up to an answer, and what the tables hold then; without one they are as they were
abbrev pub Visits : Walk → (ℕ → Type 0) → Option Ending → (old new : Tables) → Type 0
Visits walk goal None old new = new ≡ old
Visits walk goal (Some (Stopped count tried total)) old new =
    StoppedVisits walk goal (take count new.found) tried (take total new.witness) × Writes walk.states count total old new
Visits walk goal (Some (Exhausted count tried)) old new =
    ExhaustedVisits walk goal (take count new.found) tried × Writes walk.states count 0 old new

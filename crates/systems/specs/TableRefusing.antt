-- When numbers are refused, and how, in the terms of the table of refusals: a condition for each.
use Rattle.std.specs.Prelude.{◌≡◌, ℕ, ◌+◌, ◌*◌, ◌<◌, ◌≤◌, ◌⊎◌, List, [], ◌∷◌, length, Ok, Err, Result, slice_index}
use Rattle.protection.specs.Refusals.{Refused}
use Rattle.systems.specs.declared.numbers.Numbers.{Numbers}

-- the bounds of states, moves, objects and rights
pub record CountBounds (n m o r : ℕ) : Type 0 where
  pub nonempty : 1 ≤ n
  pub most_states : n ≤ 1048576
  pub most_moves : m ≤ 4096
  pub most_objects : o ≤ 255
  pub most_rights : r ≤ 255

-- three label numbers for each move, an entry for each state and move
pub record LengthsMatch (n m ls es : ℕ) : Type 0 where
  pub labels_match : ls ≡ 3 * m
  pub entries_match : es ≡ n * m

-- the label of the move m is within the counts
pub record LabelFits (n : Numbers) (m : ℕ) : Type 0 where
  pub subject_below : slice_index n.labels.now (3 * m) < n.objects
  pub object_below : slice_index n.labels.now (3 * m + 1) < n.objects
  pub right_below : slice_index n.labels.now (3 * m + 2) < n.rights

-- a refusal applies, by its number and the values that it carries: the move of a label, or
-- the index of an entry
pub data Applies (n : Numbers) : ℕ → List ℕ → Type 0 where
  counts : ¬ CountBounds n.states n.moves n.objects n.rights → Applies n 40 []
  lengths : ¬ LengthsMatch n.states n.moves (length n.labels.now) (length n.entries.now)
      → Applies n 41 []
  start : n.states ≤ n.start → Applies n 42 []
  label : (m : ℕ) → m < n.moves → ¬ LabelFits n m → Applies n 43 (m ∷ [])
  entry : (i : ℕ) → i < length n.entries.now → n.states < slice_index n.entries.now i
      → Applies n 44 (i ∷ [])

-- their order: by the number, and then by the value
abbrev pub IsBefore : Refused → Refused → Type 0
IsBefore q r =
    (q.number < r.number)
    ⊎ ((q.number ≡ r.number) × (slice_index q.values 0 < slice_index r.values 0))

-- it applies, and none before it does
pub record IsFirst (n : Numbers) (r : Refused) : Type 0 where
  pub applies : Applies n r.number r.values
  pub none_before : (q : Refused) → IsBefore q r → ¬ Applies n q.number q.values

-- numbers are accepted if no refusal applies, and refused with the first that does
abbrev pub IsJudged : Numbers → Result Unit Refused → Type 0
IsJudged n (Ok _) = (q : Refused) → ¬ Applies n q.number q.values
IsJudged n (Err r) = IsFirst n r

-- the answer is the one that the table of refusals gives, and it gives no other
pub record AnsweredByTheTable (n : Numbers) (answer : Result Unit Refused) : Type 0 where
  pub judged : IsJudged n answer
  pub alone : (other : Result Unit Refused) → IsJudged n other → other ≡ answer

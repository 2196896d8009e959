-- What the bytes that are printed of a text say, line by line and word by word, and what is promised of every answer.
use Rattle.std.specs.Prelude.{◌≡◌, ℕ, ◌<◌, ◌≤◌, Bool, false, cond, ◌⊎◌, List, [], ◌∷◌, ◌++◌, map, length, codes, decimal, Ok, Err, Some, Result, slice_get, slice_index, slice_index_or}
use Rattle.std.specs.List.{flat_map}
use Rattle.scheme.specs.declared.entries.Query.{Query}
use Rattle.scheme.specs.Models.{SchemeModel, object_names, policy_names}
use Rattle.scheme.specs.Counts.{state_count, move_count}
use Rattle.walk.specs.declared.records.Found.{Found}
use Rattle.protection.specs.declared.permission.Permission.{Permission}
use Rattle.protection.specs.Answers.{Said}
use Rattle.protection.specs.Analysis.{analysis_answer}
use Rattle.protection.specs.Safety.{Safety}
use Rattle.record.specs.Moves.{IsMove}
use Rattle.record.specs.Systems.{scheme_system}
use Rattle.words.specs.declared.fault.Report.{Report}
use Rattle.text.specs.declared.fault.SchemeFault.{SchemeFault}
use Rattle.text.specs.Faults.{scheme_report}
use Rattle.words.specs.Joining.{ended}
use Rattle.text.specs.Writing.{parted, name_at, query_words}
use Rattle.report.specs.Readings.{verdict, lines_of, Legible}

-- a line, by its words
abbrev pub Line : Type 0
Line = List (List ℕ)

-- lines as bytes: one space between two words, and byte 10 behind each line
abbrev pub bytes_of : List Line → List ℕ
bytes_of lines = ended (map parted lines)

-- these are the names of a permission: of its subject, of its object, of its right
pub record NamesPermission (m : SchemeModel) (names : Line) (p : Permission) : Type 0 where
  pub subject : p.subject < length m.objects
  pub object : p.object < length m.objects
  pub right : p.right < length m.rights
  pub in_order :
      names ≡ name_at (object_names m) p.subject ∷ name_at (object_names m) p.object ∷ name_at m.rights p.right ∷ []

-- a line that has `by`, and then the names of a move: of its policy, of its subject, of its object
pub record NamesMove (m : SchemeModel) (words : Line) (v : ℕ) : Type 0 where
  pub policy : ℕ
  pub subject : ℕ
  pub object : ℕ
  pub is_move : IsMove m v policy subject object
  pub in_order :
      words ≡ codes "by" ∷ name_at (policy_names m) policy ∷ name_at (object_names m) subject
      ∷ name_at (object_names m) object ∷ []

abbrev pub verdict_word : Bool → List ℕ
verdict_word leaks = cond leaks (codes "leak") (codes "never")

-- the first line tells a verdict, and each line below it a move; the safety promise holds of both
pub record VerdictKept (m : SchemeModel) (q : Query) (lines : List Line) : Type 0 where
  pub names : Line
  pub said : Said
  pub below : List Line
  pub in_lines : lines ≡ (verdict_word said.leaks ∷ names ++ decimal said.found ∷ decimal said.tried ∷ []) ∷ below
  -- the names are those that stand in the query's line of the text, and they name the permission of the promise
  pub as_asked : query_words m q ≡ codes "query" ∷ names
  pub asked : Permission
  pub of_permission : NamesPermission m names asked
  -- the verdict is the answer of an analysis with three tables of 4,096 entries
  pub answered : analysis_answer (scheme_system m) asked 4096 4096 4096 ≡ Ok said
  -- a line for each move, in their order; there is none under never
  pub moves : List ℕ
  pub as_many : length below ≡ length moves
  pub each_move : (i : ℕ) → i < length moves → NamesMove m (slice_index_or below i []) (slice_index moves i)
  pub no_moves_under_never : said.leaks ≡ false → moves ≡ []
  pub found : List Found
  pub safe : Safety (scheme_system m) asked said found moves
  -- the lines are legible, and so can be read as nothing else (Readings)
  pub legible : Legible m q said moves
  pub read_as : bytes_of lines ≡ lines_of m (verdict q said moves)

-- the scheme has more states than a table has entries: the one line has the number 31, and 0 for line and place
abbrev pub TooManyStates : SchemeModel → List Line → Type 0
TooManyStates m lines = (4096 < state_count m) × (lines ≡ (codes "refused" ∷ codes "31" ∷ codes "0" ∷ codes "0" ∷ []) ∷ [])

abbrev pub AnswerKept : SchemeModel → Query → List Line → Type 0
AnswerKept m q lines = ((state_count m ≤ 4096) × VerdictKept m q lines) ⊎ TooManyStates m lines

-- the counts of states and of moves
abbrev pub counts_line : SchemeModel → Line
counts_line m = codes "scheme" ∷ decimal (state_count m) ∷ decimal (move_count m) ∷ []

-- the report of a scheme: its counts, and then an answer to each query, in the order of the queries
pub record ReportKept (m : SchemeModel) (printed : List ℕ) : Type 0 where
  pub answers : List (List Line)
  pub in_lines : printed ≡ bytes_of (counts_line m ∷ flat_map (λ (lines : List Line). lines) answers)
  pub as_many : length answers ≡ length m.queries
  pub each : (i : ℕ) (q : Query) → slice_get m.queries i ≡ Some q → AnswerKept m q (slice_index_or answers i [])

-- a refusal: one line with number, line and place
abbrev pub refusal_line : Report → Line
refusal_line r = codes "refused" ∷ decimal r.number ∷ decimal r.line ∷ decimal r.place ∷ []

-- what is printed of a text, by whether it is accepted or refused
abbrev pub PrintedKept : Result SchemeModel SchemeFault → List ℕ → Type 0
PrintedKept (Ok m) printed = ReportKept m printed
PrintedKept (Err fault) printed = printed ≡ bytes_of (refusal_line (scheme_report fault) ∷ [])

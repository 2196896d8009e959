-- What a report says about queries, and that it is read in one way only.
use Rattle.std.specs.Prelude.{◌≡◌, ℕ, ◌^◌, ◌<◌, List, ◌++◌, length, All}
use Rattle.std.specs.List.{flat_map}
use Rattle.scheme.specs.declared.entries.Query.{Query}
use Rattle.scheme.specs.Models.{SchemeModel}
use Rattle.scheme.specs.Counts.{move_count}
use Rattle.words.specs.declared.fault.Report.{Report}
use Rattle.protection.specs.Answers.{Said}
use Rattle.record.specs.Systems.{scheme_system}
use Rattle.text.specs.Writing.{QueryFits}
use Rattle.report.specs.Moves.{by_line}
use Rattle.report.specs.Answers.{refused_line, verdict_line}
use Rattle.report.specs.Reports.{scheme_line}

-- a verdict on a query, with moves, or a refusal
pub data Answer : Type 0 where
  verdict : Query → Said → List ℕ → Answer
  refusal : Report → Answer

abbrev pub lines_of : SchemeModel → Answer → List ℕ
lines_of m (verdict q said moves) = verdict_line m q said ++ flat_map (by_line m) moves
lines_of m (refusal r) = refused_line r

-- the whole report, with an answer for each query
abbrev pub report_of : SchemeModel → List Answer → List ℕ
report_of m answers = scheme_line (scheme_system m) ++ flat_map (lines_of m) answers

-- the query and the moves are of the scheme, the moves are as many as the verdict says, and its counts have 64 bits
pub record Legible (m : SchemeModel) (q : Query) (said : Said) (moves : List ℕ) : Type 0 where
  pub asked : QueryFits (length m.objects) (length m.rights) q
  pub found : said.found < 2 ^ 64
  pub tried : said.tried < 2 ^ 64
  pub as_many : said.length ≡ length moves
  pub of_scheme : All (λ v. v < move_count m) moves

-- numbers of 64 bits
pub record Numbered (r : Report) : Type 0 where
  pub number : r.number < 2 ^ 64
  pub line : r.line < 2 ^ 64
  pub place : r.place < 2 ^ 64

abbrev pub Fits : SchemeModel → Answer → Type 0
Fits m (verdict q said moves) = Legible m q said moves
Fits m (refusal r) = Numbered r

-- the same bytes say the same: the lines about a query, and whole reports; and no report is the refusal of a text
pub record ReadOneWay (m : SchemeModel) : Type 0 where
  pub answer : (x y : Answer) → Fits m x → Fits m y → lines_of m x ≡ lines_of m y → x ≡ y
  pub answers : (xs ys : List Answer) → All (Fits m) xs → All (Fits m) ys → report_of m xs ≡ report_of m ys → xs ≡ ys
  pub no_refusal : (xs : List Answer) (r : Report) → report_of m xs ≡ refused_line r → ⊥

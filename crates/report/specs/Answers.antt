-- The lines that answer a query.
use Rattle.std.specs.Prelude.{ℕ, cond, List, [], ◌∷◌, ◌++◌, Ok, Err, codes, decimal, Result}
use Rattle.std.specs.List.{flat_map}
use Rattle.scheme.specs.declared.entries.Query.{Query}
use Rattle.scheme.specs.Models.{SchemeModel}
use Rattle.words.specs.declared.fault.Report.{Report}
use Rattle.walk.specs.Results.{witness_of}
use Rattle.protection.specs.Systems.{System}
use Rattle.protection.specs.Refusals.{Refused}
use Rattle.protection.specs.Answers.{Said}
use Rattle.protection.specs.Analysis.{analysis, analysis_answer}
use Rattle.record.specs.Systems.{permission_asked}
use Rattle.render.specs.Lines.{line}
use Rattle.report.specs.Names.{object_name, right_name}
use Rattle.report.specs.Moves.{by_line}

abbrev pub refused_line : Report → List ℕ
refused_line r = line (codes "refused") (decimal r.number ∷ decimal r.line ∷ decimal r.place ∷ [])

-- a word with the names of a query, and the counts of states found and of moves tried
abbrev pub query_line : List ℕ → SchemeModel → Query → ℕ → ℕ → List ℕ
query_line word m q found tried =
    line word (object_name m q.subject ∷ object_name m q.object ∷ right_name m q.right ∷ decimal found ∷ decimal tried ∷ [])

abbrev pub verdict_line : SchemeModel → Query → Said → List ℕ
verdict_line m q said = query_line (cond said.leaks (codes "leak") (codes "never")) m q said.found said.tried

-- below a verdict stand the moves of the witness, of which there is none under never; a refused analysis has no line and no place
abbrev pub outcome_lines : SchemeModel → Query → Result Said Refused → List ℕ → List ℕ
outcome_lines m q (Ok said) witness = verdict_line m q said ++ flat_map (by_line m) witness
outcome_lines m q (Err refused) witness = refused_line (record { number = refused.number; line = 0; place = 0 })

-- a query is analysed with tables of 4,096 entries
abbrev pub answer_lines : SchemeModel → System → Query → List ℕ
answer_lines m system q =
    outcome_lines m q (analysis_answer system (permission_asked q) 4096 4096 4096) (witness_of (analysis system (permission_asked q)))

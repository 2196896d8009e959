-- What a query of a text asks, what C is told of its analysis, and what is left of the tables.
use Rattle.std.specs.Prelude.{ℕ, zero, suc, List, Some, None, Ok, Err, Option, Result}
use Rattle.std.specs.List.{slice_get}
use Rattle.std.specs.Option.{option_map}
use Rattle.walk.specs.declared.records.Found.{Found}
use Rattle.walk.specs.Search.{Outcome}
use Rattle.walk.specs.Results.{found_of, witness_of, marks_of, over}
use Rattle.protection.specs.declared.permission.Permission.{Permission}
use Rattle.protection.specs.Systems.{System}
use Rattle.protection.specs.Refusals.{Refused, refused}
use Rattle.protection.specs.Answers.{Said}
use Rattle.protection.specs.Analysis.{analysis, analysis_answer}
use Rattle.scheme.specs.Models.{SchemeModel}
use Rattle.record.specs.Systems.{scheme_system, permission_asked}
use Rattle.text.specs.declared.fault.SchemeFault.{SchemeFault}
use Rattle.text.specs.Faults.{scheme_report}
use Rattle.text.specs.Reading.{reading}
use Rattle.bench_entry.specs.declared.answer.Answer.{Answer}
use Rattle.bench_entry.specs.Answers.{answer_of}

-- whether a permission can ever be granted in a system
pub record Question : Type 0 where
  pub system : System
  pub permission : Permission

abbrev pub asks : System → Permission → Result Question Refused
asks system q = Ok (record { system = system; permission = q })

-- the greatest number of 32 bits, which is that of no refusal: the text has no such query
abbrev pub no_query : Refused
no_query = refused 4294967295

abbrev pub question_at : System → Option Permission → Result Question Refused
question_at system None = Err no_query
question_at system (Some q) = asks system q

abbrev pub question : Result SchemeModel SchemeFault → ℕ → Result Question Refused
question (Err f) query = Err (refused (scheme_report f).number)
question (Ok m) query = question_at (scheme_system m) (option_map permission_asked (slice_get m.queries query))

-- what a query of a text asks, or why it asks nothing
abbrev pub asked_by : List ℕ → ℕ → Result Question Refused
asked_by text query = question (reading text) query

-- its analysis with tables of these lengths
abbrev pub reply : Result Question Refused → ℕ → ℕ → ℕ → Result Said Refused
reply (Err e) marks found witness = Err e
reply (Ok a) marks found witness = analysis_answer a.system a.permission marks found witness

-- what C is told

abbrev pub number_of : Result Said Refused → ℕ
number_of (Ok said) = 0
number_of (Err e) = e.number

abbrev pub answer_left : Result Said Refused → Answer → Answer
answer_left (Ok said) answer = answer_of said
answer_left (Err e) answer = answer

-- the tables after the number r: a refusal leaves them as they were

abbrev pub outcome : Question → Outcome
outcome a = analysis a.system a.permission

abbrev pub marks_left : Result Question Refused → ℕ → List ℕ → List ℕ
marks_left (Ok a) zero marks = over (marks_of a.system.walk.states (found_of (outcome a))) marks
marks_left (Ok a) (suc r) marks = marks
marks_left (Err e) r marks = marks

abbrev pub found_left : Result Question Refused → ℕ → List Found → List Found
found_left (Ok a) zero found = over (found_of (outcome a)) found
found_left (Ok a) (suc r) found = found
found_left (Err e) r found = found

abbrev pub witness_left : Result Question Refused → ℕ → List ℕ → List ℕ
witness_left (Ok a) zero witness = over (witness_of (outcome a)) witness
witness_left (Ok a) (suc r) witness = witness
witness_left (Err e) r witness = witness

-- The analysis: the search for an enabled move labelled q, its answer, and the tables afterwards.
use Rattle.std.specs.Prelude.{ℕ, Bool, cond, List, Ok, Err, Result}
use Rattle.walk.specs.declared.records.Found.{Found}
use Rattle.walk.specs.Search.{Outcome, search_from}
use Rattle.walk.specs.Results.{ending_of, found_of, witness_of, marks_of, over, large_enough}
use Rattle.protection.specs.declared.permission.Permission.{Permission}
use Rattle.protection.specs.declared.answers.Verdict.{Verdict}
use Rattle.protection.specs.declared.answers.Refusal.{Refusal}
use Rattle.protection.specs.Systems.{System, labelled, within_counts}
use Rattle.protection.specs.Refusals.{Refused, refused}
use Rattle.protection.specs.Answers.{Said, verdict_values, verdict_of}

-- an enabled move labelled q ends the search
abbrev pub at_label : System → Permission → ℕ → Bool
at_label system q m = labelled system m q

abbrev pub analysis : System → Permission → Outcome
analysis system q = search_from system.walk (at_label system q)

-- an analysis with tables of these lengths
abbrev pub analysis_answer : System → Permission → ℕ → ℕ → ℕ → Result Said Refused
analysis_answer system q marks found witness =
    cond (within_counts system q)
    (cond (large_enough system.walk.states marks found witness)
    (Ok (verdict_values (verdict_of (ending_of (analysis system q)))))
    (Err (refused 31)))
    (Err (refused 30))

-- the tables after the answer r: a refusal leaves them as they were
abbrev pub marks_left : System → Permission → Result Verdict Refusal → List ℕ → List ℕ
marks_left system q (Ok v) marks = over (marks_of system.walk.states (found_of (analysis system q))) marks
marks_left system q (Err e) marks = marks

abbrev pub found_left : System → Permission → Result Verdict Refusal → List Found → List Found
found_left system q (Ok v) found = over (found_of (analysis system q)) found
found_left system q (Err e) found = found

abbrev pub witness_left : System → Permission → Result Verdict Refusal → List ℕ → List ℕ
witness_left system q (Ok v) witness = over (witness_of (analysis system q)) witness
witness_left system q (Err e) witness = witness

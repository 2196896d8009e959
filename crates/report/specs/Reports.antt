-- The whole report of a scheme, and what a text prints.
use Rattle.std.specs.Prelude.{ℕ, List, [], ◌∷◌, ◌++◌, Ok, Err, codes, decimal, Result}
use Rattle.std.specs.List.{flat_map}
use Rattle.scheme.specs.Models.{SchemeModel}
use Rattle.text.specs.declared.fault.SchemeFault.{SchemeFault}
use Rattle.text.specs.Faults.{scheme_report}
use Rattle.text.specs.Reading.{reading}
use Rattle.protection.specs.Systems.{System}
use Rattle.record.specs.Systems.{scheme_system}
use Rattle.render.specs.Lines.{line}
use Rattle.report.specs.Answers.{refused_line, answer_lines}

-- the counts of states and of moves
abbrev pub scheme_line : System → List ℕ
scheme_line system = line (codes "scheme") (decimal system.walk.states ∷ decimal system.walk.moves ∷ [])

-- then the answer to each query
abbrev pub report_lines : SchemeModel → System → List ℕ
report_lines m system = scheme_line system ++ flat_map (answer_lines m system) m.queries

-- what is printed of a text: the report of the scheme that it declares, or its refusal
abbrev pub output_of : Result SchemeModel SchemeFault → List ℕ
output_of (Ok m) = report_lines m (scheme_system m)
output_of (Err fault) = refused_line (scheme_report fault)

abbrev pub annex_output : List ℕ → List ℕ
annex_output text = output_of (reading text)

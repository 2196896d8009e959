-- The number of each refusal, with the values or the line and place that it carries.
use Rattle.std.specs.Prelude.{◌≡◌, ℕ, List, [], ◌∷◌}
use Rattle.words.specs.declared.position.Spot.{Spot}
use Rattle.words.specs.declared.fault.Report.{Report}
use Rattle.words.specs.declared.fault.WordFault.TheVariants as words
use Rattle.words.specs.Faults.{word_report}
use Rattle.lines.specs.declared.fault.LineFault.TheVariants as lines
use Rattle.lines.specs.Faults.{line_report}
use Rattle.text.specs.declared.fault.SchemeFault.TheVariants as scheme
use Rattle.text.specs.Faults.{scheme_report}
use Rattle.protection.specs.declared.answers.Refusal.TheVariants as analysis
use Rattle.protection.specs.Refusals.{Refused}
use Rattle.protection.specs.Answers.{refusal_values}
use Rattle.systems.specs.declared.refusals.TableRefusal.TheVariants as table
use Rattle.systems.specs.declared.refusals.LockRefusal.TheVariants as lock
use Rattle.systems.specs.Refusals.{table_refusal_values, lock_refusal_values}
use Rattle.monitor.specs.declared.denial.Denial.TheVariants as monitor
use Rattle.monitor.specs.Denials.{denial_values}

-- some line and place, and what is reported there
abbrev pub spot : Spot
spot = record { line = 6; place = 12 }

abbrev pub reported : ℕ → Report
reported n = record { number = n; line = 6; place = 12 }

-- a number with these values
abbrev pub carrying : ℕ → List ℕ → Refused
carrying n values = record { number = n; values = values }

pub record RefusalNumbers : Type 0 where
  -- of texts, in three layers; a fault of a lower layer is carried whole
  pub byte : word_report (words.Byte spot) ≡ reported 1
  pub long_word : word_report (words.LongWord spot) ≡ reported 2
  pub long_text : word_report words.LongText ≡ record { number = 4; line = 0; place = 0 }
  pub kind : line_report (lines.Kind spot) ≡ reported 10
  pub count : line_report (lines.Count spot) ≡ reported 11
  pub form : line_report (lines.Form spot) ≡ reported 12
  pub byte_of_line : line_report (lines.OfWords (words.Byte spot)) ≡ reported 1
  pub used : scheme_report (scheme.Used spot) ≡ reported 20
  pub undefined : scheme_report (scheme.Undefined spot) ≡ reported 21
  pub range : scheme_report (scheme.Range spot) ≡ reported 22
  pub most : scheme_report (scheme.Most spot) ≡ reported 23
  pub missing : scheme_report (scheme.Missing spot) ≡ reported 24
  pub states : scheme_report (scheme.States spot) ≡ reported 25
  pub kind_of_line : scheme_report (scheme.OfLine (lines.Kind spot)) ≡ reported 10
  pub word_of_line : scheme_report (scheme.OfLine (lines.OfWords (words.LongWord spot)))
      ≡ reported 2
  pub whole_text : scheme_report (scheme.OfLine (lines.OfWords words.LongText))
      ≡ record { number = 4; line = 0; place = 0 }
  -- of analyses
  pub query_out_of_counts : refusal_values analysis.OutOfCounts ≡ carrying 30 []
  pub short_table : refusal_values analysis.ShortTable ≡ carrying 31 []
  -- of table systems: a label's move, an entry's index
  pub counts : table_refusal_values table.Counts ≡ carrying 40 []
  pub lengths : table_refusal_values table.Lengths ≡ carrying 41 []
  pub start : table_refusal_values table.Start ≡ carrying 42 []
  pub label : table_refusal_values (table.Label 7) ≡ carrying 43 (7 ∷ [])
  pub entry : table_refusal_values (table.Entry 9) ≡ carrying 44 (9 ∷ [])
  -- of lock lists
  pub full : lock_refusal_values lock.Full ≡ carrying 50 []
  pub lock_out_of_counts : lock_refusal_values lock.OutOfCounts ≡ carrying 51 []
  -- of monitors
  pub no_such_move : denial_values monitor.NoSuchMove ≡ carrying 60 []
  pub not_enabled : denial_values monitor.NotEnabled ≡ carrying 61 []
  pub use_out_of_counts : denial_values monitor.OutOfCounts ≡ carrying 62 []

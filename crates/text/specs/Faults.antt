-- Number, line and place of each fault of a scheme.
use Rattle.words.specs.declared.fault.Report.{Report}
use Rattle.words.specs.Faults.{at}
use Rattle.lines.specs.Faults.{line_report}
use Rattle.text.specs.declared.fault.SchemeFault.{SchemeFault}
use Rattle.text.specs.declared.fault.SchemeFault.TheVariants.{OfLine, Used, Undefined, Range, Most, Missing, States}

abbrev pub scheme_report : SchemeFault → Report
scheme_report (OfLine l) = line_report l
scheme_report (Used s) = at 20 s
scheme_report (Undefined s) = at 21 s
scheme_report (Range s) = at 22 s
scheme_report (Most s) = at 23 s
scheme_report (Missing s) = at 24 s
scheme_report (States s) = at 25 s

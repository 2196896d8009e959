-- Number, line and place of each fault of a line.
use Rattle.words.specs.declared.fault.Report.{Report}
use Rattle.words.specs.Faults.{at, word_report}
use Rattle.lines.specs.declared.fault.LineFault.{LineFault}
use Rattle.lines.specs.declared.fault.LineFault.TheVariants.{OfWords, Kind, Count, Form}

abbrev pub line_report : LineFault → Report
line_report (OfWords w) = word_report w
line_report (Kind s) = at 10 s
line_report (Count s) = at 11 s
line_report (Form s) = at 12 s

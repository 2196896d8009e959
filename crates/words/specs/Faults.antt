-- Number, line and place of each fault of the words.
use Rattle.std.specs.Prelude.{ℕ}
use Rattle.words.specs.declared.position.Spot.{Spot}
use Rattle.words.specs.declared.fault.Report.{Report}
use Rattle.words.specs.declared.fault.WordFault.{WordFault}
use Rattle.words.specs.declared.fault.WordFault.TheVariants.{LongText, Byte, LongWord}

abbrev pub at : ℕ → Spot → Report
at n s = record { number = n; line = s.line; place = s.place }

abbrev pub word_report : WordFault → Report
word_report LongText = record { number = 4; line = 0; place = 0 }
word_report (Byte s) = at 1 s
word_report (LongWord s) = at 2 s

use Rattle.std.proofs.Common.{arith}
use Rattle.words.proofs.Numbers.{number_parsed, number_no_text}
use Rattle.words.proofs.classify.number_in.Goals as goal

pub returns-in_err-ok-in-49-to-57 : goal.returns-in_err-ok-in-49-to-57
returns-in_err-ok-in-49-to-57 c = grind (arith, number_no_text)

pub returns-in_ok-ok-in-49-to-57 : goal.returns-in_ok-ok-in-49-to-57
returns-in_ok-ok-in-49-to-57 c = grind (arith, number_parsed)

use Rattle.std.proofs.Common.{rules}
use Rattle.words.proofs.Shapes.{term_in_at}
use Rattle.words.proofs.classify.term_in.Goals as goal

pub returns-then-dot-ne46 : goal.returns-then-dot-ne46
returns-then-dot-ne46 c = search (rules, term_in_at)

pub returns-in-115 : goal.returns-in-115
returns-in-115 c = search (rules, term_in_at)

pub returns-in-111 : goal.returns-in-111
returns-in-111 c = search (rules, term_in_at)

use Rattle.words.proofs.Joins.{text_cut}
use Rattle.words.proofs.cut.Lines.of.Goals as goal

pub returns-clause-cut_where_joined : goal.returns-clause-cut_where_joined
returns-clause-cut_where_joined c = text_cut c.args.text.now

use Rattle.words.specs.Positions.{line_of}
use Rattle.words.proofs.Joins.{line_cut}
use Rattle.words.proofs.position.Line.words.Goals as goal

pub returns-clause-cut_where_spaced : goal.returns-clause-cut_where_spaced
returns-clause-cut_where_spaced c = line_cut (line_of c.args.self)

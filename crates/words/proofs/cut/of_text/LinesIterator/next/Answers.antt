use Rattle.std.proofs.Common.{rules}
use Rattle.words.proofs.Pieces.{line_first}
use Rattle.words.proofs.cut.of_text.LinesIterator.next.Goals as goal

pub returns-clause-steps : goal.returns-clause-steps
returns-clause-steps c =
    let self = c.args.self.now in
    line_first self.number self.rest.now c.piece_end.result c.min-behind.result (search rules) c.piece_end.ensures c.min-behind.ensures

-- One move more, an exit at it, and the end.
use Rattle.std.proofs.Common.{arith}
use Rattle.scheme.specs.Drafts.{draft_of}
use Rattle.render.proofs.Appending.{at_exit, short_at, grown_more, grown_all}
use Rattle.report.specs.Moves.{by_line}
use Rattle.report.proofs.moves.put_moves.Goals as goal

pub returns-in_err-put_move : goal.returns-in_err-put_move
returns-in_err-put_move c =
    at_exit _ _ _ _ c.from_residual.ensures.0
    (short_at (by_line (draft_of c.args.draft.now)) c.args.moves.now c.loop-mv.mv-index _
    _ _ _ (omega arith) c.loop-mv.invariant c.in_err-put_move.ensures)

pub loop-mv-preserved : goal.loop-mv-preserved
loop-mv-preserved c =
    grown_more (by_line (draft_of c.args.draft.now)) c.args.moves.now c.loop-mv.mv-index _
    _ _ _ (omega arith) c.loop-mv.invariant c.in_ok-put_move.ensures

pub returns : goal.returns
returns c = grown_all (by_line (draft_of c.args.draft.now)) c.args.moves.now c.loop-mv.mv-index _ _ (omega arith) c.loop-mv.invariant

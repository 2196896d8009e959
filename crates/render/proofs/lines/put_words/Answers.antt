-- One word more, an exit at it, and the end.
use Rattle.std.proofs.Common.{sym, subst, arith}
use Rattle.std.proofs.lemmas.List.Folds.{flat_map-map}
use Rattle.render.specs.Appended.{Grown, Short}
use Rattle.render.specs.Lines.{spaced, word_of}
use Rattle.render.proofs.Appending.{at_exit, short_at, grown_more, grown_all}
use Rattle.render.proofs.lines.put_words.Goals as goal

pub returns-in_err-put_next : goal.returns-in_err-put_next
returns-in_err-put_next c =
    at_exit _ _ _ _ c.from_residual.ensures.0
    (subst (Short c.args.out.now c.put_next.new.out) (sym (flat_map-map spaced word_of c.args.words.now))
    (short_at (λ w. spaced (word_of w)) c.args.words.now c.loop-word.word-index _
    _ _ _ (omega arith) c.loop-word.invariant c.in_err-put_next.ensures))

pub loop-word-preserved : goal.loop-word-preserved
loop-word-preserved c =
    grown_more (λ w. spaced (word_of w)) c.args.words.now c.loop-word.word-index _
    _ _ _ (omega arith) c.loop-word.invariant c.in_ok-put_next.ensures

pub returns : goal.returns
returns c =
    subst (Grown c.args.out.now c.loop-word.out) (sym (flat_map-map spaced word_of c.args.words.now))
    (grown_all (λ w. spaced (word_of w)) c.args.words.now c.loop-word.word-index _ _ (omega arith) c.loop-word.invariant)

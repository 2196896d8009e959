-- The space, and then the word.
use Rattle.std.proofs.Common.{[], ◌∷◌}
use Rattle.render.specs.Lines.{word_of}
use Rattle.render.proofs.Appending.{short_first, at_exit, appended_then}
use Rattle.render.proofs.lines.put_next.Goals as goal

pub returns-in_err-put : goal.returns-in_err-put
returns-in_err-put c =
    at_exit _ _ _ _ c.from_residual.ensures.0
    (short_first _ _ (32 ∷ []) (word_of c.args.word.now) c.in_err-put.ensures)

pub returns : goal.returns
returns c =
    appended_then _ _ _ _ (32 ∷ []) (word_of c.args.word.now) c.in_ok-put.ensures c.put_word.ensures

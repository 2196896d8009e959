-- The first word, the others, and the end of the line.
use Rattle.std.proofs.Common.{[], ◌∷◌, map}
use Rattle.std.specs.List.{flat_map}
use Rattle.render.specs.Lines.{spaced, word_of}
use Rattle.render.proofs.Appending.{short_first, short_then, at_exit, appended_then}
use Rattle.render.proofs.lines.put_line.Goals as goal

pub returns-in_err-put : goal.returns-in_err-put
returns-in_err-put c =
    at_exit _ _ _ _ c.from_residual.ensures.0 (short_first _ _ c.args.head.now _ c.in_err-put.ensures)

pub returns-in_err-put_words : goal.returns-in_err-put_words
returns-in_err-put_words c =
    at_exit _ _ _ _ c.from_residual-in_err-put_words.ensures.0
    (short_then _ _ _ c.args.head.now _ c.in_ok-put.ensures
    (short_first _ _ (flat_map spaced (map word_of c.args.words.now)) (10 ∷ []) c.in_err-put_words.ensures))

pub returns : goal.returns
returns c =
    appended_then _ _ _ _ c.args.head.now _ c.in_ok-put.ensures
    (appended_then _ _ _ _ (flat_map spaced (map word_of c.args.words.now)) (10 ∷ []) c.in_ok-put_words.ensures c.end_line.ensures)

-- The words so far.
use Rattle.std.proofs.Common.{take}
use Rattle.std.specs.List.{flat_map}
use Rattle.render.specs.Appended.{Grown}
use Rattle.render.specs.Lines.{spaced, word_of}
use Rattle.render.proofs.lines.put_words.Given as goal

abbrev pub invariant-loop-word : goal.invariant-loop-word
invariant-loop-word l = Grown l.initial.out l.out (flat_map (λ w. spaced (word_of w)) (take l.word-index l.words))

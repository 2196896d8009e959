use Rattle.std.proofs.Common.{◌≡◌, ◌+◌, length}
use Rattle.words.specs.Cuts.{coming_lines, text_lines}
use Rattle.text.specs.Reading.{read_lines, start}
use Rattle.text.specs.Readers.{progress_of}
use Rattle.text.proofs.Sound.{Sound}
use Rattle.text.proofs.read.read_lines.Given as goal

-- the lines that are left, below what is read so far, give what the whole text gives; and what is read so far is well-formed
abbrev pub invariant-loop-line : goal.invariant-loop-line
invariant-loop-line l =
    (goal.iterator-loop-line).can_next l.line-iterator
    × (goal.iterator-loop-line).is_finite l.line-iterator
    × (read_lines (1 + length l.yielded) (coming_lines l.line-iterator) (progress_of l.reader) ≡ read_lines 1 (text_lines l.text) start)
    × (length l.yielded + length (coming_lines l.line-iterator) ≡ length (text_lines l.text))
    × (l.number ≡ 1 + length l.yielded)
    × Sound (progress_of l.reader)

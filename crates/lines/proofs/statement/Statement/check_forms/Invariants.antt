use Rattle.std.proofs.Common.{◌≡◌}
use Rattle.words.specs.Outcomes.{in_turn}
use Rattle.words.specs.Cuts.{coming_words, line_words}
use Rattle.lines.specs.Lines.{form_check, right_forms}
use Rattle.lines.proofs.statement.Statement.check_forms.Given as goal

-- what is left decides
abbrev pub invariant-loop-index : goal.invariant-loop-index
invariant-loop-index l =
    (goal.iterator-loop-index).can_next l.index-iterator
    × (goal.iterator-loop-index).is_finite l.index-iterator
    × (in_turn (form_check l.self.kind (line_words l.self.line)) l.index-iterator.count (coming_words l.index-iterator.iter) ≡ right_forms l.self.kind (line_words l.self.line))

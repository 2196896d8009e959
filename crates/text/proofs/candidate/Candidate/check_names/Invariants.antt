use Rattle.std.proofs.Common.{◌≡◌}
use Rattle.words.specs.Outcomes.{in_turn}
use Rattle.words.specs.Cuts.{coming_words}
use Rattle.text.specs.Candidates.{above, its_kind, its_words}
use Rattle.text.specs.Naming.{name_check, right_names}
use Rattle.text.proofs.candidate.Candidate.check_names.Given as goal

-- what is left decides
abbrev pub invariant-loop-index : goal.invariant-loop-index
invariant-loop-index l =
    (goal.iterator-loop-index).can_next l.index-iterator
    × (goal.iterator-loop-index).is_finite l.index-iterator
    × (in_turn (name_check (above l.self) (its_kind l.self) (its_words l.self)) l.index-iterator.count (coming_words l.index-iterator.iter) ≡ right_names (above l.self) (its_kind l.self) (its_words l.self))

use Rattle.std.proofs.Common.{◌≡◌}
use Rattle.bounded.specs.Items.{items}
use Rattle.bounded.proofs.Bounded.collect.Given as goal

-- the items so far
abbrev pub invariant-loop-item : goal.invariant-loop-item
invariant-loop-item g l = (goal.iterator-loop-item g).can_next l.item-iterator × (goal.iterator-loop-item g).is_finite l.item-iterator × (items l.list ≡ l.yielded)

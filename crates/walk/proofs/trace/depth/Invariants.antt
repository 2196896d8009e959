-- The steps made and those left are those from the place to the start.
use Rattle.std.proofs.Common.{◌≡◌, ◌+◌, ◌≤◌, length}
use Rattle.walk.specs.Search.{moves_to}
use Rattle.walk.proofs.trace.depth.Given as goal

abbrev pub invariant-loop-at : goal.invariant-loop-at
invariant-loop-at l = (l.at ≤ l.place) × (l.steps + l.at ≤ l.place) × (l.steps + length (moves_to l.found l.at) ≡ length (moves_to l.found l.place))

abbrev pub decreases-loop-at : goal.decreases-loop-at
decreases-loop-at l = l.at

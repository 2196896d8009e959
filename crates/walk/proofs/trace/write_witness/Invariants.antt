-- The moves that are left and what is written behind them are the whole witness.
use Rattle.std.proofs.Common.{◌≡◌, ◌≤◌, ◌++◌, length, drop}
use Rattle.walk.specs.Search.{moves_to}
use Rattle.walk.proofs.trace.write_witness.Given as goal

abbrev pub invariant-loop-left : goal.invariant-loop-left
invariant-loop-left l =
    (l.at ≤ l.place)
    × (l.left ≡ length (moves_to l.found l.at))
    × (moves_to l.found l.at ++ drop l.left l.witness ≡ moves_to l.found l.place ++ drop l.initial.left l.initial.witness)

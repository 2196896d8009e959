-- No move below `mv` is enabled with that label.
use Rattle.std.proofs.Common.{◌≡◌, ℕ, ◌<◌, false}
use Rattle.protection.specs.Meaning.{meaning}
use Rattle.protection.specs.Histories.{enabled_as}
use Rattle.monitor.proofs.lowest_enabled.Given as goal

abbrev pub invariant-loop-mv : goal.invariant-loop-mv
invariant-loop-mv g l =
    (k : ℕ) → k < l.mv → enabled_as (meaning g.S.Walk g.S.System l.system) l.state l.p k ≡ false

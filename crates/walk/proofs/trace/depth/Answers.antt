-- A step to the parent is one of the way.
use Rattle.std.proofs.Common.{◌<◌, length, arith}
use Rattle.walk.proofs.Witness.{depth_down}
use Rattle.walk.proofs.trace.depth.Goals as goal

pub loop-at-preserved : goal.loop-at-preserved
loop-at-preserved c =
    let pos : 0 < c.loop-at.at = omega arith in
    let inside : c.loop-at.at < length c.args.found.now = omega arith in
    let up = c.requires.rooted c.loop-at.at pos inside in
    let down = depth_down c.args.found.now c.requires.rooted c.loop-at.at pos inside in
    (omega arith, omega arith, omega arith)

-- One move more is written, from behind; at the start nothing is left.
use Rattle.std.proofs.Common.{◌<◌, ◌≤◌, length, ◌∙◌, arith}
use Rattle.std.proofs.lemmas.List.{length-set}
use Rattle.walk.proofs.Witness.{depth_down, depth_small, write_more}
use Rattle.walk.proofs.trace.write_witness.Goals as goal

pub loop-left-preserved : goal.loop-left-preserved
loop-left-preserved c =
    let small = depth_small c.args.found.now c.requires.rooted c.loop-left.at (omega arith) in
    let pos : 0 < c.loop-left.at = omega (arith, c.loop-left-test.true) in
    let inside : c.loop-left.at < length c.args.found.now = omega arith in
    let up = c.requires.rooted c.loop-left.at pos inside in
    let down = depth_down c.args.found.now c.requires.rooted c.loop-left.at pos inside in
    let long : c.loop-left.left ≤ length c.loop-left.witness = omega (arith, length-set c.args.witness.now c.depth-depth.result c.args.mv) in (
      omega arith,
      omega arith,
      write_more c.args.found.now c.requires.rooted c.loop-left.witness c.loop-left.at c.loop-left.left pos inside c.loop-left.invariant.1 long
          ∙ c.loop-left.invariant.2,
    )

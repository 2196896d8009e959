-- The first move that is enabled with that label is the lowest.
use Rattle.std.proofs.Common.{◌≡◌, ◌<◌, Some, None, sym, ◌∙◌, subst, ⊎_elim, arith}
use Rattle.std.proofs.lemmas.Bool.{cases_eq}
use Rattle.protection.specs.Systems.{System}
use Rattle.protection.specs.Meaning.{meaning}
use Rattle.protection.specs.Histories.{enabled_as}
use Rattle.protection.proofs.LowestLaws.{lowest_of}
use Rattle.monitor.proofs.lowest_enabled.Goals as goal

pub returns-then-is_enabled_as : goal.returns-then-is_enabled_as
returns-then-is_enabled_as g c =
    let system : System = meaning g.S.Walk g.S.System c.args.system.now in
    let below : c.loop-mv.mv < system.walk.moves = omega arith in
    lowest_of (enabled_as system c.args.state c.args.p) system.walk.moves (Some c.loop-mv.mv)
    (omega arith, below, sym c.is_enabled_as.ensures ∙ c.if-is_enabled_as.true, λ k low l. c.loop-mv.invariant k l)

pub loop-mv-preserved : goal.loop-mv-preserved
loop-mv-preserved g c k l =
    let system : System = meaning g.S.Walk g.S.System c.args.system.now in
    ⊎_elim (λ (e : k ≡ c.loop-mv.mv). rw e (sym c.is_enabled_as.ensures ∙ c.if-is_enabled_as.false))
    (λ ne. c.loop-mv.invariant k (omega (arith, ne)))
    (cases_eq k c.loop-mv.mv)

pub returns : goal.returns
returns g c =
    let system : System = meaning g.S.Walk g.S.System c.args.system.now in
    lowest_of (enabled_as system c.args.state c.args.p) system.walk.moves None
    (λ k low l. c.loop-mv.invariant k (omega arith))

-- The replay is granted, since the witness of a leak is.
use Rattle.std.proofs.lemmas.Bool.{both_ways}
use Rattle.protection.specs.Systems.{System, system_of}
use Rattle.monitor.proofs.ReplayLaws.{witness_granted}
use Rattle.monitor.proofs.evidence.confirm.Goals as goal

pub unreachable-requires : goal.unreachable-requires
unreachable-requires g c =
    let system : System = system_of (g.S.Walk.model c.args.system.now) (g.S.System.labels c.args.system.now) in
    both_ways c.replays.result c.if-not-replays.true
    (witness_granted system c.args.q c.in_ok-verdict.verdict c.analyse.new.found c.analyse.new.witness
    c.in-Leak.found c.in-Leak.tried c.in-Leak.length c.replays.result c.in-Leak.is
    c.in_ok-verdict.ensures.safety c.replays.ensures.witness)

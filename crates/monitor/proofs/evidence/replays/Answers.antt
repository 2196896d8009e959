-- What calls of `enforce` grant in turn, the replay grants.
use Rattle.std.proofs.Common.{◌≡◌, is_ok, ap, ◌∙◌, rules}
use Rattle.protection.specs.Systems.{System}
use Rattle.protection.specs.Meaning.{meaning}
use Rattle.monitor.specs.Replays.{replay_answer}
use Rattle.monitor.proofs.ReplayLaws.{from_grants}
use Rattle.monitor.proofs.evidence.replays.Goals as goal

pub returns-clause-witness : goal.returns-clause-witness
returns-clause-witness g c =
    let system : System = meaning g.S.Walk g.S.System c.args.system.now in
    let value : c.is_ok.result ≡ is_ok (replay_answer system system.walk.start c.args.moves.now) = search rules in
    λ q replayed. value ∙ ap is_ok (from_grants system c.args.moves.now system.walk.start replayed.granted_each)

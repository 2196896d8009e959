-- What is left of the moves gives the answer and the state of the whole.
use Rattle.std.proofs.Common.{◌≡◌}
use Rattle.protection.specs.Systems.{system_of}
use Rattle.monitor.specs.Replays.{replay_answer, replay_leaves}
use Rattle.monitor.proofs.ReplayLaws.{Rest}
use Rattle.monitor.proofs.Monitor.replay.Given as goal

abbrev pub invariant-loop-mv : goal.invariant-loop-mv
invariant-loop-mv g l =
    let system = system_of (g.S.Walk.model l.initial.self.system) (g.S.System.labels l.initial.self.system) in
    (l.self.system ≡ l.initial.self.system)
    × Rest system l.self.state l.moves l.mv-index (replay_answer system l.initial.self.state l.moves) (replay_leaves system l.initial.self.state l.moves)

-- A request is answered as the `enforce` of the lowest enabled move.
use Rattle.std.proofs.Common.{◌≡◌, ℕ, Some, sym, ◌∙◌, rules}
use Rattle.protection.specs.Systems.{System}
use Rattle.protection.specs.Meaning.{meaning}
use Rattle.protection.specs.Refusals.{numbered}
use Rattle.protection.specs.Histories.{request, lowest_enabled, request_answer, after}
use Rattle.protection.proofs.HistoryLaws.{request_enforces}
use Rattle.monitor.specs.Denials.{denial_values}
use Rattle.monitor.proofs.CallLaws.{request_law}
use Rattle.monitor.proofs.Monitor.request.Goals as goal

pub returns-clause-answer : goal.returns-clause-answer
returns-clause-answer g c =
    let system : System = meaning g.S.Walk g.S.System c.args.self.now.system in
    let lowest : lowest_enabled system c.args.self.now.state c.args.p ≡ Some c.in_ok-mv.mv = search rules in
    c.enforce.ensures.answer
    ∙ request_enforces system (g.met.S.Walk.bounds c.args.self.now.system) c.args.self.now.state c.args.p c.in_ok-mv.mv
    (sym c.if-not-in_counts.ensures) lowest

pub returns-in_err-mv-clause-makes_the_lowest_move : goal.returns-in_err-mv-clause-makes_the_lowest_move
returns-in_err-mv-clause-makes_the_lowest_move g c =
    let system : System = meaning g.S.Walk g.S.System c.args.self.now.system in
    let s : ℕ = c.args.self.now.state in
    let answer : numbered denial_values c.from_residual.result ≡ request_answer system s c.args.p = search rules in
    let state : s ≡ after system s (request c.args.p) = search rules in
    request_law system (g.met.S.Walk.bounds c.args.self.now.system) (g.met.S.System.counts c.args.self.now.system).label_within
    s c.args.p (numbered denial_values c.from_residual.result) s answer state

pub returns-clause-makes_the_lowest_move : goal.returns-clause-makes_the_lowest_move
returns-clause-makes_the_lowest_move g c =
    let system : System = meaning g.S.Walk g.S.System c.args.self.now.system in
    let s : ℕ = c.args.self.now.state in
    let answer : numbered denial_values c.enforce.result ≡ request_answer system s c.args.p = returns-clause-answer g c in
    let state : c.enforce.new.self.state ≡ after system s (request c.args.p) = search rules in
    request_law system (g.met.S.Walk.bounds c.args.self.now.system) (g.met.S.System.counts c.args.self.now.system).label_within
    s c.args.p (numbered denial_values c.enforce.result) c.enforce.new.self.state answer state

-- What is answered is the answer of the definitions, of which the law speaks.
use Rattle.std.proofs.Common.{◌≡◌, Ok, rules}
use Rattle.protection.specs.Systems.{System}
use Rattle.protection.specs.Meaning.{meaning}
use Rattle.protection.specs.Histories.{may_answer}
use Rattle.monitor.proofs.CallLaws.{may_law}
use Rattle.monitor.proofs.Monitor.may.Goals as goal

pub returns-clause-tells_whether_enabled : goal.returns-clause-tells_whether_enabled
returns-clause-tells_whether_enabled g c =
    let system : System = meaning g.S.Walk g.S.System c.args.self.now.system in
    let answer : Ok c.is_some.result ≡ may_answer system c.args.self.now.state c.args.p = search rules in
    may_law system (g.met.S.Walk.bounds c.args.self.now.system) (g.met.S.System.counts c.args.self.now.system).label_within
    c.args.self.now.state c.args.p (Ok c.is_some.result) answer

use Rattle.std.proofs.Common.{Some, ap, ◌∙◌, arith}
use Rattle.enforcement.specs.Meanings.{sizes_of}
use Rattle.enforcement.proofs.Simulation.{destroy_is}
use Rattle.enforcement.proofs.parties.CodedPair.destroy.Goals as goal

pub returns : goal.returns
returns c =
    let p = c.args.self.now in
    ap Some c.with.ensures ∙ destroy_is (sizes_of p) c.args.party p.pair p.coded (omega arith)

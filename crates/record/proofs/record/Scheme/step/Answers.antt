use Rattle.record.specs.Schemes.{scheme_of}
use Rattle.record.proofs.Leading.{steps_agree}
use Rattle.record.proofs.record.Scheme.step.Goals as goal

pub returns : goal.returns
returns c =
    record {
      value = c.next_state.ensures;
      agrees = steps_agree (scheme_of c.args.self.now) c.args.state c.args.mv c.next_state.result c.next_state.ensures;
    }

use Rattle.std.proofs.Common.{sym, ◌∙◌}
use Rattle.std.proofs.lemmas.List.{at_drop_all}
use Rattle.enforcement.specs.Actions.{ran}
use Rattle.enforcement.specs.Coded.{on_codes}
use Rattle.enforcement.specs.Meanings.{sizes_of}
use Rattle.enforcement.proofs.Simulation.{ran_more, ran_none}
use Rattle.enforcement.proofs.parties.CodedPair.run.Goals as goal

pub loop-action-preserved : goal.loop-action-preserved
loop-action-preserved c =
    let more = ran_more (sizes_of c.args.self.now) c.args.actions.now c.loop-action.action-index _ c.loop-action.pair c.in_ok-pair.pair c.loop-action-test.true c.loop-action.invariant.coded c.in_ok-pair.ensures in
    record { same_end = more.0 ∙ c.loop-action.invariant.same_end; coded = more.1 }

pub returns : goal.returns
returns c =
    let ks = sizes_of c.args.self.now in
    ran_none ks c.loop-action.pair c.loop-action.invariant.coded
    ∙ sym (at_drop_all (λ l. on_codes ks (ran ks l) c.loop-action.pair) c.args.actions.now c.loop-action.action-index c.loop-action-test.false)
    ∙ c.loop-action.invariant.same_end

use Rattle.std.proofs.Common.{Some, ap, ◌∙◌}
use Rattle.codes.specs.Codes.{updated_code}
use Rattle.enforcement.specs.Meanings.{sizes_of}
use Rattle.enforcement.proofs.Simulation.{store_is}
use Rattle.enforcement.proofs.parties.CodedPair.store.Goals as goal

pub returns : goal.returns
returns c =
    let p = c.args.self.now in
    ap Some c.with.ensures
    ∙ store_is (sizes_of p) c.args.term p.pair c.args.value c.in_ok-code.code p.coded
    (c.in_ok-code.ensures ∙ ap (λ n. updated_code (sizes_of p) n c.args.term.attribute c.args.value) c.of-old.ensures)

use Rattle.std.proofs.Common.{ap, ◌∙◌}
use Rattle.std.specs.Option.{option_flatten}
use Rattle.enforcement.proofs.Reading.{term_read}
use Rattle.enforcement.proofs.parties.CodedPair.term_value.Goals as goal

pub returns : goal.returns
returns c =
    c.flatten.ensures ∙ ap option_flatten c.read.ensures ∙ term_read c.args.self.now c.args.term.party c.args.term.attribute

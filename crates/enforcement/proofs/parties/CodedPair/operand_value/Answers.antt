use Rattle.std.proofs.Common.{ap, ◌∙◌}
use Rattle.std.specs.Option.{option_flatten}
use Rattle.enforcement.proofs.Reading.{operand_read}
use Rattle.enforcement.proofs.parties.CodedPair.operand_value.Goals as goal

pub returns : goal.returns
returns c = c.flatten.ensures ∙ ap option_flatten c.source.ensures ∙ operand_read c.args.self.now c.args.operand

use Rattle.std.proofs.Common.{rules}
use Rattle.bounded.specs.Items.{items}
use Rattle.codes.proofs.Weighing.{part_read}
use Rattle.codes.proofs.codes.Codes.part_in.Goals as goal

pub returns-clause-value : goal.returns-clause-value
returns-clause-value c =
    let self = c.args.self.now in
    part_read (items self.digits) c.args.code c.args.attribute c.digit.result c.map_or.result self.weighed c.digit.ensures (search rules)

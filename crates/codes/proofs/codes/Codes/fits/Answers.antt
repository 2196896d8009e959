use Rattle.std.proofs.Common.{rules}
use Rattle.bounded.specs.Items.{items}
use Rattle.codes.proofs.Weighing.{fit_read}
use Rattle.codes.proofs.codes.Codes.fits.Goals as goal

pub returns : goal.returns
returns c =
    fit_read (items c.args.self.now.digits) c.args.attribute c.digit.result c.args.value c.map_or.result c.digit.ensures (search rules)

use Rattle.std.proofs.Common.{◌∙◌, arith}
use Rattle.record.specs.Numberings.{dimensions_of}
use Rattle.record.proofs.Exchanging.{Exchanged, exchanged}
use Rattle.record.proofs.numbering.Numbering.exchange.Goals as goal

change : (c : goal.After-number-place)
    → Exchanged (dimensions_of c.args.self.now).sizes (dimensions_of c.args.self.now).objects c.args.state c.args.object c.args.old c.args.new c.number-place.result
change c =
    let d = dimensions_of c.args.self.now in
    exchanged d.sizes d.objects c.args.state c.args.object c.args.old c.args.new _
    c.requires.state c.requires.object c.requires.old c.requires.new (c.number-place.ensures ∙ c.place.ensures)

pub overflow_mul-result : goal.overflow_mul-result
overflow_mul-result c = omega (arith, (change c).within)

pub overflow_mul-result-2 : goal.overflow_mul-result-2
overflow_mul-result-2 c = omega (arith, (change c).below, c.args.self.now.counted, c.args.self.now.few)

pub overflow_add-result : goal.overflow_add-result
overflow_add-result c = omega (arith, (change c).below, c.args.self.now.counted, c.args.self.now.few)

pub returns : goal.returns
returns c = record { value = (change c).value; below = (change c).below }

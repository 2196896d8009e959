use Rattle.std.proofs.Common.{sym, ap, ◌∙◌, arith}
use Rattle.std.specs.Option.{option_copied}
use Rattle.bounded.specs.Items.{items}
use Rattle.codes.specs.Meanings.{sizes_in}
use Rattle.codes.proofs.Weighing.{Exchanged, none_past, updated_past, digit_exchanges}
use Rattle.codes.proofs.codes.Codes.update.Goals as goal

pub returns-in_default : goal.returns-in_default
returns-in_default c =
    let self = c.args.self.now in
    updated_past (sizes_in self) c.args.code c.args.attribute c.args.value (omega arith) (omega (arith, self.counted))
    (none_past (items self.digits) c.args.attribute (sym c.digit.ensures ∙ ap option_copied c.in_default.is)) (sym c.if-not-fits.ensures)

changed : (c : goal.After-number-weight)
    → Exchanged (sizes_in c.args.self.now) c.args.code c.args.attribute c.args.value c.part_in-old.result c.number-weight.result c.part_of-new.result
changed c =
    let self = c.args.self.now in
    rw c.number-weight.ensures (digit_exchanges (items self.digits) c.in-Some.digit.now c.args.code c.args.attribute c.args.value _ _ self.weighed (sym c.digit.ensures ∙ ap option_copied c.in-Some.is) (omega arith) (omega (arith, self.counted))
    (sym c.if-not-fits.ensures) c.part_in-old.ensures.value c.part_of-new.ensures)

pub overflow_mul-result-2 : goal.overflow_mul-result-2
overflow_mul-result-2 c = omega (arith, (changed c).below, c.args.self.now.counted, c.args.self.now.few)

pub overflow_add-result : goal.overflow_add-result
overflow_add-result c = omega (arith, (changed c).below, c.args.self.now.counted, c.args.self.now.few)

pub returns : goal.returns
returns c = (changed c).value

use Rattle.std.proofs.Common.{◌≤◌, length, ap, arith}
use Rattle.bounded.specs.Items.{items}
use Rattle.bounded.proofs.Lengths.{length_items}
use Rattle.codes.proofs.Making.{next_product_fits, product_fits, next_digit}
use Rattle.codes.proofs.codes.Codes.of.Goals.{In-loop-size}
use Rattle.codes.proofs.codes.Codes.of.Goals as goal

few : (c : In-loop-size) → length c.as_slice-size-items.result.now ≤ 4
few c = omega (arith, ap length c.as_slice-size-items.ensures, length_items 4 c.args.sizes)

pub overflow_cast-weight : goal.overflow_cast-weight
overflow_cast-weight c =
    omega (arith, product_fits c.as_slice-size-items.result.now c.loop-size.size-index c.loop-size.weight c.loop-size-test.true (few (goal.at.overflow_cast-weight c).In-loop-size) (λ i. omega (arith, c.type_inv.size-items i)) c.loop-size.invariant.product)

pub overflow_mul-weight : goal.overflow_mul-weight
overflow_mul-weight c =
    omega (arith, next_product_fits c.as_slice-size-items.result.now c.loop-size.size-index c.loop-size.weight c.loop-size-test.true (few (goal.at.overflow_mul-weight c).In-loop-size) (λ i. omega (arith, c.type_inv.size-items i)) c.loop-size.invariant.product)

pub loop-size-preserved : goal.loop-size-preserved
loop-size-preserved c =
    let before = c.loop-size.invariant in
    let next = next_digit c.as_slice-size-items.result.now c.loop-size.size-index c.loop-size.weight c.loop-size-test.true (few (goal.at.loop-size-preserved c).In-loop-size) (λ i. omega (arith, c.type_inv.size-items i)) before.product
    (items c.loop-size.digits) (items c.push.new.self) c.new-in-loop-size.result _ before.sizes c.new-in-loop-size.ensures.size c.new-in-loop-size.ensures.weight c.push.ensures.room c.push.ensures.after before.weighed in
    record { sizes = next.0; weighed = next.1; product = next.2; low = next.3 }

use Rattle.std.proofs.Common.{◌≡◌, ◌+◌, ◌*◌, ◌<◌, ℕ, List, Option, length, get_or, drop, None, sym, refl, ap, ◌∙◌, arith}
use Rattle.std.proofs.lemmas.List.{length-map, length_push}
use Rattle.std.proofs.lemmas.Slice.Zip.{zip_turn}
use Rattle.bounded.specs.Items.{items}
use Rattle.codes.specs.Weights.{weight, summed}
use Rattle.codes.specs.declared.digit.Digit.{Digit}
use Rattle.codes.specs.Meanings.{sizes_in}
use Rattle.codes.proofs.Weighing.{weight_le}
use Rattle.codes.proofs.Summing.{summed_uneven, digit_unfit, digit_summed}
use Rattle.codes.proofs.codes.Codes.weigh.Goals.{After-fits, After-number}
use Rattle.codes.proofs.codes.Codes.weigh.Goals as goal

pub returns-then-values-digits-clause-value : goal.returns-then-values-digits-clause-value
returns-then-values-digits-clause-value c =
    summed_uneven 0 1 (sizes_in c.args.self.now) c.args.values.now (λ e. c.if-values-digits.true (e ∙ length-map (items c.args.self.now.digits) (λ (x : Digit). x.size) ∙ sym (ap length c.as_slice-digits.ensures)))

-- the digit and the value of this turn stand at the same place
record Turn (ds : List Digit) (vs : List (Option ℕ)) (n : ℕ) (d : Digit) (v : Option ℕ) : Type 0 where
  even : length vs ≡ length ds
  inside : n < length ds
  is_digit : d ≡ get_or ds n d
  is_value : v ≡ get_or vs n None

turn : (c : After-fits) → Turn (items c.args.self.now.digits) c.args.values.now (length c.loop-digit.yielded) c.in-Some.digit.now c.in-Some.value.now
turn c =
    let at = zip_turn (items c.args.self.now.digits) c.args.values.now c.loop-digit.yielded c.into_iter-digit-iterator.result c.loop-digit.digit-iterator c.next.new.self c.next.result (cc) (cc) c.loop-digit.yielded_by (c.in-Some.digit, c.in-Some.value) c.in-Some.is c.next.ensures.steps in
    record { even = c.if-values-digits.false ∙ ap length c.as_slice-digits.ensures; inside = at.0; is_digit = at.2 c.in-Some.digit.now; is_value = at.3 None }

pub returns-then-not-fits-clause-value : goal.returns-then-not-fits-clause-value
returns-then-not-fits-clause-value c =
    let t = turn (goal.at.returns-then-not-fits-clause-value c).After-fits in
    let self = c.args.self.now in
    digit_unfit (items self.digits) c.args.values.now self.weighed t.even (length c.loop-digit.yielded) c.loop-digit.sum c.in-Some.digit.now c.in-Some.value.now t.inside t.is_digit t.is_value c.if-not-fits.ensures
    ∙ c.loop-digit.invariant.total

more : (c : After-number) (t : Turn (items c.args.self.now.digits) c.args.values.now (length c.loop-digit.yielded) c.in-Some.digit.now c.in-Some.value.now) (next : ℕ) → next ≡ length c.loop-digit.yielded + 1
    → (summed (c.loop-digit.sum + c.part_of.result * c.number.result) (weight (sizes_in c.args.self.now) next) (drop next (sizes_in c.args.self.now)) (drop next c.args.values.now) ≡ summed 0 1 (sizes_in c.args.self.now) c.args.values.now)
    × (c.loop-digit.sum + c.part_of.result * c.number.result < weight (sizes_in c.args.self.now) next)
    × (c.loop-digit.sum + c.part_of.result * c.number.result < 1048576)
more c t next is_next =
    let self = c.args.self.now in
    let step = digit_summed (items self.digits) c.args.values.now self.weighed t.even (length c.loop-digit.yielded) c.loop-digit.sum c.in-Some.digit.now c.in-Some.value.now t.inside t.is_digit t.is_value c.part_of.result next c.part_of.ensures c.if-not-fits.ensures c.loop-digit.invariant.low is_next in
    rw c.number.ensures (step.0 ∙ c.loop-digit.invariant.total, step.1, omega (arith, step.1, weight_le (sizes_in self) next, self.counted, self.few))

pub overflow_mul-sum : goal.overflow_mul-sum
overflow_mul-sum c = omega (arith, (more c (turn (goal.at.overflow_mul-sum c).After-fits) _ refl).2)

pub overflow_add-sum : goal.overflow_add-sum
overflow_add-sum c = omega (arith, (more c (turn (goal.at.overflow_add-sum c).After-fits) _ refl).2)

pub loop-digit-preserved : goal.loop-digit-preserved
loop-digit-preserved c =
    let next = more c (turn (goal.at.loop-digit-preserved c).After-fits) _ (length_push c.loop-digit.yielded (c.in-Some.digit, c.in-Some.value)) in
    record { total = next.0; low = next.1 }

use Rattle.std.proofs.Common.{◌≡◌, ℕ, ◌+◌, ◌*◌, ◌^◌, ◌<◌, cond, List, map, length, get_or, drop, Some, None, sym, ap, ◌∙◌, arith, rules}
use Rattle.std.proofs.lemmas.List.{length_push, get_or-map}
use Rattle.std.proofs.lemmas.Slice.Zip.{zip_turn, zip_end}
use Rattle.bounded.specs.Items.{items}
use Rattle.scheme.specs.Sizes.{size_states}
use Rattle.codes.specs.declared.divisor.Divisor.{Divisor}
use Rattle.codes.specs.Divisors.{number_of}
use Rattle.codes.specs.declared.object.ObjectState.{ObjectState}
use Rattle.codes.specs.Meanings.{object_of}
use Rattle.codes.specs.Objects.{object_fits}
use Rattle.codes.specs.Codes.{code}
use Rattle.record.specs.declared.numbering.Numbering.{Numbering}
use Rattle.record.specs.Numberings.{dimensions_of, summed_from}
use Rattle.record.proofs.Powers.{pow_le}
use Rattle.record.proofs.Turns.{sum_unfit, sum_more, sum_all}
use Rattle.record.proofs.numbering.Numbering.sum_codes.Goals as goal

pub returns-in_err-code : goal.returns-in_err-code
returns-in_err-code c =
    let turn = zip_turn c.args.objects.now (items c.args.self.now.places) c.loop-object.yielded c.into_iter-object-iterator.result c.loop-object.object-iterator c.next.new.self c.next.result (search rules) (search rules) c.loop-object.yielded_by
    (c.in-Some.object, c.in-Some.place) c.in-Some.is c.next.ensures.steps in
    c.from_residual.ensures
    ∙ sum_unfit object_of (dimensions_of c.args.self.now).sizes c.args.objects.now (length c.loop-object.yielded) c.loop-object.sum c.in-Some.object.now turn.0 (turn.2 _) c.in_err-code.ensures.value
    ∙ c.loop-object.invariant.left

-- one object more
record Turn (self : Numbering) (objects : List ObjectState) (n sum more : ℕ) : Type 0 where
  left : summed_from (sum + more) (n + 1) (dimensions_of self).sizes (map object_of (drop (n + 1) objects)) ≡ summed_from sum n (dimensions_of self).sizes (map object_of (drop n objects))
  below : sum + more < size_states (dimensions_of self).sizes ^ (n + 1)
  small : sum + more < 1048576

turn : (self : Numbering) (objects : List ObjectState) (n sum : ℕ) (x : ObjectState) (c : ℕ) (p : Divisor)
    → (n < length objects) × (n < length (items self.places)) × ((d : ObjectState) → x ≡ get_or objects n d) × ((d : Divisor) → p ≡ get_or (items self.places) n d)
    → Some c ≡ cond (object_fits (dimensions_of self).sizes (object_of x)) (Some (code (dimensions_of self).sizes (object_of x))) None
    → sum < size_states (dimensions_of self).sizes ^ n → Turn self objects n sum (c * number_of p)
turn self objects n sum x c p at is-code low =
    let ks = (dimensions_of self).sizes in
    let m = sum_more object_of ks objects n sum x at.0 (at.2 x) c (number_of p) is-code (ap number_of (at.3 p) ∙ sym (get_or-map number_of (items self.places) n p 0 at.1) ∙ self.placed n at.1) low in
    record {
      left = m.same;
      below = m.below;
      small = omega (arith, m.below, pow_le (size_states ks) (n + 1) (dimensions_of self).objects (omega arith) (omega (arith, at.1)), self.counted, self.few);
    }

pub overflow_mul-sum : goal.overflow_mul-sum
overflow_mul-sum c =
    let at = zip_turn c.args.objects.now (items c.args.self.now.places) c.loop-object.yielded c.into_iter-object-iterator.result c.loop-object.object-iterator c.next.new.self c.next.result (search rules) (search rules) c.loop-object.yielded_by
    (c.in-Some.object, c.in-Some.place) c.in-Some.is c.next.ensures.steps in
    rw c.number.ensures (omega (arith, (turn c.args.self.now c.args.objects.now _ c.loop-object.sum _ _ _ at c.in_ok-code.ensures.value c.loop-object.invariant.below).small))

pub overflow_add-sum : goal.overflow_add-sum
overflow_add-sum c =
    let at = zip_turn c.args.objects.now (items c.args.self.now.places) c.loop-object.yielded c.into_iter-object-iterator.result c.loop-object.object-iterator c.next.new.self c.next.result (search rules) (search rules) c.loop-object.yielded_by
    (c.in-Some.object, c.in-Some.place) c.in-Some.is c.next.ensures.steps in
    rw c.number.ensures (omega (arith, (turn c.args.self.now c.args.objects.now _ c.loop-object.sum _ _ _ at c.in_ok-code.ensures.value c.loop-object.invariant.below).small))

pub loop-object-preserved : goal.loop-object-preserved
loop-object-preserved c =
    let at = zip_turn c.args.objects.now (items c.args.self.now.places) c.loop-object.yielded c.into_iter-object-iterator.result c.loop-object.object-iterator c.next.new.self c.next.result (search rules) (search rules) c.loop-object.yielded_by
    (c.in-Some.object, c.in-Some.place) c.in-Some.is c.next.ensures.steps in
    let t = turn c.args.self.now c.args.objects.now _ c.loop-object.sum _ _ _ at c.in_ok-code.ensures.value c.loop-object.invariant.below in
    rw c.number.ensures (simp length_push (record { left = t.left ∙ c.loop-object.invariant.left; below = t.below }))

pub returns : goal.returns
returns c =
    let all = zip_end c.args.objects.now (items c.args.self.now.places) c.loop-object.yielded c.into_iter-object-iterator.result c.loop-object.object-iterator c.next.new.self c.next.result (search rules) (search rules) c.loop-object.yielded_by
    c.in-None.is c.next.ensures.steps in
    sum_all object_of (dimensions_of c.args.self.now).sizes c.args.objects.now (length c.loop-object.yielded) c.loop-object.sum (omega (arith, all, c.requires))
    ∙ c.loop-object.invariant.left

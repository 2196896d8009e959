-- One object of a state, as a digit of the state's number.
use Rattle.std.proofs.Common.{◌≡◌, ℕ, zero, suc, ◌+◌, ◌-◌, ◌*◌, ◌/◌, ◌%◌, ◌^◌, ◌<◌, ◌≤◌, true, ◌≢◌, List, [], ◌∷◌, length, get_or, set, sym, refl, ap, ◌∙◌, subst, mul-le-mul_right, mul_assoc, add-mul, pow-suc, mul-one, div-mul-le_self, div-one, arith}
use native.Mathlib.Nat.{pow-succ', pow-zero, div-div-eq-div-mul, mod-le}
use Rattle.std.proofs.lemmas.Nat.{mod_below}
use Rattle.std.proofs.lemmas.List.{length-set, get_or-set_other}
use Rattle.std.proofs.lemmas.Bool.{and_parts, and_from, eq-eqb}
use Rattle.scheme.specs.Sizes.{size_states}
use Rattle.codes.specs.Objects.{ObjectState, absent, object_fits}
use Rattle.codes.specs.Codes.{code, object_from}
use Rattle.codes.proofs.Digits.{code_object, fits_object}
use Rattle.enforcement.specs.Enforcement.{State}
use Rattle.record.specs.States.{all_fit, number, state_from}
use Rattle.record.proofs.Digits.{horner, number_horner, horner_below, horner_state, fit_state, length_state, state_of_number}

pub object_at : (ks : List ℕ) (n i m : ℕ) → i < n → get_or (state_from ks n m) i absent ≡ object_from ks (m / size_states ks ^ i % size_states ks)
object_at ks zero i m h = absurd (omega arith)
object_at ks (suc n) zero m h = rw (pow-zero, div-one)
object_at ks (suc n) (suc i) m h =
    object_at ks n i (m / size_states ks) (omega arith)
    ∙ ap (λ x. object_from ks (x % size_states ks)) (div-div-eq-div-mul m (size_states ks) (size_states ks ^ i) ∙ ap (λ x. m / x) (sym (pow-succ' (size_states ks) i)))

pub fit_replaced : (ks : List ℕ) (t : State) (i : ℕ) (x : ObjectState) → all_fit ks t ≡ true → object_fits ks x ≡ true → all_fit ks (set t i x) ≡ true
fit_replaced ks [] i x h f = refl
fit_replaced ks (y ∷ t) zero x h f = and_from _ _ f (and_parts (object_fits ks y) (all_fit ks t) h).1
fit_replaced ks (y ∷ t) (suc i) x h f =
    let p = and_parts (object_fits ks y) (all_fit ks t) h in
    and_from _ _ p.0 (fit_replaced ks t i x p.1 f)

-- another object in one place changes one term of the sum
horner_replaced : (ks : List ℕ) (t : State) (i : ℕ) (x : ObjectState) → i < length t
    → horner ks (set t i x) + code ks (get_or t i absent) * size_states ks ^ i ≡ horner ks t + code ks x * size_states ks ^ i
horner_replaced ks [] i x h = absurd (omega arith)
horner_replaced ks (y ∷ t) zero x h = rw pow-zero (omega (arith, mul-one (code ks y), mul-one (code ks x)))
horner_replaced ks (y ∷ t) (suc i) x h =
    let b = size_states ks in
    let p = size_states ks ^ i in
    let old = code ks (get_or t i absent) in
    let new = code ks x in
    let ih = horner_replaced ks t i x (omega arith) in
    let e : (horner ks (set t i x) + old * p) * b ≡ (horner ks t + new * p) * b = ap (λ z. z * b) ih in
    rw pow-suc
    (omega (arith, e, add-mul (horner ks (set t i x)) (old * p) b, add-mul (horner ks t) (new * p) b, mul_assoc old p b, mul_assoc new p b))

-- the state numbered m, with the code e in the place p of object i, where d was
pub record Exchanged (ks : List ℕ) (n m i d e p : ℕ) : Type 0 where
  pub within : d * p ≤ m
  pub value : m - d * p + e * p ≡ number ks (set (state_from ks n m) i (object_from ks e))
  pub below : m - d * p + e * p < size_states ks ^ n

exchange : (ks : List ℕ) (n m i e : ℕ) → m < size_states ks ^ n → i < n → e < size_states ks
    → Exchanged ks n m i (m / size_states ks ^ i % size_states ks) e (size_states ks ^ i)
exchange ks n m i e known inside new =
    let b = size_states ks in
    let p = size_states ks ^ i in
    let d = m / p % b in
    let t = state_from ks n m in
    let x = object_from ks e in
    let pos : 0 < b = omega arith in
    let old : d * p ≤ m = omega (arith, mul-le-mul_right p (mod-le (m / p) b), div-mul-le_self m p) in
    let is_old : code ks (get_or t i absent) ≡ d = ap (λ y. code ks y) (object_at ks n i m inside) ∙ code_object ks d (mod_below (m / p) b pos) in
    let is_new : code ks x ≡ e = code_object ks e new in
    let whole : horner ks t ≡ m = horner_state ks n m known in
    let long : length t ≡ n = length_state ks n m in
    let sum : horner ks (set t i x) + d * p ≡ m + e * p =
    ap (λ y. horner ks (set t i x) + y * p) (sym is_old)
    ∙ horner_replaced ks t i x (omega arith)
    ∙ ap (λ y. y + code ks x * p) whole
    ∙ ap (λ y. m + y * p) is_new in
    let fits : all_fit ks (set t i x) ≡ true = fit_replaced ks t i x (fit_state ks n m) (fits_object ks e) in
    let long' : length (set t i x) ≡ n = length-set t i x ∙ long in
    let limit : horner ks (set t i x) < size_states ks ^ n = subst (λ k. horner ks (set t i x) < size_states ks ^ k) long' (horner_below ks (set t i x) fits) in
    record {
      within = old;
      value = omega (arith, number_horner ks (set t i x), sum, old);
      below = omega (arith, sum, old, limit);
    }

-- the same with the numbers that the program holds
pub exchanged : (ks : List ℕ) (n m i d e p : ℕ) → m < size_states ks ^ n → i < n → d ≡ m / size_states ks ^ i % size_states ks → e < size_states ks → p ≡ size_states ks ^ i
    → Exchanged ks n m i d e p
exchanged ks n m i d e p known inside is_old new is-place = rw (is_old, is-place) (exchange ks n m i e known inside new)

-- the state that an exchange leads to
pub state_exchanged : (ks : List ℕ) (n m i e : ℕ) → state_from ks n (number ks (set (state_from ks n m) i (object_from ks e))) ≡ set (state_from ks n m) i (object_from ks e)
state_exchanged ks n m i e =
    let t = set (state_from ks n m) i (object_from ks e) in
    state_of_number ks n t
    (and_from _ _ (eq-eqb (length t) n (length-set (state_from ks n m) i (object_from ks e) ∙ length_state ks n m)) (fit_replaced ks (state_from ks n m) i (object_from ks e) (fit_state ks n m) (fits_object ks e)))

-- another object keeps its code
pub code_kept : (ks : List ℕ) (n m h i j e : ℕ) → i < n → j < n → j ≢ i → h ≡ number ks (set (state_from ks n m) i (object_from ks e))
    → m / size_states ks ^ j % size_states ks ≡ h / size_states ks ^ j % size_states ks
code_kept ks n m h i j e hi hj ne is =
    let b = size_states ks in
    let pos : 0 < b = omega arith in
    let t = state_from ks n m in
    let same : object_from ks (m / b ^ j % b) ≡ object_from ks (h / b ^ j % b) =
    sym (object_at ks n j m hj)
    ∙ sym (get_or-set_other t i j (object_from ks e) absent ne)
    ∙ ap (λ x. get_or x j absent) (sym (state_exchanged ks n m i e) ∙ ap (λ k. state_from ks n k) (sym is))
    ∙ object_at ks n j h hj in
    sym (code_object ks (m / b ^ j % b) (mod_below (m / b ^ j) b pos))
    ∙ ap (λ x. code ks x) same
    ∙ code_object ks (h / b ^ j % b) (mod_below (h / b ^ j) b pos)

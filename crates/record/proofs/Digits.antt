-- The numbers of states, digit by digit: states and the numbers below their count correspond one to one.
use Rattle.std.proofs.Common.{◌≡◌, ℕ, zero, suc, ◌+◌, ◌*◌, ◌/◌, ◌%◌, ◌^◌, ◌<◌, true, eqb, List, [], ◌∷◌, length, sym, refl, ap, ◌∙◌, mul_assoc, mul_comm, add-mul, pow-suc, div-add-mod', mul-one, add-one, arith}
use native.Mathlib.Nat.{pow-zero}
use lib.Arith.{digits_lt, digits_div, digits_mod}
use Rattle.std.proofs.lemmas.Nat.{div_below, mod_below}
use Rattle.std.proofs.lemmas.Bool.{and_parts, and_from, eqb-true, eq-eqb}
use Rattle.scheme.specs.Sizes.{size_states}
use Rattle.codes.specs.Objects.{object_fits}
use Rattle.codes.specs.Codes.{code}
use Rattle.codes.proofs.Digits.{code_below, object_code, code_object, fits_object}
use Rattle.enforcement.specs.Enforcement.{State}
use Rattle.record.specs.States.{all_fit, state_fits, number_from, number, state_from, Corresponds}

-- the number of a state, by Horner's rule
abbrev pub horner : List ℕ → State → ℕ
horner ks [] = 0
horner ks (x ∷ t) = horner ks t * size_states ks + code ks x

number_horner_from : (i : ℕ) (ks : List ℕ) (t : State) → number_from i ks t ≡ horner ks t * size_states ks ^ i
number_horner_from i ks [] = omega arith
number_horner_from i ks (x ∷ t) =
    let b = size_states ks in
    let p = size_states ks ^ i in
    let q = horner ks t in
    let ih = number_horner_from (i + 1) ks t in
    let e : size_states ks ^ (i + 1) ≡ p * b = ap (λ x. size_states ks ^ x) (add-one i) ∙ pow-suc b i in
    let f : q * (p * b) ≡ q * b * p = ap (λ x. q * x) (mul_comm p b) ∙ sym (mul_assoc q b p) in
    let g : q * size_states ks ^ (i + 1) ≡ q * (p * b) = ap (λ x. q * x) e in
    omega (arith, add-mul (q * b) (code ks x) p, ih, f, g)

pub number_horner : (ks : List ℕ) (t : State) → number ks t ≡ horner ks t
number_horner ks t = number_horner_from 0 ks t ∙ (ap (λ x. horner ks t * x) (pow-zero (size_states ks)) ∙ mul-one (horner ks t))

pub horner_below : (ks : List ℕ) (t : State) → all_fit ks t ≡ true → horner ks t < size_states ks ^ length t
horner_below ks [] h = rw pow-zero (omega arith)
horner_below ks (x ∷ t) h =
    let p = and_parts (object_fits ks x) (all_fit ks t) h in
    rw pow-suc (digits_lt (horner_below ks t p.1) (code_below ks x p.0))

state_horner : (ks : List ℕ) (t : State) → all_fit ks t ≡ true → state_from ks (length t) (horner ks t) ≡ t
state_horner ks [] h = refl
state_horner ks (x ∷ t) h =
    let p = and_parts (object_fits ks x) (all_fit ks t) h in
    let lt = code_below ks x p.0 in
    let d = digits_div (horner ks t) lt in
    let m = digits_mod (horner ks t) lt in
    rw (d, m, object_code ks x p.0, state_horner ks t p.1)

pub horner_state : (ks : List ℕ) (n m : ℕ) → m < size_states ks ^ n → horner ks (state_from ks n m) ≡ m
horner_state ks zero m h = let e : m < 1 = rw pow-zero at h in omega arith
horner_state ks (suc n) m h =
    let b = size_states ks in
    let e : m < size_states ks ^ n * size_states ks = rw pow-suc at h in
    let pos : 0 < size_states ks = omega arith in
    rw (horner_state ks n (m / size_states ks) (div_below m (size_states ks) (size_states ks ^ n) pos e), code_object ks (m % size_states ks) (mod_below m (size_states ks) pos))
    (div-add-mod' m (size_states ks))

pub fit_state : (ks : List ℕ) (n m : ℕ) → all_fit ks (state_from ks n m) ≡ true
fit_state ks zero m = refl
fit_state ks (suc n) m = and_from _ _ (fits_object ks (m % size_states ks)) (fit_state ks n (m / size_states ks))

pub length_state : (ks : List ℕ) (n m : ℕ) → length (state_from ks n m) ≡ n
length_state ks zero m = refl
length_state ks (suc n) m = ap suc (length_state ks n (m / size_states ks))

module _ (ks : List ℕ) (n : ℕ) (t : State) (h : state_fits ks n t ≡ true) where
  parts : (length t ≡ n) × (all_fit ks t ≡ true)
  parts = let p = and_parts (eqb (length t) n) (all_fit ks t) h in (eqb-true (length t) n p.0, p.1)

  pub number_below : number ks t < size_states ks ^ n
  number_below = rw (number_horner ks t, ← parts.0) (horner_below ks t parts.1)

  pub state_of_number : state_from ks n (number ks t) ≡ t
  state_of_number = ap (λ k. state_from ks k (number ks t)) (sym parts.0) ∙ rw (number_horner ks t) (state_horner ks t parts.1)

pub is_state : (ks : List ℕ) (n m : ℕ) → state_fits ks n (state_from ks n m) ≡ true
is_state ks n m = and_from _ _ (eq-eqb _ _ (length_state ks n m)) (fit_state ks n m)

pub number_of_state : (ks : List ℕ) (n m : ℕ) → m < size_states ks ^ n → number ks (state_from ks n m) ≡ m
number_of_state ks n m h = number_horner ks (state_from ks n m) ∙ horner_state ks n m h

pub corresponds : (ks : List ℕ) (n : ℕ) → Corresponds ks n
corresponds ks n =
    record {
      number_below = number_below ks n;
      state_of_number = state_of_number ks n;
      is_state = is_state ks n;
      number_of_state = number_of_state ks n;
    }

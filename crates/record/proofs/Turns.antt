-- One turn of the loop over the objects of a state, and the objects of a number.
use Rattle.std.proofs.Common.{◌≡◌, ℕ, suc, ◌+◌, ◌*◌, ◌/◌, ◌%◌, ◌^◌, ◌<◌, ◌≤◌, Bool, true, false, cond, ◌&&◌, List, [], ◌∷◌, map, length, get_or, drop, Some, None, sym, refl, ap, ◌∙◌, add_assoc, mul_comm, arith}
use native.Mathlib.Nat.{pow-zero, div-div-eq-div-mul}
use lib.Arith.{digits_lt}
use Rattle.std.proofs.Math.Nat.{div-one}
use Rattle.std.proofs.lemmas.List.{drop_more, drop_all}
use Rattle.scheme.specs.Sizes.{size_states}
use Rattle.codes.specs.declared.divisor.Divisor.{Divisor}
use Rattle.codes.specs.Divisors.{number_of}
use Rattle.codes.specs.Objects.{ObjectState, object_fits}
use Rattle.codes.specs.Codes.{code, object_from}
use Rattle.codes.proofs.Digits.{code_below}
use Rattle.enforcement.proofs.Fitting.{none_some}
use Rattle.record.specs.States.{all_fit, number_from, state_from}
use Rattle.record.specs.Places.{Places}
use Rattle.record.specs.Numberings.{summed_from}
use Rattle.record.proofs.Powers.{pow_more}

-- The sum of the codes: xs are the objects of the code, f says what they stand for.
module _ {X : Type 0} (f : X → ObjectState) (ks : List ℕ) (xs : List X) (i sum : ℕ) (x : X) (inside : i < length xs) (is_item : x ≡ get_or xs i x) where
  split : summed_from sum i ks (map f (drop i xs)) ≡ summed_from sum i ks (f x ∷ map f (drop (i + 1) xs))
  split = ap (λ l. summed_from sum i ks (map f l)) (drop_more xs i x inside ∙ ap (λ y. y ∷ drop (i + 1) xs) (sym is_item))

  pub sum_unfit : None ≡ cond (object_fits ks (f x)) (Some (code ks (f x))) None → None ≡ summed_from sum i ks (map f (drop i xs))
  sum_unfit e = go (object_fits ks (f x)) refl e ∙ sym split
    where
      go : (b : Bool) → object_fits ks (f x) ≡ b → None ≡ cond b (Some (code ks (f x))) None
          → None ≡ cond (object_fits ks (f x) && all_fit ks (map f (drop (i + 1) xs))) (Some (sum + number_from i ks (f x ∷ map f (drop (i + 1) xs)))) None
      go true h e = absurd (none_some (code ks (f x)) e)
      go false h e = sym (ap (λ b. cond (b && all_fit ks (map f (drop (i + 1) xs))) (Some (sum + number_from i ks (f x ∷ map f (drop (i + 1) xs)))) None) h)

  pub record Summed (c p : ℕ) : Type 0 where
    pub same : summed_from (sum + c * p) (i + 1) ks (map f (drop (i + 1) xs)) ≡ summed_from sum i ks (map f (drop i xs))
    pub below : sum + c * p < size_states ks ^ (i + 1)

  pub sum_more : (c p : ℕ) → Some c ≡ cond (object_fits ks (f x)) (Some (code ks (f x))) None → p ≡ size_states ks ^ i → sum < size_states ks ^ i → Summed c p
  sum_more c p e is-place low = go (object_fits ks (f x)) refl e
    where
      rest : ℕ
      rest = number_from (i + 1) ks (map f (drop (i + 1) xs))

      go : (b : Bool) → object_fits ks (f x) ≡ b → Some c ≡ cond b (Some (code ks (f x))) None → Summed c p
      go false h e = absurd (none_some c (sym e))
      go true h e =
          let is_code : c ≡ code ks (f x) = cc in
          let product : c * p ≡ code ks (f x) * size_states ks ^ i = ap (λ n. n * p) is_code ∙ ap (λ n. code ks (f x) * n) is-place in
          let fit : Bool = all_fit ks (map f (drop (i + 1) xs)) in
          let high : code ks (f x) * size_states ks ^ i + sum < size_states ks * size_states ks ^ i = digits_lt (code_below ks (f x) h) low in
          record {
            same =
                ap (λ n. cond fit (Some n) None) (add_assoc sum (c * p) rest)
                ∙ ap (λ n. cond fit (Some (sum + (n + rest))) None) product
                ∙ sym (split ∙ ap (λ b. cond (b && fit) (Some (sum + (code ks (f x) * size_states ks ^ i + rest))) None) h);
            below = omega (arith, product, high, pow_more (size_states ks) i (size_states ks ^ i) refl, mul_comm (size_states ks) (size_states ks ^ i));
          }

pub sum_all : {X : Type 0} (f : X → ObjectState) (ks : List ℕ) (xs : List X) (i sum : ℕ) → length xs ≤ i → Some sum ≡ summed_from sum i ks (map f (drop i xs))
sum_all f ks xs i sum h =
    let more : sum ≡ sum + 0 = omega arith in
    ap Some more ∙ sym (ap (λ l. summed_from sum i ks (map f l)) (drop_all i xs h))

-- The objects of a number, by their places.
module _ (ks : List ℕ) (m : ℕ) where
  read_from : (i : ℕ) (ps : List Divisor) → ((k : ℕ) → k < length ps → get_or (map number_of ps) k 0 ≡ size_states ks ^ (i + k))
      → map (λ (p : Divisor). object_from ks (m / number_of p % size_states ks)) ps ≡ state_from ks (length ps) (m / size_states ks ^ i)
  read_from i [] h = refl
  read_from i (p ∷ ps) h =
      let b = size_states ks in
      let object : ℕ → ObjectState = λ n. object_from ks (m / n % b) in
      let whole : Divisor → ObjectState = λ p. object (number_of p) in
      let first : number_of p ≡ b ^ i = h 0 (omega arith) ∙ ap (λ k. b ^ k) (omega arith) in
      let next : m / b ^ (i + 1) ≡ m / b ^ i / b = sym (div-div-eq-div-mul m (b ^ i) b ∙ ap (λ k. m / k) (pow_more b i (b ^ i) refl)) in
      let rest : map whole ps ≡ state_from ks (length ps) (m / b ^ (i + 1)) = read_from (i + 1) ps (λ k l. h (suc k) (omega arith) ∙ ap (λ n. b ^ n) (omega arith)) in
      ap (λ n. object n ∷ map whole ps) first ∙ ap (λ t. object (b ^ i) ∷ t) (rest ∙ ap (state_from ks (length ps)) next)

  pub state_read : (ps : List Divisor) → Places (size_states ks) ps → map (λ (p : Divisor). object_from ks (m / number_of p % size_states ks)) ps ≡ state_from ks (length ps) m
  state_read ps h =
      let whole : m / size_states ks ^ 0 ≡ m = ap (λ n. m / n) (pow-zero (size_states ks)) ∙ div-one m in
      read_from 0 ps (λ k l. h k l ∙ ap (λ n. size_states ks ^ n) (omega arith)) ∙ ap (state_from ks (length ps)) whole

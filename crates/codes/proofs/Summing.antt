-- The weighed sum of the values of an object, one attribute after another.
use Rattle.std.proofs.Common.{◌≡◌, ℕ, suc, ◌+◌, ◌*◌, ◌<◌, Bool, true, false, cond, ◌&&◌, List, [], ◌∷◌, length, get_or, drop, slice_get, Some, None, Option, sym, refl, ap, ◌∙◌, add_assoc, mul_comm, arith}
use lib.Arith.{digits_lt}
use Rattle.std.proofs.lemmas.List.{drop_more, length-map}
use Rattle.std.proofs.lemmas.Option.{slice_get-get_or}
use Rattle.std.proofs.lemmas.Bool.{false≢true, and_parts}
use Rattle.scheme.specs.WellFormed.{value_fits, values_fit}
use Rattle.codes.specs.Codes.{part, weighed}
use Rattle.codes.specs.declared.digit.Digit.{Digit}
use Rattle.codes.specs.Weights.{weight, digit_sizes, Weighed, summed}
use Rattle.codes.proofs.Digits.{part_lt}
use Rattle.codes.proofs.Weighing.{weight_more, size_at}

fit_length : (ks : List ℕ) (vs : List (Option ℕ)) → values_fit ks vs ≡ true → length vs ≡ length ks
fit_length [] [] h = refl
fit_length [] (v ∷ vs) h = absurd (false≢true h)
fit_length (k ∷ ks) [] h = absurd (false≢true h)
fit_length (k ∷ ks) (v ∷ vs) h = ap suc (fit_length ks vs (and_parts (value_fits k v) (values_fit ks vs) h).1)

pub summed_uneven : (sum w : ℕ) (ks : List ℕ) (vs : List (Option ℕ)) → (length vs ≡ length ks → ⊥) → None ≡ summed sum w ks vs
summed_uneven sum w ks vs uneven = go (values_fit ks vs) refl
  where
    go : (b : Bool) → values_fit ks vs ≡ b → None ≡ cond b (Some (sum + weighed w ks vs)) None
    go true e = absurd (uneven (fit_length ks vs e))
    go false e = refl

-- the value of the attribute at i
module _ (ks : List ℕ) (vs : List (Option ℕ)) (i sum : ℕ) (even : length vs ≡ length ks) (inside : i < length ks) where
  -- it stands before those that are left
  split : summed sum (weight ks i) (drop i ks) (drop i vs) ≡ summed sum (weight ks i) (get_or ks i 0 ∷ drop (i + 1) ks) (get_or vs i None ∷ drop (i + 1) vs)
  split =
      ap (λ l. summed sum (weight ks i) l (drop i vs)) (drop_more ks i 0 inside)
      ∙ ap (λ l. summed sum (weight ks i) (get_or ks i 0 ∷ drop (i + 1) ks) l) (drop_more vs i None (omega arith))

  pub summed_unfit : value_fits (get_or ks i 0) (get_or vs i None) ≡ false → None ≡ summed sum (weight ks i) (drop i ks) (drop i vs)
  summed_unfit unfit =
      sym (split ∙ ap (λ b. cond (b && values_fit (drop (i + 1) ks) (drop (i + 1) vs)) (Some (sum + weighed (weight ks i) (get_or ks i 0 ∷ drop (i + 1) ks) (get_or vs i None ∷ drop (i + 1) vs))) None) unfit)

  -- one value more; the sum stays small
  pub summed_more : (p w : ℕ) → p ≡ part (get_or vs i None) → w ≡ weight ks i → value_fits (get_or ks i 0) (get_or vs i None) ≡ true → sum < weight ks i
      → (summed (sum + p * w) (weight ks (i + 1)) (drop (i + 1) ks) (drop (i + 1) vs) ≡ summed sum (weight ks i) (drop i ks) (drop i vs))
      × (sum + p * w < weight ks (i + 1))
  summed_more p w is-part is-weight fits low =
      let rest : ℕ = weighed (weight ks i * (get_or ks i 0 + 1)) (drop (i + 1) ks) (drop (i + 1) vs) in
      let fit : Bool = values_fit (drop (i + 1) ks) (drop (i + 1) vs) in
      let product : p * w ≡ part (get_or vs i None) * weight ks i = ap (λ n. n * w) is-part ∙ ap (λ n. part (get_or vs i None) * n) is-weight in
      let b : part (get_or vs i None) * weight ks i + sum < (get_or ks i 0 + 1) * weight ks i = digits_lt (part_lt (get_or ks i 0) (get_or vs i None) fits) low in (
        ap (λ n. summed (sum + n) (weight ks (i + 1)) (drop (i + 1) ks) (drop (i + 1) vs)) product
            ∙ ap (λ n. summed (sum + part (get_or vs i None) * weight ks i) n (drop (i + 1) ks) (drop (i + 1) vs)) (weight_more ks i inside)
            ∙ ap (λ n. cond fit (Some n) None) (add_assoc sum (part (get_or vs i None) * weight ks i) rest)
            ∙ sym (split ∙ ap (λ b. cond (b && fit) (Some (sum + (part (get_or vs i None) * weight ks i + rest))) None) fits),
        omega (arith, weight_more ks i inside, mul_comm (get_or ks i 0 + 1) (weight ks i)),
      )

-- the digits and the values, in step
module _ (ds : List Digit) (vs : List (Option ℕ)) (weighed : Weighed ds) (even : length vs ≡ length ds) where
  abbrev sum_left : ℕ → ℕ → Option ℕ
  sum_left sum n = summed sum (weight (digit_sizes ds) n) (drop n (digit_sizes ds)) (drop n vs)

  evenly : length vs ≡ length (digit_sizes ds)
  evenly = even ∙ sym (length-map ds (λ (x : Digit). x.size))

  module _ (n sum : ℕ) (d : Digit) (v : Option ℕ) (inside : n < length ds) (is_digit : d ≡ get_or ds n d) (is_value : v ≡ get_or vs n None) where
    here : slice_get ds n ≡ Some d
    here = slice_get-get_or ds n d inside ∙ ap Some (sym is_digit)

    inside_sizes : n < length (digit_sizes ds)
    inside_sizes = omega (arith, length-map ds (λ (x : Digit). x.size))

    test : value_fits d.size v ≡ value_fits (get_or (digit_sizes ds) n 0) (get_or vs n None)
    test = ap (λ k. value_fits k v) (sym (size_at ds n d here)) ∙ ap (value_fits (get_or (digit_sizes ds) n 0)) is_value

    pub digit_unfit : false ≡ value_fits d.size v → None ≡ sum_left sum n
    digit_unfit unfit = summed_unfit (digit_sizes ds) vs n sum evenly inside_sizes (sym (unfit ∙ test))

    pub digit_summed : (p next : ℕ) → p ≡ part v → true ≡ value_fits d.size v → sum < weight (digit_sizes ds) n → next ≡ n + 1
        → (sum_left (sum + p * d.weight.by) next ≡ sum_left sum n) × (sum + p * d.weight.by < weight (digit_sizes ds) next)
    digit_summed p next is_part fits low is_next =
        let more = summed_more (digit_sizes ds) vs n sum evenly inside_sizes p d.weight.by (is_part ∙ ap part is_value) (weighed n d here) (sym (fits ∙ test)) low in
        rw is_next more

-- One digit more of the codes that are made for given sizes.
use Rattle.std.proofs.Common.{◌≡◌, ℕ, ◌+◌, ◌*◌, ◌^◌, ◌<◌, ◌≤◌, Bool, cond, ltb, List, [], ◌∷◌, ◌++◌, length, get_or, take, sym, ap, ◌∙◌, subst, arith}
use Rattle.std.proofs.lemmas.List.{take_all, take_more, length-map, length-take-le, map_push}
use Rattle.bounded.proofs.Pushes.{pushed}
use Rattle.scheme.specs.Sizes.{size_combinations}
use Rattle.codes.specs.declared.digit.Digit.{Digit}
use Rattle.codes.specs.Weights.{weight, digit_sizes, Weighed}
use Rattle.codes.proofs.Weighing.{weight_more, weight_fits, weight_before_last_fits, weighed_more}

-- the sizes so far have their digits, and w is the product of (k + 1) over them
module _ (ks : List ℕ) (at : ℕ) (w : ℕ) (inside : at < length ks) (few : length ks ≤ 4) (bytes : (i : ℕ) → get_or ks i 0 < 256) (product : w ≡ weight ks at) where
  next_product : w * (get_or ks at 0 + 1) ≡ weight ks (at + 1)
  next_product = ap (λ n. n * (get_or ks at 0 + 1)) product ∙ sym (weight_more ks at inside)

  pub next_product_fits : w * (get_or ks at 0 + 1) ≤ 2 ^ 32
  next_product_fits = omega (arith, next_product, weight_fits ks (at + 1) (omega arith) bytes)

  pub product_fits : w < 2 ^ 32
  product_fits = omega (arith, weight_before_last_fits ks at (omega arith) bytes)

  module _ (ds ds' : List Digit) (d : Digit) (room : Bool) (so_far : digit_sizes ds ≡ take at ks) (is_size : d.size ≡ get_or ks at 0) (is_weight : d.weight.by ≡ w) (has_room : room ≡ ltb (length ds) 4) (left : ds' ≡ cond room (ds ++ d ∷ []) ds) where
    long : length ds ≡ at
    long = sym (length-map ds (λ (x : Digit). x.size)) ∙ ap length so_far ∙ length-take-le at ks (omega arith)

    more : ds' ≡ ds ++ d ∷ []
    more = pushed ds ds' d 4 room (omega (arith, long)) has_room left

    sizes_next : digit_sizes ds' ≡ take (at + 1) ks
    sizes_next =
        ap digit_sizes more
        ∙ map_push (λ (x : Digit). x.size) ds d
        ∙ ap (λ l. l ++ d.size ∷ []) so_far
        ∙ ap (λ k. take at ks ++ k ∷ []) is_size
        ∙ sym (take_more ks at 0 inside)

    weight_next : weight (digit_sizes ds) (length ds) ≡ weight ks at
    weight_next =
        ap (weight (digit_sizes ds)) long
        ∙ ap (λ l. weight l at) so_far
        ∙ ap size_combinations (take_all at (take at ks) (omega (arith, length-take-le at ks)))

    pub next_digit : Weighed ds → (digit_sizes ds' ≡ take (at + 1) ks) × Weighed ds' × (w * (get_or ks at 0 + 1) ≡ weight ks (at + 1)) × (w * (get_or ks at 0 + 1) ≤ 2 ^ 32)
    next_digit weighed = (sizes_next, subst Weighed (sym more) (weighed_more ds d weighed (is_weight ∙ product ∙ sym weight_next)), next_product, next_product_fits)

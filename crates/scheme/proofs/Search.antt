-- A search for a name: the place that `position` finds is the number that the name has.
use Rattle.std.proofs.Common.{◌≡◌, ℕ, ◌+◌, Bool, true, false, not, cond, ltb, List, [], ◌∷◌, map, length, Some, None, Option, arith, sym, ◌∙◌, ap}
use Rattle.std.specs.List.{position_or_len, position}
use Rattle.std.specs.Str.{bytes_eq}
use Rattle.std.proofs.lemmas.Bool.Decides.{nat_tests}
use Rattle.scheme.specs.Names.{index_from, index_of}

-- the first of p + 1 places and more: it passes (t), or the search goes on
at_head : (t : Bool) (i p l : ℕ) (later : Option ℕ) → later ≡ cond (ltb p l) (Some (i + 1 + p)) None
    → cond t (Some i) later ≡ cond (ltb (cond (not t) (1 + p) 0) (1 + l)) (Some (i + cond (not t) (1 + p) 0)) None
at_head true i p l later e = grind (arith, nat_tests)
at_head false i p l later e = grind (arith, nat_tests)

module _ {X : Type 0} (f : X → List ℕ) (n : List ℕ) where
  abbrev place : List X → ℕ
  place xs = position_or_len (λ x. bytes_eq (f x) n) xs

  placed_from : (i : ℕ) (xs : List X) → index_from i n (map f xs) ≡ cond (ltb (place xs) (length xs)) (Some (i + place xs)) None
  placed_from i [] = grind (arith, nat_tests)
  placed_from i (x ∷ xs) = grind (arith, at_head (bytes_eq (f x) n) i (place xs) (length xs) _ (placed_from (i + 1) xs))

  pub placed : (xs : List X) → position (λ x. bytes_eq (f x) n) xs ≡ index_of n (map f xs)
  placed xs = sym (placed_from 0 xs ∙ ap (λ k. cond (ltb (place xs) (length xs)) (Some k) None) (omega arith))

-- The texts in some bytes, one after another.
use Rattle.std.proofs.Common.{◌≡◌, ℕ, zero, suc, ◌<◌, ◌≤◌, List, [], ◌∷◌, length, Some, None, IfSome, refl, sym, ap, ◌∙◌, arith}
use Rattle.std.proofs.lemmas.Grind.{common_steps}
use Rattle.std.specs.Option.{option_map_or}
use Rattle.input.specs.Texts.{split_text, first_texts, texts_in}

-- a text and its length take a byte or more
shorter : (bytes : List ℕ) → IfSome (split_text bytes) (λ r. length r.1 < length bytes)
shorter bytes = grind (arith, common_steps)

-- functions that are the same of shorter bytes are the same of what follows a text
same_behind : (f g : List ℕ → List (List ℕ)) (bytes : List ℕ) → ((rest : List ℕ) → length rest < length bytes → f rest ≡ g rest) → option_map_or (λ r. r.0 ∷ f r.1) (split_text bytes) [] ≡ option_map_or (λ r. r.0 ∷ g r.1) (split_text bytes) []
same_behind f g bytes same =
    elim (split_text bytes) as (λ o. IfSome o (λ r. length r.1 < length bytes) → option_map_or (λ r. r.0 ∷ f r.1) o [] ≡ option_map_or (λ r. r.0 ∷ g r.1) o []) [
      | None ↦ λ _. refl
      | Some r ↦ λ less. ap (λ ts. r.0 ∷ ts) (same r.1 less)
    ] (shorter bytes)

-- no text stands in no bytes
none_in_none : (n : ℕ) → first_texts n [] ≡ []
none_in_none zero = refl
none_in_none (suc n) = refl

-- as many texts as bytes are enough
enough : (n m : ℕ) (bytes : List ℕ) → length bytes ≤ n → length bytes ≤ m → first_texts n bytes ≡ first_texts m bytes
enough n m [] few also = none_in_none n ∙ sym (none_in_none m)
enough zero m (b ∷ bs) few also = absurd (omega arith)
enough (suc n) zero (b ∷ bs) few also = absurd (omega arith)
enough (suc n) (suc m) (b ∷ bs) few also =
    same_behind (first_texts n) (first_texts m) (b ∷ bs) (λ rest less. enough n m rest (omega arith) (omega arith))

-- the text in front, and then those in what follows
pub in_turn : (bytes : List ℕ) → texts_in bytes ≡ option_map_or (λ r. r.0 ∷ texts_in r.1) (split_text bytes) []
in_turn [] = refl
in_turn (b ∷ bs) =
    same_behind (first_texts (length bs)) texts_in (b ∷ bs) (λ rest less. enough (length bs) (length rest) rest (omega arith) (omega arith))

-- A check of each item in turn, by a search for the first item that is not good.
use Rattle.std.proofs.Common.{◌≡◌, ℕ, suc, ◌+◌, ◌<◌, ◌≤◌, Bool, true, false, cond, not, List, [], ◌∷◌, length, get_or, Ok, Err, Result, refl, ap, ◌∙◌, arith}
use Rattle.std.specs.List.{position_or_len}
use Rattle.words.specs.Outcomes.{and_then, in_turn}

module _ {X E : Type 0} (good : X → Bool) (fault : ℕ → X → E) where
  abbrev judged : Bool → ℕ → X → Result (Unit {0}) E
  judged t i x = cond t (Ok tt) (Err (fault i x))

  abbrev judge : ℕ → X → Result (Unit {0}) E
  judge i x = judged (good x) i x

  -- how many good items stand before it
  abbrev before : List X → ℕ
  before xs = position_or_len (λ x. not (good x)) xs

  refused_at : (t : Bool) (i : ℕ) (x : X) (xs : List X) (d : X) → (before xs < length xs → in_turn judge (i + 1) xs ≡ Err (fault (i + 1 + before xs) (get_or xs (before xs) d))) → cond (not (not t)) (1 + before xs) 0 < length (x ∷ xs) → and_then (judged t i x) (λ _. in_turn judge (i + 1) xs) ≡ Err (fault (i + cond (not (not t)) (1 + before xs) 0) (get_or (x ∷ xs) (cond (not (not t)) (1 + before xs) 0) d))
  refused_at false i x xs d rest some =
      let here : i ≡ i + 0 = omega arith in
      ap (λ k. Err (fault k x)) here
  refused_at true i x xs d rest some =
      let place : i + 1 + before xs ≡ i + (1 + before xs) = omega arith in
      let one : suc (before xs) ≡ 1 + before xs = omega arith in
      rest (omega arith)
      ∙ ap (λ k. Err (fault k (get_or xs (before xs) d))) place
      ∙ ap (λ k. Err (fault (i + (1 + before xs)) (get_or (x ∷ xs) k d))) one

  pub first_refused : (i : ℕ) (xs : List X) (d : X) → before xs < length xs → in_turn judge i xs ≡ Err (fault (i + before xs) (get_or xs (before xs) d))
  first_refused i [] d some = absurd (omega arith)
  first_refused i (x ∷ xs) d some = refused_at (good x) i x xs d (first_refused (i + 1) xs d) some

  passed_at : (t : Bool) (i : ℕ) (x : X) (xs : List X) → (length xs ≤ before xs → in_turn judge (i + 1) xs ≡ Ok tt) → length (x ∷ xs) ≤ cond (not (not t)) (1 + before xs) 0 → and_then (judged t i x) (λ _. in_turn judge (i + 1) xs) ≡ Ok tt
  passed_at false i x xs rest all = absurd (omega arith)
  passed_at true i x xs rest all = rest (omega arith)

  pub all_passed : (i : ℕ) (xs : List X) → length xs ≤ before xs → in_turn judge i xs ≡ Ok tt
  all_passed i [] all = refl
  all_passed i (x ∷ xs) all = passed_at (good x) i x xs (all_passed (i + 1) xs) all

-- The list test, and the pigeonhole principle.
use Rattle.std.proofs.Common.{◌≡◌, ℕ, zero, suc, ◌<◌, ◌≤◌, true, false, cond, eqb, List, [], ◌∷◌, length, refl, ⊎_elim, arith}
use Rattle.std.proofs.lemmas.Bool.{or_cases, or_parts, eqb-true, eqb-false, both_ways}
use Rattle.std.proofs.lemmas.Bool.Decides.{nat_tests}
use Rattle.walk.specs.declared.records.Found.{Found}
use Rattle.walk.specs.Search.{listed, state_at}

pub listed_place : (found : List Found) (s : ℕ) → listed found s ≡ true → (i : ℕ) × (i < length found) × (state_at found i ≡ s)
listed_place [] s e = absurd (both_ways false refl e)
listed_place (x ∷ xs) s e =
    ⊎_elim (λ h. (0, omega arith, eqb-true x.state s h))
    (λ h. let r = listed_place xs s h in (suc r.0, omega (arith, r.1), r.2))
    (or_cases (eqb x.state s) (listed xs s) e)

pub not_listed : (found : List Found) (s : ℕ) → listed found s ≡ false → (i : ℕ) → i < length found → state_at found i ≡ s → ⊥
not_listed [] s e i h w = omega arith
not_listed (x ∷ xs) s e zero h w = eqb-false x.state s (or_parts (eqb x.state s) (listed xs s) e).0 w
not_listed (x ∷ xs) s e (suc i) h w = not_listed xs s (or_parts (eqb x.state s) (listed xs s) e).1 i (omega arith) w

-- f without the value n, which the place l takes over
abbrev swapped : (ℕ → ℕ) → ℕ → ℕ → ℕ → ℕ
swapped f n l i = cond (eqb (f i) n) (f l) (f i)

-- so many numbers below n, no two the same, are at most n
pub pigeonhole : (n l : ℕ) (f : ℕ → ℕ) → ((i : ℕ) → i < l → f i < n) → ((i j : ℕ) → i < l → j < l → f i ≡ f j → i ≡ j) → l ≤ n
pigeonhole zero zero f below apart = omega arith
pigeonhole zero (suc l) f below apart = let h : f 0 < 0 = below 0 (omega arith) in omega arith
pigeonhole (suc n) zero f below apart = omega arith
pigeonhole (suc n) (suc l) f below apart =
    let r : l ≤ n = pigeonhole n l (swapped f n l) below' apart' in omega arith
  where
    below' : (i : ℕ) → i < l → swapped f n l i < n
    below' i h =
        let a : f i < suc n = below i (omega arith) in
        let b : f l < suc n = below l (omega arith) in
        let d : f i ≡ f l → i ≡ l = apart i l (omega arith) (omega arith) in
        grind (arith, nat_tests)

    apart' : (i j : ℕ) → i < l → j < l → swapped f n l i ≡ swapped f n l j → i ≡ j
    apart' i j h k e =
        let a : f i ≡ f j → i ≡ j = apart i j (omega arith) (omega arith) in
        let b : f i ≡ f l → i ≡ l = apart i l (omega arith) (omega arith) in
        let d : f j ≡ f l → j ≡ l = apart j l (omega arith) (omega arith) in
        grind (arith, nat_tests)

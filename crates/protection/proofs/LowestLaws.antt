-- What `lowest` finds, and that `find` finds it.
use Rattle.std.proofs.Common.{◌≡◌, ℕ, zero, suc, ◌<◌, ◌≤◌, Bool, true, false, cond, Some, None, Option, sym, refl, ap, ◌∙◌, ⊎_elim, arith}
use Rattle.std.specs.Option.{MatchOption}
use Rattle.std.proofs.lemmas.Bool.{cases_eq}
use Rattle.protection.specs.Lowest.{lowest}

none_below : (test : ℕ → Bool) (n : ℕ) → ((k : ℕ) → k < n → test k ≡ false) → lowest test n ≡ None
none_below test zero none = refl
none_below test (suc n) none =
    let before = none_below test n (λ k l. none k (omega arith)) in
    let here = none n (omega arith) in
    simp (before, here)

-- what was found stays found
lowest_stays : (test : ℕ → Bool) (i n : ℕ) → lowest test (suc i) ≡ Some i → i < n → lowest test n ≡ Some i
lowest_stays test i zero found lt = absurd (omega arith)
lowest_stays test i (suc n) found lt =
    ⊎_elim (λ (e : n ≡ i). ap (λ (m : ℕ). lowest test (suc m)) e ∙ found)
    (λ ne. let low : i < n = omega (arith, ne) in let before = lowest_stays test i n found low in simp before)
    (cases_eq n i)

-- what `find` over the numbers below a bound answers is the lowest of them that passes
pub lowest_of : (test : ℕ → Bool) (n : ℕ) (r : Option ℕ)
    → MatchOption r ((k : ℕ) → 0 ≤ k → k < n → test k ≡ false) (λ i. (0 ≤ i) × (i < n) × (test i ≡ true) × ((k : ℕ) → 0 ≤ k → k < i → test k ≡ false))
    → r ≡ lowest test n
lowest_of test n None none = sym (none_below test n (λ k l. none k (omega arith) l))
lowest_of test n (Some i) first =
    let none = none_below test i (λ k l. first.3 k (omega arith) l) in
    sym (lowest_stays test i n (simp (none, first.2)) first.1)

-- the last number did not pass, nor did any before
lowest_split : (test : ℕ → Bool) (n : ℕ) → lowest test (suc n) ≡ None → (lowest test n ≡ None) × (test n ≡ false)
lowest_split test n none = go (lowest test n) (test n) refl refl none
  where
    go : (o : Option ℕ) (b : Bool) → lowest test n ≡ o → test n ≡ b
        → elim o as (λ _. Option ℕ) [ Some i ↦ Some i | None ↦ cond b (Some n) None ] ≡ None → (lowest test n ≡ None) × (test n ≡ false)
    go (Some i) b e f bad = let z : ◌≡◌ {A = ℕ} 0 1 = cc in absurd (omega arith)
    go None true e f bad = let z : ◌≡◌ {A = ℕ} 0 1 = cc in absurd (omega arith)
    go None false e f ok = (e, f)

-- none passes below the bound
pub lowest_none : (test : ℕ → Bool) (n k : ℕ) → lowest test n ≡ None → k < n → test k ≡ false
lowest_none test zero k none lt = absurd (omega arith)
lowest_none test (suc n) k none lt =
    let parts = lowest_split test n none in
    ⊎_elim (λ (q : k ≡ n). rw q parts.1)
    (λ ne. let low : k < n = omega (arith, ne) in lowest_none test n k parts.0 low)
    (cases_eq k n)

-- a number below the bound passes, and none below it does
pub record Lowest (test : ℕ → Bool) (n i : ℕ) : Type 0 where
  pub below : i < n
  pub passes : test i ≡ true
  pub least : (k : ℕ) → k < i → test k ≡ false

-- what is found is such a number
pub lowest_first : (test : ℕ → Bool) (n i : ℕ) → lowest test n ≡ Some i → Lowest test n i
lowest_first test zero i found = let z : ◌≡◌ {A = ℕ} 0 1 = cc in absurd (omega arith)
lowest_first test (suc n) i found = go (lowest test n) (test n) refl refl found (λ e. lowest_first test n i e)
  where
    go : (o : Option ℕ) (b : Bool) → lowest test n ≡ o → test n ≡ b
        → elim o as (λ _. Option ℕ) [ Some j ↦ Some j | None ↦ cond b (Some n) None ] ≡ Some i
        → (lowest test n ≡ Some i → Lowest test n i) → Lowest test (suc n) i
    go (Some j) b e f same before =
        let r = before (e ∙ same) in
        record { below = omega (arith, r.below); passes = r.passes; least = r.least }
    go None true e f same before =
        let q : i ≡ n = cc in
        record { below = omega (arith, q); passes = rw q f; least = λ k low. lowest_none test n k e (omega (arith, low, q)) }
    go None false e f bad before = let z : ◌≡◌ {A = ℕ} 0 1 = cc in absurd (omega arith)

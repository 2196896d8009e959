-- What a chain of checks tells, by its outcome.
use Rattle.std.proofs.Common.{◌≡◌, ℕ, zero, suc, ◌+◌, ◌<◌, ◌≤◌, Bool, true, false, cond, List, [], ◌∷◌, length, get_or, Ok, Err, Result, sym, refl, ap, ◌∙◌, ⊎_elim, add-zero, zero-add, arith}
use Rattle.std.proofs.lemmas.Bool.{cases_lt}
use Rattle.words.specs.Outcomes.{and_then, in_turn}

pub ok_err : {A E : Type 0} (x : A) (e : E) → Ok x ≡ Err e → ⊥
ok_err x e h = let z : ◌≡◌ {A = ℕ} 0 1 = cc in omega arith

pub both : {A E : Type 0} (r : Result A E) (x : A) (e : E) → r ≡ Ok x → r ≡ Err e → ⊥
both r x e good bad = ok_err x e (sym good ∙ bad)

module _ {E : Type 0} where
  -- a test that passes on true, and one that passes on false
  abbrev asked : Bool → E → Result (Unit {0}) E
  asked b x = cond b (Ok tt) (Err x)

  abbrev barred : Bool → E → Result (Unit {0}) E
  barred b x = cond b (Err x) (Ok tt)

  module _ (x e : E) where
    pub cond_refused : (b : Bool) → asked b x ≡ Err e → (b ≡ false) × (e ≡ x)
    cond_refused true h = absurd (ok_err tt e h)
    cond_refused false h = (refl, cc)

    pub cond_refuses : (b : Bool) → b ≡ false → e ≡ x → asked b x ≡ Err e
    cond_refuses b is same = ap (λ t. asked t x) is ∙ ap Err (sym same)

    pub cond_stopped : (b : Bool) → barred b x ≡ Err e → (b ≡ true) × (e ≡ x)
    cond_stopped true h = (refl, cc)
    cond_stopped false h = absurd (ok_err tt e h)

    pub cond_stops : (b : Bool) → b ≡ true → e ≡ x → barred b x ≡ Err e
    cond_stops b is same = ap (λ t. barred t x) is ∙ ap Err (sym same)

module _ {X E : Type 0} (check : ℕ → X → Result (Unit {0}) E) (d : X) where
  -- the first item that is refused, by its index, where the items are numbered from i
  Stop : ℕ → List X → E → Type 0
  Stop i xs e = (j : ℕ) × ((j < length xs) × (check (i + j) (get_or xs j d) ≡ Err e) × ((k : ℕ) → k < j → check (i + k) (get_or xs k d) ≡ Ok tt))

  stop_later : (i : ℕ) (x : X) (xs : List X) (e : E) → check i x ≡ Ok tt → Stop (i + 1) xs e → Stop i (x ∷ xs) e
  unfolding Stop
  stop_later i x xs e passed (j, (h, refused, before)) =
      let at : i + suc j ≡ i + 1 + j = omega arith in (
        suc j,
        (
          omega arith,
          ap (λ n. check n (get_or xs j d)) at ∙ refused,
          earlier,
        ),
      )
    where
      earlier : (k : ℕ) → k < suc j → check (i + k) (get_or (x ∷ xs) k d) ≡ Ok tt
      earlier zero h = ap (λ n. check n x) (add-zero i) ∙ passed
      earlier (suc k) h = let at : i + suc k ≡ i + 1 + k = omega arith in ap (λ n. check n (get_or xs k d)) at ∙ before k (omega arith)

  stop_here : (i : ℕ) (x : X) (xs : List X) (e : E) → (in_turn check (i + 1) xs ≡ Err e → Stop (i + 1) xs e) → (r : Result (Unit {0}) E) → check i x ≡ r → and_then r (λ _. in_turn check (i + 1) xs) ≡ Err e → Stop i (x ∷ xs) e
  unfolding Stop
  stop_here i x xs e later (Ok tt) passed h = stop_later i x xs e passed (later h)
  stop_here i x xs e later (Err f) refused h =
      (0, (omega arith, ap (λ n. check n x) (add-zero i) ∙ refused ∙ h, λ k less. absurd (omega arith)))

  stopped : (i : ℕ) (xs : List X) (e : E) → in_turn check i xs ≡ Err e → Stop i xs e
  unfolding Stop
  stopped i [] e h = absurd (ok_err tt e h)
  stopped i (x ∷ xs) e h = stop_here i x xs e (stopped (i + 1) xs e) (check i x) refl h

  passed_first : (r : Result (Unit {0}) E) (s : Result (Unit {0}) E) → and_then r (λ _. s) ≡ Ok tt → (r ≡ Ok tt) × (s ≡ Ok tt)
  passed_first (Ok tt) s h = (refl, h)
  passed_first (Err e) s h = absurd (ok_err tt e (sym h))

  passed : (i : ℕ) (xs : List X) → in_turn check i xs ≡ Ok tt → (j : ℕ) → j < length xs → check (i + j) (get_or xs j d) ≡ Ok tt
  passed i [] h j less = absurd (omega arith)
  passed i (x ∷ xs) h zero less = ap (λ n. check n x) (add-zero i) ∙ (passed_first (check i x) _ h).0
  passed i (x ∷ xs) h (suc j) less =
      let at : i + suc j ≡ i + 1 + j = omega arith in
      ap (λ n. check n (get_or xs j d)) at ∙ passed (i + 1) xs (passed_first (check i x) _ h).1 j (omega arith)

  -- a row of the table, whose condition is that the check of the item at an index refuses
  module _ (xs : List X) (Condition : ℕ → Type 0)
      (refuses : (i : ℕ) → Condition i → (i < length xs) × ((e : E) × (check i (get_or xs i d) ≡ Err e))) where
    pub row_clear : in_turn check 0 xs ≡ Ok tt → (i : ℕ) → ¬ (Condition i)
    row_clear h i a =
        let at = refuses i a in
        both (check i (get_or xs i d)) tt at.1.0 (ap (λ n. check n (get_or xs i d)) (sym (zero-add i)) ∙ passed 0 xs h i at.0) at.1.1

    -- the first refusal is told of the leftmost index
    pub row_first : (Told : ℕ → E → Type 0) → ((i : ℕ) (e : E) → i < length xs → check i (get_or xs i d) ≡ Err e → Told i e)
        → (e : E) → in_turn check 0 xs ≡ Err e → (i : ℕ) × (Told i e × ((j : ℕ) → Condition j → i ≤ j))
    unfolding Stop
    row_first Told tells e h =
        let s = stopped 0 xs e h in
        let i = s.0 in (
          i,
          (
            tells i e s.1.0 (ap (λ n. check n (get_or xs i d)) (sym (zero-add i)) ∙ s.1.1),
            λ j a. ⊎_elim
                (λ (less : j < i).
                let at = refuses j a in
                absurd (both (check j (get_or xs j d)) tt at.1.0 (ap (λ n. check n (get_or xs j d)) (sym (zero-add j)) ∙ s.1.2 j less) at.1.1))
                (λ (more : i ≤ j). more)
                (cases_lt j i),
          ),
        )

-- Marks tell which states are listed, and one more entry changes one mark.
use Rattle.std.proofs.Common.{◌≡◌, ℕ, zero, suc, ◌+◌, ◌<◌, true, false, cond, eqb, ◌⊎◌, List, [], ◌∷◌, ◌++◌, length, set, slice_index, sym, refl, ap, ◌∙◌, inl, inr, ⊎_elim, arith}
use Rattle.std.proofs.lemmas.Bool.{cond-true, cond-false, eq-eqb, eqb-true, ne_eqb, or_parts, or_from, cases_Bool, cases_eq}
use Rattle.std.proofs.lemmas.List.{length-set, get_or-set_same, get_or-set_other, get_or_append_left}
use Rattle.std.proofs.lemmas.List.FromFn.{get_or-map-range_with_len, length-map-range_with_len}
use Rattle.walk.specs.declared.records.Found.{Found}
use Rattle.walk.specs.Search.{entry, state_at, listed}
use Rattle.walk.specs.Results.{mark_from, mark, marks_of}
use Rattle.walk.specs.Written.{MarksTell}
use Rattle.walk.specs.Tables.{Marked}
use Rattle.walk.proofs.Basics.{not_listed}

mark_from_zero : (k : ℕ) (found : List Found) (s : ℕ) → mark_from k found s ≡ 0 → listed found s ≡ false
mark_from_zero k [] s e = refl
mark_from_zero k (x ∷ xs) s e =
    ⊎_elim
    (λ h. absurd (omega (arith, sym (cond-true (eqb x.state s) (k + 1) (mark_from (k + 1) xs s) h) ∙ e)))
    (λ h. or_from (eqb x.state s) (listed xs s) h
    (mark_from_zero (k + 1) xs s (sym (cond-false (eqb x.state s) (k + 1) (mark_from (k + 1) xs s) h) ∙ e)))
    (cases_Bool (eqb x.state s))

mark_from_unlisted : (k : ℕ) (found : List Found) (s : ℕ) → listed found s ≡ false → mark_from k found s ≡ 0
mark_from_unlisted k [] s e = refl
mark_from_unlisted k (x ∷ xs) s e =
    let h = or_parts (eqb x.state s) (listed xs s) e in
    cond-false (eqb x.state s) (k + 1) (mark_from (k + 1) xs s) h.0 ∙ mark_from_unlisted (k + 1) xs s h.1

module _ (marks : List ℕ) (found : List Found) (s : ℕ) (all : Marked marks found) (below : s < length marks) where
  -- no mark: not listed
  pub is_new : slice_index marks s ≡ 0 → listed found s ≡ false
  is_new e = mark_from_zero 0 found s (sym (all s below) ∙ e)

  -- a mark: listed
  pub is_listed : (slice_index marks s ≡ 0 → ⊥) → listed found s ≡ true
  is_listed h = ⊎_elim (λ t. t) (λ f. absurd (h (all s below ∙ mark_from_unlisted 0 found s f))) (cases_Bool (listed found s))

mark_from_new : (k : ℕ) (found : List Found) (t p m : ℕ) → listed found t ≡ false → mark_from k (found ++ (entry t p m ∷ [])) t ≡ k + length found + 1
mark_from_new k [] t p m e = omega (arith, cond-true (eqb t t) (k + 1) 0 (eq-eqb t t refl))
mark_from_new k (x ∷ xs) t p m e =
    let h = or_parts (eqb x.state t) (listed xs t) e in
    omega (arith, cond-false (eqb x.state t) (k + 1) (mark_from (k + 1) (xs ++ (entry t p m ∷ [])) t) h.0, mark_from_new (k + 1) xs t p m h.1)

mark_from_old : (k : ℕ) (found : List Found) (t p m s : ℕ) → (t ≡ s → ⊥) → mark_from k (found ++ (entry t p m ∷ [])) s ≡ mark_from k found s
mark_from_old k [] t p m s h = cond-false (eqb t s) (k + 1) 0 (ne_eqb t s h)
mark_from_old k (x ∷ xs) t p m s h = ap (λ (n : ℕ). cond (eqb x.state s) (k + 1) n) (mark_from_old (k + 1) xs t p m s h)

-- a state more is listed and marked
pub marked_more : (marks : List ℕ) (found : List Found) (t p m : ℕ) → Marked marks found → listed found t ≡ false
    → Marked (set marks t (length found + 1)) (found ++ (entry t p m ∷ []))
marked_more marks found t p m old new s h =
    let l : s < length marks = omega (arith, length-set marks t (length found + 1)) in
    ⊎_elim
    (λ e. rw (← e) (get_or-set_same marks t (length found + 1) 0 (omega arith) ∙ omega (arith, mark_from_new 0 found t p m new)))
    (λ (n : t ≡ s → ⊥).
    get_or-set_other marks t s (length found + 1) 0 (λ e. n (sym e)) ∙ (old s l ∙ sym (mark_from_old 0 found t p m s n)))
    (cases_eq t s)

-- a mark that is not 0 tells where the state is listed
mark_from_some : (k : ℕ) (found : List Found) (s n : ℕ) → mark_from k found s ≡ n + 1
    → (i : ℕ) × (i < length found) × (k + i ≡ n) × (state_at found i ≡ s)
mark_from_some k [] s n e = absurd (omega (arith, e))
mark_from_some k (x ∷ xs) s n e =
    ⊎_elim
    (λ h. (0, omega arith, omega (arith, sym (cond-true (eqb x.state s) (k + 1) (mark_from (k + 1) xs s) h) ∙ e), eqb-true x.state s h))
    (λ h.
    let r = mark_from_some (k + 1) xs s n (sym (cond-false (eqb x.state s) (k + 1) (mark_from (k + 1) xs s) h) ∙ e) in
    (suc r.0, omega (arith, r.1), omega (arith, r.2), r.3))
    (cases_Bool (eqb x.state s))

mark_cases : (n : ℕ) → (n ≡ 0) ⊎ ((k : ℕ) × (n ≡ k + 1))
mark_cases zero = inl refl
mark_cases (suc n) = inr (n, omega arith)

-- where each state stands once, the marks of a list tell its indexes
pub marks_tell : (states : ℕ) (found : List Found) (rest : List ℕ)
    → ((i j : ℕ) → i < length found → j < length found → state_at found i ≡ state_at found j → i ≡ j)
    → MarksTell states found (marks_of states found ++ rest)
marks_tell states found rest once = record {
  listed = λ s i below here. (
    λ e.
        let r = mark_from_some 0 found s i (sym (at_state s below) ∙ e) in
        let same : r.0 ≡ i = omega (arith, r.2) in
        ap (state_at found) (sym same) ∙ r.3,
    λ w. at_state s below ∙ ⊎_elim
        (λ zero'. absurd (not_listed found s (mark_from_zero 0 found s zero') i here w))
        (λ more.
        let r = mark_from_some 0 found s more.0 more.1 in
        omega (arith, more.1, r.2, once r.0 i r.1 here (r.3 ∙ sym w)))
        (mark_cases (mark found s)),
  );
  unlisted = λ s below. (
    λ e. not_listed found s (mark_from_zero 0 found s (sym (at_state s below) ∙ e)),
    λ none. at_state s below ∙ ⊎_elim
        (λ zero'. zero')
        (λ more. (let r = mark_from_some 0 found s more.0 more.1 in absurd (none r.0 r.1 r.3)))
        (mark_cases (mark found s)),
  );
}
  where
    at_state : (s : ℕ) → s < states → slice_index (marks_of states found ++ rest) s ≡ mark found s
    at_state s below =
        get_or_append_left (marks_of states found) rest 0 s (omega (arith, length-map-range_with_len (mark found) 0 states))
        ∙ get_or-map-range_with_len (mark found) 0 states s s 0 below (omega arith)

-- The moves recorded along the parents are made on a way of indexes from the first entry.
use Rattle.std.proofs.Common.{◌≡◌, ℕ, zero, suc, ◌+◌, ◌<◌, ◌≤◌, ltb, cond, ◌⊎◌, List, [], ◌∷◌, ◌++◌, length, refl, sym, ap, ◌∙◌, inl, inr, ⊎_elim, arith}
use Rattle.std.proofs.lemmas.Bool.{cond-true, cond-false, lt-ltb, le-ltb, cases_lt}
use Rattle.std.proofs.lemmas.List.{length_push, get_or_push, get_or_append_left}
use Rattle.walk.specs.declared.records.Found.{Found}
use Rattle.walk.specs.Search.{parent_at, move_at, path, moves_to}
use Rattle.walk.specs.Visited.{Way}
use Rattle.walk.specs.Kept.{Rooted}
use Rattle.walk.proofs.Paths.{parent_before}

module _ (found : List Found) where
  way_start : Way found 0 []
  way_start = record {
    at = λ _. 0;
    begins = refl;
    ends = refl;
    rises = λ j h. absurd (omega arith);
    by_parents = λ j h. absurd (omega arith);
    by_moves = λ j h. absurd (omega arith);
  }

  -- one move more, from the parent
  way_more : (p : ℕ) (ms : List ℕ) → parent_at found p < p → Way found (parent_at found p) ms → Way found p (ms ++ (move_at found p ∷ []))
  way_more p ms up way = record {
    at = at';
    begins = low 0 (omega arith) ∙ way.begins;
    ends = high (length ms') (omega (arith, long));
    rises = λ j h. ⊎_elim
        (λ l. omega (arith, low j (omega arith), low (j + 1) (omega arith), way.rises j l))
        (λ e. omega (arith, low j (omega arith), high (j + 1) (omega arith), end j e))
        (cases j h);
    by_parents = λ j h. ⊎_elim
        (λ l. low j (omega arith) ∙ (way.by_parents j l ∙ sym (ap (parent_at found) (low (j + 1) (omega arith)))))
        (λ e. low j (omega arith) ∙ (end j e ∙ sym (ap (parent_at found) (high (j + 1) (omega arith)))))
        (cases j h);
    by_moves = λ j h. ⊎_elim
        (λ l. get_or_append_left ms (move_at found p ∷ []) 0 j l ∙ (way.by_moves j l ∙ sym (ap (move_at found) (low (j + 1) (omega arith)))))
        (λ e. get_or_push ms (move_at found p) 0 j (sym e) ∙ sym (ap (move_at found) (high (j + 1) (omega arith))))
        (cases j h);
  }
    where
      ms' : List ℕ
      ms' = ms ++ (move_at found p ∷ [])

      long : length (ms ++ (move_at found p ∷ [])) ≡ length ms + 1
      long = length_push ms (move_at found p)

      at' : ℕ → ℕ
      at' j = cond (ltb (length ms) j) p (way.at j)

      low : (j : ℕ) → j ≤ length ms → cond (ltb (length ms) j) p (way.at j) ≡ way.at j
      low j h = cond-false (ltb (length ms) j) p (way.at j) (le-ltb (length ms) j h)

      high : (j : ℕ) → length ms < j → cond (ltb (length ms) j) p (way.at j) ≡ p
      high j h = cond-true (ltb (length ms) j) p (way.at j) (lt-ltb (length ms) j h)

      end : (j : ℕ) → j ≡ length ms → way.at j ≡ parent_at found p
      end j e = ap way.at e ∙ way.ends

      cases : (j : ℕ) → j < length (ms ++ (move_at found p ∷ [])) → (j < length ms) ⊎ (j ≡ length ms)
      cases j h = ⊎_elim (λ l. inl l) (λ l. inr (omega (arith, long))) (cases_lt j (length ms))

  way_by : Rooted found → (most p : ℕ) → p ≤ most → p < length found → Way found p (path most found p)
  way_by rooted zero zero hm h = way_start
  way_by rooted (suc most) zero hm h = way_start
  way_by rooted zero (suc p) hm h = absurd (omega arith)
  way_by rooted (suc most) (suc p) hm h =
      let w : parent_at found (suc p) ≤ p = parent_before found rooted p h in
      way_more (suc p) (path most found (parent_at found (suc p))) (omega arith)
      (way_by rooted most (parent_at found (suc p)) (omega arith) (omega arith))

  pub way_to : Rooted found → (p : ℕ) → p < length found → Way found p (moves_to found p)
  way_to rooted p h = way_by rooted p p (omega arith) h

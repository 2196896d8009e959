-- The computed answer of `fill` is the one that the table of refusals gives, and the only one.
use Rattle.std.proofs.Common.{◌≡◌, ℕ, ◌<◌, ◌≤◌, Bool, true, false, cond, ltb, leb, ◌⊎◌, List, [], ◌∷◌, length, Some, None, Ok, Err, Option, Result, slice_index, sym, refl, ap, ◌∙◌, subst, inl, inr, ⊎_elim, arith}
use Rattle.std.proofs.lemmas.Bool.{both_ways, cases_order, not-false, not-true, ltb-true, ltb-false, leb-true, leb-false, le-leb, eq-eqb}
use Rattle.std.specs.Option.{option_map, option_or}
use Rattle.protection.specs.Lowest.{lowest}
use Rattle.protection.specs.Refusals.{Refused, refused}
use Rattle.protection.proofs.LowestLaws.{lowest_none, lowest_first}
use Rattle.protection.proofs.Within.{within_numbers}
use Rattle.systems.specs.declared.numbers.Numbers.{Numbers}
use Rattle.systems.specs.Refusals.{refused_at}
use Rattle.systems.specs.Tables.{refusal, fill_answer, counts_out, lengths_out, label_out, entry_out, permission_at}
use Rattle.systems.specs.TableNumbers.{table_of}
use Rattle.systems.specs.TableRefusing.{CountBounds, LengthsMatch, LabelFits, Applies, counts, lengths, start, label, entry, IsFirst, IsJudged, AnsweredByTheTable}
use Rattle.systems.specs.TableLaws.{count_bounds, lengths_match}

-- the place j, h is before the place k, i
abbrev Earlier : (j h k i : ℕ) → Type 0
Earlier j h k i = (j < k) ⊎ ((j ≡ k) × (h < i))

in_row : (k h i : ℕ) → Earlier k h k i → h < i
in_row k h i b = ⊎_elim (λ (lt : k < k). absurd (omega (arith, lt))) (λ (same : (k ≡ k) × (h < i)). same.1) b

not_later : (j h k i : ℕ) → k < j → ¬ Earlier j h k i
not_later j h k i lt b =
    ⊎_elim (λ (gt : j < k). omega (arith, lt, gt)) (λ (same : (j ≡ k) × (h < i)). omega (arith, lt, same.0)) b

module _ (n : Numbers) where
  -- each test says whether its condition applies
  counts_apply : counts_out n.states n.moves n.objects n.rights ≡ true → ¬ CountBounds n.states n.moves n.objects n.rights
  counts_apply out b =
      let s = le-leb 1 n.states b.nonempty in
      let t = le-leb n.states 1048576 b.most_states in
      let m = le-leb n.moves 4096 b.most_moves in
      let o = le-leb n.objects 255 b.most_objects in
      let r = le-leb n.rights 255 b.most_rights in
      let in_bounds : counts_out n.states n.moves n.objects n.rights ≡ false = simp (s, t, m, o, r) in
      both_ways _ in_bounds out

  lengths_apply : lengths_out n.states n.moves (length n.labels.now) (length n.entries.now) ≡ true
      → ¬ LengthsMatch n.states n.moves (length n.labels.now) (length n.entries.now)
  lengths_apply out b =
      let l = eq-eqb _ _ b.labels_match in
      let e = eq-eqb _ _ b.entries_match in
      let match : lengths_out n.states n.moves (length n.labels.now) (length n.entries.now) ≡ false = simp (l, e) in
      both_ways _ match out

  label_apply : (m : ℕ) → label_out n.objects n.rights n.labels.now m ≡ true → ¬ LabelFits n m
  label_apply m out fits =
      both_ways _ (not-true _ out)
      ((within_numbers n.objects n.rights (permission_at n.labels.now m)).1 (fits.subject_below, fits.object_below, fits.right_below))

  label_fits : (m : ℕ) → label_out n.objects n.rights n.labels.now m ≡ false → LabelFits n m
  label_fits m ok =
      let w = (within_numbers n.objects n.rights (permission_at n.labels.now m)).0 (not-false _ ok) in
      record { subject_below = w.0; object_below = w.1; right_below = w.2 }

  -- nothing applies before the row k and, in it, the value i, where the tests before it were passed
  module _ (k i : ℕ) (alone : k < 43 → i ≡ 0)
      (bounds : 40 < k → CountBounds n.states n.moves n.objects n.rights)
      (match : 41 < k → LengthsMatch n.states n.moves (length n.labels.now) (length n.entries.now))
      (starts : 42 < k → n.start < n.states)
      (fits : (m : ℕ) → m < n.moves → Earlier 43 m k i → LabelFits n m)
      (low : (e : ℕ) → e < length n.entries.now → Earlier 44 e k i → slice_index n.entries.now e ≤ n.states) where
    row_before : (j : ℕ) → j < 43 → Earlier j 0 k i → j < k
    row_before j small b =
        ⊎_elim (λ (lt : j < k). lt)
        (λ (same : (j ≡ k) × (0 < i)). absurd (omega (arith, same.1, alone (omega (arith, small, same.0)))))
        b

    clear : (j : ℕ) (vs : List ℕ) → Applies n j vs → ¬ Earlier j (slice_index vs 0) k i
    clear _ _ (counts out) b = out (bounds (row_before 40 (omega arith) b))
    clear _ _ (lengths out) b = out (match (row_before 41 (omega arith) b))
    clear _ _ (start out) b = omega (arith, out, starts (row_before 42 (omega arith) b))
    clear _ _ (label m lt out) b = out (fits m lt b)
    clear _ _ (entry e lt out) b = omega (arith, out, low e lt b)

  -- a refusal of the table has one of its numbers
  number_few : (j : ℕ) (vs : List ℕ) → Applies n j vs → j < 45
  number_few _ _ (counts out) = omega arith
  number_few _ _ (lengths out) = omega arith
  number_few _ _ (start out) = omega arith
  number_few _ _ (label m lt out) = omega arith
  number_few _ _ (entry e lt out) = omega arith

  judged : (a b c : Bool) (l e : Option ℕ)
      → counts_out n.states n.moves n.objects n.rights ≡ a
      → lengths_out n.states n.moves (length n.labels.now) (length n.entries.now) ≡ b
      → leb n.states n.start ≡ c
      → lowest (label_out n.objects n.rights n.labels.now) n.moves ≡ l
      → lowest (entry_out n.states n.entries.now) (length n.entries.now) ≡ e
      → IsJudged n (elim (cond a (Some (refused 40)) (cond b (Some (refused 41)) (cond c (Some (refused 42)) (option_or (option_map (refused_at 43) l) (option_map (refused_at 44) e)))))
      as (λ _. Result Unit Refused) [ Some r ↦ Err r | None ↦ Ok tt ])
  judged true b c l e ea eb ec el ee = record {
    applies = counts (counts_apply ea);
    none_before = λ q before applies.
        clear 40 0 (λ _. refl) (λ lt. absurd (omega (arith, lt))) (λ lt. absurd (omega (arith, lt))) (λ lt. absurd (omega (arith, lt)))
        (λ m lt b. absurd (not_later 43 m 40 0 (omega arith) b)) (λ i lt b. absurd (not_later 44 i 40 0 (omega arith) b))
        q.number q.values applies before;
  }
  judged false true c l e ea eb ec el ee = record {
    applies = lengths (lengths_apply eb);
    none_before = λ q before applies.
        clear 41 0 (λ _. refl) (λ _. count_bounds _ _ _ _ ea) (λ lt. absurd (omega (arith, lt))) (λ lt. absurd (omega (arith, lt)))
        (λ m lt b. absurd (not_later 43 m 41 0 (omega arith) b)) (λ i lt b. absurd (not_later 44 i 41 0 (omega arith) b))
        q.number q.values applies before;
  }
  judged false false true l e ea eb ec el ee = record {
    applies = start (leb-true _ _ ec);
    none_before = λ q before applies.
        clear 42 0 (λ _. refl) (λ _. count_bounds _ _ _ _ ea) (λ _. lengths_match _ _ _ _ eb) (λ lt. absurd (omega (arith, lt)))
        (λ m lt b. absurd (not_later 43 m 42 0 (omega arith) b)) (λ i lt b. absurd (not_later 44 i 42 0 (omega arith) b))
        q.number q.values applies before;
  }
  judged false false false (Some m) e ea eb ec el ee =
      let f = lowest_first _ _ m el in
      record {
        applies = label m f.below (label_apply m f.passes);
        none_before = λ q before applies.
            clear 43 m (λ lt. absurd (omega (arith, lt))) (λ _. count_bounds _ _ _ _ ea) (λ _. lengths_match _ _ _ _ eb) (λ _. leb-false _ _ ec)
            (λ j lt b. label_fits j (f.least j (in_row 43 j m b))) (λ i lt b. absurd (not_later 44 i 43 m (omega arith) b))
            q.number q.values applies before;
      }
  judged false false false None (Some i) ea eb ec el ee =
      let f = lowest_first _ _ i ee in
      record {
        applies = entry i f.below (ltb-true _ _ f.passes);
        none_before = λ q before applies.
            clear 44 i (λ lt. absurd (omega (arith, lt))) (λ _. count_bounds _ _ _ _ ea) (λ _. lengths_match _ _ _ _ eb) (λ _. leb-false _ _ ec)
            (λ j lt b. label_fits j (lowest_none _ _ j el lt)) (λ j lt b. ltb-false _ _ (f.least j (in_row 44 j i b)))
            q.number q.values applies before;
      }
  judged false false false None None ea eb ec el ee = λ q applies.
      clear 45 0 (λ lt. absurd (omega (arith, lt))) (λ _. count_bounds _ _ _ _ ea) (λ _. lengths_match _ _ _ _ eb) (λ _. leb-false _ _ ec)
      (λ j lt b. label_fits j (lowest_none _ _ j el lt)) (λ j lt b. ltb-false _ _ (lowest_none _ _ j ee lt))
      q.number q.values applies (inl (number_few q.number q.values applies))

  -- a refusal that applies carries a value from the number 43 on
  carried : (j : ℕ) (vs : List ℕ) → Applies n j vs → vs ≡ cond (ltb j 43) [] (slice_index vs 0 ∷ [])
  carried _ _ (counts out) = refl
  carried _ _ (lengths out) = refl
  carried _ _ (start out) = refl
  carried _ _ (label m lt out) = refl
  carried _ _ (entry e lt out) = refl

  same_refusal : (q r : Refused) → Applies n q.number q.values → Applies n r.number r.values → q.number ≡ r.number
      → slice_index q.values 0 ≡ slice_index r.values 0 → q ≡ r
  same_refusal q r a b en ev =
      let values : q.values ≡ r.values
      = carried q.number q.values a
      ∙ (ap (λ (j : ℕ). cond (ltb j 43) [] (slice_index q.values 0 ∷ [])) en
      ∙ (ap (λ (v : ℕ). cond (ltb r.number 43) [] (v ∷ [])) ev ∙ sym (carried r.number r.values b))) in
      λ i. record { number = en i; values = values i }

  one_first : (q r : Refused) → IsFirst n q → IsFirst n r → q ≡ r
  one_first q r a b =
      ⊎_elim (λ (en : q.number ≡ r.number).
      ⊎_elim (λ (ev : slice_index q.values 0 ≡ slice_index r.values 0). same_refusal q r a.applies b.applies en ev)
      (λ (lt-gt : (slice_index q.values 0 < slice_index r.values 0) ⊎ (slice_index r.values 0 < slice_index q.values 0)).
      ⊎_elim (λ (lt : slice_index q.values 0 < slice_index r.values 0). absurd (b.none_before q (inr (en, lt)) a.applies))
      (λ (gt : slice_index r.values 0 < slice_index q.values 0). absurd (a.none_before r (inr (sym en, gt)) b.applies)) lt-gt)
      (cases_order (slice_index q.values 0) (slice_index r.values 0)))
      (λ (lt-gt : (q.number < r.number) ⊎ (r.number < q.number)).
      ⊎_elim (λ (lt : q.number < r.number). absurd (b.none_before q (inl lt) a.applies))
      (λ (gt : r.number < q.number). absurd (a.none_before r (inl gt) b.applies)) lt-gt)
      (cases_order q.number r.number)

  one_judgement : (answer other : Result Unit Refused) → IsJudged n answer → IsJudged n other → other ≡ answer
  one_judgement (Ok u) (Ok v) a b = refl
  one_judgement (Ok u) (Err r) a b = absurd (a r b.applies)
  one_judgement (Err q) (Ok u) a b = absurd (b q a.applies)
  one_judgement (Err q) (Err r) a b = ap Err (one_first r q b a)

  pub answered : (answer : Result Unit Refused) → answer ≡ fill_answer (table_of n) → AnsweredByTheTable n answer
  unfolding refusal
  answered answer e =
      let j : IsJudged n answer = subst (IsJudged n) (sym e) (judged _ _ _ _ _ refl refl refl refl refl) in
      record { judged = j; alone = λ other o. one_judgement answer other j o }

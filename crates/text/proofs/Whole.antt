-- A whole text is answered as the table of refusals says, and in no other way.
use Rattle.std.proofs.Common.{◌≡◌, ℕ, ◌+◌, ◌≤◌, Bool, true, false, cond, leb, ◌⊎◌, List, [], ◌∷◌, ◌++◌, length, Ok, Err, Result, sym, refl, ap, ◌∙◌, subst, inl, inr, add-zero, arith}
use Rattle.std.proofs.lemmas.Bool.Decides.{nat_tests}
use Rattle.std.proofs.lemmas.Bool.{both_ways, le-leb, lt-leb, leb-true, leb-false}
use Rattle.scheme.specs.Models.{SchemeModel}
use Rattle.scheme.specs.Counts.{state_count}
use Rattle.words.specs.declared.fault.Report.{Report}
use Rattle.words.specs.declared.fault.WordFault.TheVariants.{LongText}
use Rattle.words.specs.Outcomes.{and_then, carried}
use Rattle.words.specs.Positions.{PlainLine}
use Rattle.words.specs.Cuts.{text_lines}
use Rattle.lines.specs.declared.fault.LineFault.TheVariants.{OfWords}
use Rattle.text.specs.declared.fault.SchemeFault.{SchemeFault}
use Rattle.text.specs.declared.fault.SchemeFault.TheVariants.{OfLine, Missing, States}
use Rattle.text.specs.Faults.{scheme_report}
use Rattle.text.specs.Reading.{Progress, start, read_line, complete, few_states, finished, read_lines, reading}
use Rattle.text.specs.Refusing.{First, Faultless, below_line, Passed, Incomplete, EndFault, TableSays, AsTheTableSays}
use Rattle.text.proofs.Checked.{ok_err}
use Rattle.text.proofs.Firsts.{line_refused, line_passes, line_first, line_faultless}

-- the end of a text

incomplete : (m : SchemeModel) → complete m ≡ false → Incomplete m
incomplete m h = grind (arith, nat_tests)

is_incomplete : (m : SchemeModel) → Incomplete m → complete m ≡ false
is_incomplete m lacks = grind (arith, nat_tests)

pub is_complete : (m : SchemeModel) (b : Bool) → complete m ≡ b → (Incomplete m → ⊥) → complete m ≡ true
is_complete m true h whole = h
is_complete m false h whole = absurd (whole (incomplete m h))

module _ (n : ℕ) (m : SchemeModel) where
  abbrev ended : Bool → Bool → Result SchemeModel SchemeFault
  ended whole few = cond whole (cond few (Ok m) (Err (States (record { line = n; place = 1 })))) (Err (Missing (record { line = n; place = 1 })))

  -- how the end came out
  Ended : Result SchemeModel SchemeFault → Type 0
  Ended (Ok s) = (Incomplete m → ⊥) × (state_count m ≤ 1048576) × (s ≡ m)
  Ended (Err f) = EndFault n m (scheme_report f)

  ended_as : (whole few : Bool) → complete m ≡ whole → few_states m ≡ few → Ended (ended whole few)
  unfolding Ended
  ended_as false few h k = inl (incomplete m h, refl)
  ended_as true false h k = inr (λ i. both_ways (complete m) (is_incomplete m i) h, leb-false (state_count m) 1048576 k, refl)
  ended_as true true h k = (λ i. both_ways (complete m) (is_incomplete m i) h, leb-true (state_count m) 1048576 k, refl)

  ends : Ended (finished n m)
  ends = ended_as (complete m) (few_states m) refl refl

  end_refused : (r : Report) → EndFault n m r → carried scheme_report (finished n m) ≡ Err r
  end_refused r (inl (lacks, same)) = ap (λ b. carried scheme_report (ended b (few_states m))) (is_incomplete m lacks) ∙ ap Err (sym same)
  end_refused r (inr (whole, many, same)) =
      ap (λ b. carried scheme_report (ended b (few_states m))) (is_complete m (complete m) refl whole)
      ∙ ap (λ b. carried scheme_report (ended true b)) (lt-leb (state_count m) 1048576 many)
      ∙ ap Err (sym same)

  end_accepted : (Incomplete m → ⊥) → state_count m ≤ 1048576 → finished n m ≡ Ok m
  end_accepted whole few = ap (λ b. ended b (few_states m)) (is_complete m (complete m) refl whole) ∙ ap (ended true) (le-leb (state_count m) 1048576 few)

-- the lines of a text, from any of them on

pub record RefusedAmong (p : Progress) (ls : List PlainLine) (r : Report) : Type 0 where
  pub before : List PlainLine
  pub line : PlainLine
  pub after : List PlainLine
  pub cut : ls ≡ before ++ line ∷ after
  pub above : Progress
  pub passed : Passed p before above
  pub first : First above line r

Come : ℕ → Progress → List PlainLine → Result SchemeModel SchemeFault → Type 0
Come n p ls (Ok m) = (q : Progress) × (Passed p ls q × ((Incomplete q.scheme → ⊥) × (state_count q.scheme ≤ 1048576) × (m ≡ q.scheme)))
Come n p ls (Err f) = RefusedAmong p ls (scheme_report f) ⊎ ((q : Progress) × (Passed p ls q × EndFault (n + length ls) q.scheme (scheme_report f)))

come_end : (n : ℕ) (p : Progress) (r : Result SchemeModel SchemeFault) → Ended n p.scheme r → Come n p [] r
unfolding Come Ended
come_end n p (Ok m) e = (p, (refl, e))
come_end n p (Err f) e = inr (p, (refl, subst (λ k. EndFault k p.scheme (scheme_report f)) (sym (add-zero n)) e))

come_more : (n : ℕ) (p : Progress) (l : PlainLine) (ls : List PlainLine) (r : Result SchemeModel SchemeFault) → Faultless p l → Come (n + 1) (below_line p l) ls r → Come n p (l ∷ ls) r
unfolding Come
come_more n p l ls (Ok m) none (q, (passed, rest)) = (q, ((none, passed), rest))
come_more n p l ls (Err f) none (inl a) =
    inl (record { before = l ∷ a.before; line = a.line; after = a.after; cut = ap (λ x. l ∷ x) a.cut; above = a.above; passed = (none, a.passed); first = a.first })
come_more n p l ls (Err f) none (inr (q, (passed, e))) =
    let at : n + 1 + length ls ≡ n + length (l ∷ ls) = omega arith in
    inr (q, ((none, passed), subst (λ k. EndFault k q.scheme (scheme_report f)) at e))

come_line : (n : ℕ) (p : Progress) (l : PlainLine) (ls : List PlainLine) → ((q : Progress) → Come (n + 1) q ls (read_lines (n + 1) ls q)) → (r : Result Progress SchemeFault) → read_line p l ≡ r → Come n p (l ∷ ls) (and_then r (read_lines (n + 1) ls))
unfolding Come
come_line n p l ls later (Ok q) h =
    let told = line_faultless p l q h in
    come_more n p l ls (read_lines (n + 1) ls q) told.0 (subst (λ x. Come (n + 1) x ls (read_lines (n + 1) ls q)) told.1 (later q))
come_line n p l ls later (Err f) h =
    inl (record { before = []; line = l; after = ls; cut = refl; above = p; passed = refl; first = line_first p l f h })

come : (n : ℕ) (ls : List PlainLine) (p : Progress) → Come n p ls (read_lines n ls p)
come n [] p = come_end n p (finished n p.scheme) (ends n p.scheme)
come n (l ∷ ls) p = come_line n p l ls (come (n + 1) ls) (read_line p l) refl

-- and back

passes : (n : ℕ) (before rest : List PlainLine) (p q : Progress) → Passed p before q → read_lines n (before ++ rest) p ≡ read_lines (n + length before) rest q
passes n [] rest p q e = ap (λ k. read_lines k rest p) (sym (add-zero n)) ∙ ap (read_lines (n + 0) rest) e
passes n (l ∷ before) rest p q (none, e) =
    let at : n + 1 + length before ≡ n + length (l ∷ before) = omega arith in
    ap (λ r. and_then r (read_lines (n + 1) (before ++ rest))) (line_passes p l none)
    ∙ passes (n + 1) before rest (below_line p l) q e
    ∙ ap (λ k. read_lines k rest q) at

append_none : (ls : List PlainLine) → ls ++ [] ≡ ls
append_none [] = refl
append_none (l ∷ ls) = ap (λ x. l ∷ x) (append_none ls)

all_pass : (n : ℕ) (ls : List PlainLine) (p q : Progress) → Passed p ls q → read_lines n ls p ≡ finished (n + length ls) q.scheme
all_pass n ls p q e = ap (λ x. read_lines n x p) (sym (append_none ls)) ∙ passes n ls [] p q e

-- a step that refuses decides
stops : {A B E F : Type 0} (g : E → F) (r : Result A E) (next : A → Result B E) (x : F) → carried g r ≡ Err x → carried g (and_then r next) ≡ Err x
stops g (Ok a) next x h = absurd (ok_err a x h)
stops g (Err e) next x h = let same : g e ≡ x = cc in ap Err same

module _ (text : List ℕ) where
  abbrev lines : List PlainLine
  lines = text_lines text

  abbrev sized : Bool → Result SchemeModel SchemeFault
  sized b = cond b (read_lines 1 lines start) (Err (OfLine (OfWords LongText)))

  -- the table of what is answered
  abbrev Said : Result SchemeModel SchemeFault → Type 0
  Said r = TableSays text (carried scheme_report r)

  said_short : length text ≤ 65535 → (r : Result SchemeModel SchemeFault) → Come 1 start lines r → Said r
  unfolding Come
  said_short short (Ok m) (q, (passed, rest)) = record { short = short; all = q; passed = passed; complete = rest.0; few = rest.1; scheme = rest.2 }
  said_short short (Err f) (inl a) =
      inr (short, inl (record { before = a.before; line = a.line; after = a.after; cut = a.cut; above = a.above; passed = a.passed; first = a.first }))
  said_short short (Err f) (inr (q, (passed, e))) = inr (short, inr (record { all = q; passed = passed; fault = e }))

  said_sized : (b : Bool) → leb (length text) 65535 ≡ b → Said (sized b)
  said_sized true h = said_short (leb-true (length text) 65535 h) (read_lines 1 lines start) (come 1 lines start)
  said_sized false h = inl (leb-false (length text) 65535 h, refl)

  is_short : length text ≤ 65535 → reading text ≡ read_lines 1 lines start
  is_short h = ap sized (le-leb (length text) 65535 h)

  reads : (r : Result SchemeModel Report) → TableSays text r → carried scheme_report (reading text) ≡ r
  reads (Ok m) a =
      ap (carried scheme_report) (is_short a.short ∙ all_pass 1 lines start a.all a.passed ∙ end_accepted (1 + length lines) a.all.scheme a.complete a.few)
      ∙ ap Ok (sym a.scheme)
  reads (Err r) (inl (long, same)) = ap (λ b. carried scheme_report (sized b)) (lt-leb (length text) 65535 long) ∙ ap Err (sym same)
  reads (Err r) (inr (short, inl a)) =
      ap (carried scheme_report) (is_short short ∙ ap (λ ls. read_lines 1 ls start) a.cut ∙ passes 1 a.before (a.line ∷ a.after) start a.above a.passed)
      ∙ stops scheme_report (read_line a.above a.line) (read_lines (1 + length a.before + 1) a.after) r (line_refused a.above a.line r a.first)
  reads (Err r) (inr (short, inr a)) =
      ap (carried scheme_report) (is_short short ∙ all_pass 1 lines start a.all a.passed)
      ∙ end_refused (1 + length lines) a.all.scheme r a.fault

  pub reading_as_the_table_says : (answer : Result SchemeModel SchemeFault) → answer ≡ reading text → AsTheTableSays text (carried scheme_report answer)
  reading_as_the_table_says answer is = record {
    said = subst Said (sym is) (said_sized (leb (length text) 65535) refl);
    alone = λ other a. sym (reads other a) ∙ ap (carried scheme_report) (sym is);
  }

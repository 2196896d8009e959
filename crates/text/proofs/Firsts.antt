-- A line is refused with what the table reports of it, or has no fault.
use Rattle.std.proofs.Common.{◌≡◌, ℕ, ◌+◌, ◌<◌, ◌≤◌, cond, eqb, List, [], ◌∷◌, length, Some, None, Ok, Err, Option, Result, sym, refl, ap, ◌∙◌, subst, inl, inr, ⊎_elim, arith}
use Rattle.std.proofs.lemmas.Bool.{cases_lt}
use Rattle.scheme.specs.declared.kind.Kind.{Kind}
use Rattle.scheme.specs.Models.{SchemeModel}
use Rattle.words.specs.declared.fault.Report.{Report}
use Rattle.words.specs.declared.fault.WordFault.{WordFault}
use Rattle.words.specs.Faults.{word_report}
use Rattle.words.specs.Outcomes.{and_then, carried}
use Rattle.words.specs.Positions.{PlainLine, PlainWord, word_in}
use Rattle.words.specs.Cuts.{words_of}
use Rattle.words.specs.Plain.{plain_bytes, short_words}
use Rattle.lines.specs.declared.fault.LineFault.{LineFault}
use Rattle.lines.specs.declared.fault.LineFault.TheVariants.{OfWords}
use Rattle.lines.specs.Faults.{line_report}
use Rattle.text.specs.declared.fault.SchemeFault.{SchemeFault}
use Rattle.text.specs.declared.fault.SchemeFault.TheVariants.{OfLine}
use Rattle.text.specs.Faults.{scheme_report}
use Rattle.lines.specs.Kinds.{kind_in}
use Rattle.lines.specs.Lines.{line_kind, right_count, right_forms, formed_kind}
use Rattle.text.specs.Naming.{under_most, right_names}
use Rattle.text.specs.Declaring.{declared}
use Rattle.text.specs.Reading.{Progress, read_kind, read_line}
use Rattle.text.specs.Refusing.{Row, bytes, lengths, kinds, counts, forms, most, used, undefined, ranges, rank, Opens, Applies, reported, First, Faultless, below, first_kind, below_line}
use Rattle.text.proofs.Conditions.{Clear, Leftmost, bytes_clear, bytes_first, lengths_clear, lengths_first, no_words, opens, kinds_clear, kinds_first, counts_clear, counts_first, forms_clear, forms_first, most_clear, most_first}
use Rattle.text.proofs.Misnames.{names_clear, names_first, one_name_row}

-- the rows that have a rank of their own, by it
row_at : ℕ → Row
row_at n = cond (eqb n 0) bytes (cond (eqb n 1) lengths (cond (eqb n 2) kinds (cond (eqb n 3) counts (cond (eqb n 4) forms most))))

row_at_rank : (row : Row) → rank row < 6 → row_at (rank row) ≡ row
unfolding row_at
row_at_rank bytes low = refl
row_at_rank lengths low = refl
row_at_rank kinds low = refl
row_at_rank counts low = refl
row_at_rank forms low = refl
row_at_rank most low = refl
row_at_rank used low = absurd (omega arith)
row_at_rank undefined low = absurd (omega arith)
row_at_rank ranges low = absurd (omega arith)

rank_only : (r s : Row) → rank r < 6 → rank r ≡ rank s → r ≡ s
rank_only r s low e = sym (row_at_rank r low) ∙ ap row_at e ∙ row_at_rank s (omega arith)

rank_below : (row : Row) → rank row < 7
rank_below bytes = omega arith
rank_below lengths = omega arith
rank_below kinds = omega arith
rank_below counts = omega arith
rank_below forms = omega arith
rank_below most = omega arith
rank_below used = omega arith
rank_below undefined = omega arith
rank_below ranges = omega arith

pub first_kind_lem : (ws : List PlainWord) (k : Kind) → 0 < length ws → kind_in (word_in ws 0).bytes ≡ Some k → first_kind ws ≡ Some k
first_kind_lem [] k some is = absurd (omega arith)
first_kind_lem (w ∷ ws) k some is = is

module _ (p : Progress) (l : PlainLine) where
  abbrev ws : List PlainWord
  ws = words_of l

  abbrev n : ℕ
  n = length p.scheme.attributes

  -- the rows of a rank below one apply nowhere
  Upto : ℕ → Type 0
  Upto limit = (row : Row) → rank row < limit → Clear p l row

  upto_none : Upto 0
  unfolding Upto
  upto_none row less = absurd (omega arith)

  upto_more : (limit : ℕ) → Upto limit → ((row : Row) → rank row ≡ limit → Clear p l row) → Upto (limit + 1)
  unfolding Upto
  upto_more limit clear here row less =
      ⊎_elim
      (λ (lower : rank row < limit). clear row lower)
      (λ (same : limit ≤ rank row). here row (omega arith))
      (cases_lt (rank row) limit)

  -- a row with a rank of its own
  past : (row : Row) → rank row < 6 → Upto (rank row) → Clear p l row → Upto (rank row + 1)
  past row low clear here = upto_more (rank row) clear (λ other same. subst (Clear p l) (rank_only row other low (sym same)) here)

  faultless : Upto 7 → Faultless p l
  unfolding Upto
  faultless clear row i a = clear row (rank_below row) i a

  first_of : (row : Row) (i : ℕ) (r : Report) → Upto (rank row) → Applies p l row i → r ≡ reported l row i
      → ((other : Row) (j : ℕ) → rank row ≡ rank other → Applies p l other j → i ≤ j) → First p l r
  unfolding Upto
  first_of row i r clear applies report least = record {
    row = row;
    index = i;
    applies = applies;
    before = λ other j a.
        ⊎_elim
        (λ (lower : rank other < rank row). absurd (clear other lower j a))
        (λ (upper : rank row ≤ rank other).
        ⊎_elim
        (λ (higher : rank row < rank other). inl higher)
        (λ (lower : rank other ≤ rank row). let same : rank row ≡ rank other = omega arith in inr (same, least other j same a))
        (cases_lt (rank row) (rank other)))
        (cases_lt (rank other) (rank row));
    report = report;
  }

  found : (row : Row) → rank row < 6 → Upto (rank row) → (r : Report) → Leftmost p l row r → First p l r
  found row low clear r (i, (told, least)) =
      first_of row i r clear told.0 told.1 (λ other j same a. least j (subst (λ x. Applies p l x j) (sym (rank_only row other low same)) a))

  -- what the reading of the line should show of its outcome
  Outcome : Result Progress SchemeFault → Type 0
  Outcome (Ok q) = Faultless p l × (q ≡ below_line p l)
  Outcome (Err f) = First p l (scheme_report f)

  abbrev after_forms : Result (Option Kind) LineFault → Result Progress SchemeFault
  after_forms r = and_then (carried OfLine r) (read_kind p ws)

  abbrev after_words : Result (Unit {0}) WordFault → Result Progress SchemeFault
  after_words r = after_forms (and_then (carried OfWords r) (λ _. and_then (line_kind p.last ws) (formed_kind n ws)))

  -- a line of a known kind, from its count of words on
  module _ (k : Kind) (opened : Opens l k) where
    abbrev after_names : Result SchemeModel SchemeFault → Result Progress SchemeFault
    after_names r = and_then r (λ m. Ok (record { scheme = m; last = Some k }))

    misnamed : Upto 6 → (f : SchemeFault) → right_names p.scheme k ws ≡ Err f → First p l (scheme_report f)
    misnamed clear f h =
        let left = names_first p l k opened f h in
        let row = left.1.0.0 in
        let is = left.1.0.1.0 in
        first_of row left.0 (scheme_report f) (subst Upto (sym is) clear) left.1.0.1.1.0 left.1.0.1.1.1 (λ other j same a. left.1.1 j (other, (sym same ∙ is, a)))

    at_names : Upto 6 → (r : Result (Unit {0}) SchemeFault) → right_names p.scheme k ws ≡ r → Outcome (after_names (and_then r (λ _. Ok (declared k ws p.scheme))))
    unfolding Outcome
    at_names clear (Err f) h = misnamed clear f h
    at_names clear (Ok tt) h = (
      faultless (upto_more 6 clear (names_clear p l k opened h)),
      ap (below p ws) (sym (first_kind_lem ws k opened.0 opened.1)),
    )

    at_most : Upto 5 → (r : Result (Unit {0}) SchemeFault) → under_most k p.scheme ws ≡ r → Outcome (after_names (and_then r (λ _. and_then (right_names p.scheme k ws) (λ _. Ok (declared k ws p.scheme)))))
    unfolding Outcome
    at_most clear (Err f) h = found most (omega arith) clear (scheme_report f) (most_first p l k opened f h)
    at_most clear (Ok tt) h = at_names (past most (omega arith) clear (most_clear p l k opened h)) (right_names p.scheme k ws) refl

    at_forms : Upto 4 → (r : Result (Unit {0}) LineFault) → right_forms k ws ≡ r → Outcome (after_forms (and_then r (λ _. Ok (Some k))))
    unfolding Outcome
    at_forms clear (Err e) h = found forms (omega arith) clear (line_report e) (forms_first p l k opened e h)
    at_forms clear (Ok tt) h = at_most (past forms (omega arith) clear (forms_clear p l k opened h)) (under_most k p.scheme ws) refl

    at_counts : Upto 3 → (r : Result (Unit {0}) LineFault) → right_count k n ws ≡ r → Outcome (after_forms (and_then (and_then r (λ _. right_forms k ws)) (λ _. Ok (Some k))))
    unfolding Outcome
    at_counts clear (Err e) h = found counts (omega arith) clear (line_report e) (counts_first p l k opened e h)
    at_counts clear (Ok tt) h = at_forms (past counts (omega arith) clear (counts_clear p l k opened h)) (right_forms k ws) refl

  -- a line with no word has no row that speaks of words
  wordless : ws ≡ [] → (row : Row) → 2 ≤ rank row → Clear p l row
  wordless none bytes high i a = absurd (omega arith)
  wordless none lengths high i a = absurd (omega arith)
  wordless none kinds high i a = omega (arith, ap length none, a.1)
  wordless none counts high i a = omega (arith, ap length none, a.1.1.0.0)
  wordless none forms high i a = omega (arith, ap length none, a.1)
  wordless none most high i a = omega (arith, ap length none, a.1.1.0.0)
  wordless none used high i a = omega (arith, ap length none, a.1)
  wordless none undefined high i a = omega (arith, ap length none, a.1)
  wordless none ranges high i a = omega (arith, ap length none, a.1)

  blank : ws ≡ [] → Upto 2 → Faultless p l
  unfolding Upto
  blank none clear row = ⊎_elim (λ (low : rank row < 2). clear row low) (λ (high : 2 ≤ rank row). wordless none row high) (cases_lt (rank row) 2)

  at_kinds : Upto 2 → (r : Result (Option Kind) LineFault) → line_kind p.last ws ≡ r → Outcome (after_forms (and_then r (formed_kind n ws)))
  unfolding Outcome
  at_kinds clear (Err e) h = found kinds (omega arith) clear (line_report e) (kinds_first p l e h)
  at_kinds clear (Ok None) h = let none = no_words p l h in (blank none clear, sym (ap (λ x. below p x (first_kind x)) none))
  at_kinds clear (Ok (Some k)) h =
      let placed = opens p l k h in
      at_counts k placed.0 (past kinds (omega arith) clear (kinds_clear p l k placed.0 placed.1)) (right_count k n ws) refl

  at_lengths : Upto 1 → (r : Result (Unit {0}) WordFault) → short_words l ≡ r → Outcome (after_words r)
  unfolding Outcome
  at_lengths clear (Err e) h = found lengths (omega arith) clear (word_report e) (lengths_first p l e h)
  at_lengths clear (Ok tt) h = at_kinds (past lengths (omega arith) clear (lengths_clear p l h)) (line_kind p.last ws) refl

  at_bytes : (r : Result (Unit {0}) WordFault) → plain_bytes l ≡ r → Outcome (after_words (and_then r (λ _. short_words l)))
  unfolding Outcome
  at_bytes (Err e) h = found bytes (omega arith) upto_none (word_report e) (bytes_first p l e h)
  at_bytes (Ok tt) h = at_lengths (past bytes (omega arith) upto_none (bytes_clear p l h)) (short_words l) refl

  outcome : Outcome (read_line p l)
  outcome = at_bytes (plain_bytes l) refl

  -- two rows of one rank that apply at one index are one
  one_row : (r s : Row) (i : ℕ) → rank r ≡ rank s → Applies p l r i → Applies p l s i → r ≡ s
  one_row r s i same a b =
      ⊎_elim
      (λ (low : rank r < 6). rank_only r s low same)
      (λ (high : 6 ≤ rank r). let below = rank_below r in one_name_row p l i r s (omega arith) (omega arith) a b)
      (cases_lt (rank r) 6)

  same_report : (x y : Report) (a : First p l x) (b : First p l y) → rank a.row ≡ rank b.row → a.index ≡ b.index → x ≡ y
  same_report x y a b ranks indexes =
      let row = one_row a.row b.row b.index ranks (subst (Applies p l a.row) indexes a.applies) b.applies in
      a.report ∙ ap (reported l a.row) indexes ∙ ap (λ r. reported l r b.index) row ∙ sym b.report

  first_only : (x y : Report) → First p l x → First p l y → x ≡ y
  first_only x y a b =
      ⊎_elim
      (λ (less : rank a.row < rank b.row).
      ⊎_elim
      (λ (more : rank b.row < rank a.row). absurd (omega arith))
      (λ (same : (rank b.row ≡ rank a.row) × (b.index ≤ a.index)). absurd (omega arith))
      (b.before a.row a.index a.applies))
      (λ (same : (rank a.row ≡ rank b.row) × (a.index ≤ b.index)).
      ⊎_elim
      (λ (more : rank b.row < rank a.row). absurd (omega arith))
      (λ (back : (rank b.row ≡ rank a.row) × (b.index ≤ a.index)). same_report x y a b same.0 (omega arith))
      (b.before a.row a.index a.applies))
      (a.before b.row b.index b.applies)

  refused_from : (r : Result Progress SchemeFault) → Outcome r → (x : Report) → First p l x → carried scheme_report r ≡ Err x
  unfolding Outcome
  refused_from (Ok q) out x a = absurd (out.0 a.row a.index a.applies)
  refused_from (Err f) out x a = ap Err (first_only (scheme_report f) x out a)

  read_from : (r : Result Progress SchemeFault) → Outcome r → Faultless p l → r ≡ Ok (below_line p l)
  unfolding Outcome
  read_from (Ok q) out none = ap Ok out.1
  read_from (Err f) out none = absurd (none out.row out.index out.applies)

  -- the four ways between a line's reading and the table
  pub line_refused : (x : Report) → First p l x → carried scheme_report (read_line p l) ≡ Err x
  line_refused x a = refused_from (read_line p l) outcome x a

  pub line_passes : Faultless p l → read_line p l ≡ Ok (below_line p l)
  line_passes none = read_from (read_line p l) outcome none

  pub line_first : (f : SchemeFault) → read_line p l ≡ Err f → First p l (scheme_report f)
  unfolding Outcome
  line_first f h = subst Outcome h outcome

  pub line_faultless : (q : Progress) → read_line p l ≡ Ok q → Faultless p l × (q ≡ below_line p l)
  unfolding Outcome
  line_faultless q h = subst Outcome h outcome

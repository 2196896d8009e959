-- The condition of each row of the table against the check that the definition of reading makes.
use Rattle.std.proofs.Common.{◌≡◌, ℕ, ◌+◌, ◌<◌, ◌≤◌, Bool, true, false, cond, ◌||◌, eqb, ◌⊎◌, List, [], ◌∷◌, length, get_or, Some, None, Ok, Err, Option, Result, sym, refl, ap, ◌∙◌, subst, inl, inr, ⊎_elim, arith}
use Rattle.std.proofs.lemmas.Option.{none-some}
use Rattle.std.proofs.lemmas.Bool.{both_ways, leb-false, lt-leb, eqb-false, ne_eqb, or_parts, or_from}
use Rattle.std.proofs.lemmas.Bool.Decides.{nat_tests}
use Rattle.scheme.specs.declared.kind.Kind.{Kind}
use Rattle.scheme.specs.Models.{room_for}
use Rattle.words.specs.declared.fault.WordFault.{WordFault}
use Rattle.words.specs.declared.fault.WordFault.TheVariants.{Byte, LongWord}
use Rattle.words.specs.declared.fault.Report.{Report}
use Rattle.words.specs.Faults.{at, word_report}
use Rattle.words.specs.Positions.{PlainLine, PlainWord, no_word, spot_of, word_in}
use Rattle.words.specs.Cuts.{pieces, words_of}
use Rattle.words.specs.Tokens.{form_of}
use Rattle.words.specs.Plain.{printable, short_word, byte_check, length_check, plain_bytes, short_words}
use Rattle.words.proofs.Pieces.{on_its_line}
use Rattle.lines.specs.declared.fault.LineFault.{LineFault}
use Rattle.lines.specs.declared.fault.LineFault.TheVariants as line
use Rattle.lines.specs.Faults.{line_report}
use Rattle.text.specs.declared.fault.SchemeFault.{SchemeFault}
use Rattle.text.specs.declared.fault.SchemeFault.TheVariants.{Most}
use Rattle.text.specs.Faults.{scheme_report}
use Rattle.lines.specs.Kinds.{kind_in, in_order, count_allowed}
use Rattle.lines.specs.Roles.{role_at, fits}
use Rattle.lines.specs.Lines.{ordered_kind, line_kind, right_count, form_check, right_forms}
use Rattle.text.specs.Naming.{under_most}
use Rattle.text.specs.Reading.{Progress}
use Rattle.text.specs.Refusing.{Row, bytes, lengths, kinds, counts, forms, most, word_at, Opens, Unplaced, Applies, reported}
use Rattle.text.proofs.Checked.{both, cond_refused, cond_refuses, row_clear, row_first}

-- a row applies nowhere; or first at an index, with what is reported of it
abbrev pub Clear : Progress → PlainLine → Row → Type 0
Clear p l row = (i : ℕ) → ¬ (Applies p l row i)

abbrev pub Told : Progress → PlainLine → Row → Report → ℕ → Type 0
Told p l row r i = Applies p l row i × (r ≡ reported l row i)

abbrev pub Leftmost : Progress → PlainLine → Row → Report → Type 0
Leftmost p l row r = (i : ℕ) × (Told p l row r i × ((j : ℕ) → Applies p l row j → i ≤ j))

-- how the kind of a line came out
Placed : Option Kind → List PlainWord → Result (Option Kind) LineFault → Type 0
Placed last ws (Ok None) = ws ≡ []
Placed last ws (Ok (Some k)) = (0 < length ws) × (kind_in (word_in ws 0).bytes ≡ Some k) × (in_order last k ≡ true)
Placed last ws (Err e) = (0 < length ws) × Unplaced last (word_in ws 0) × (e ≡ line.Kind (spot_of (word_in ws 0)))

placed_order : (last : Option Kind) (w : PlainWord) (ws : List PlainWord) (k : Kind) (b : Bool) → kind_in w.bytes ≡ Some k → in_order last k ≡ b → Placed last (w ∷ ws) (cond b (Ok (Some k)) (Err (line.Kind (spot_of w))))
unfolding Placed
placed_order last w ws k true is ordered = (omega arith, is, ordered)
placed_order last w ws k false is ordered = (omega arith, inr (k, (is, ordered)), refl)

placed_kind : (last : Option Kind) (w : PlainWord) (ws : List PlainWord) (o : Option Kind) → kind_in w.bytes ≡ o → Placed last (w ∷ ws) (ordered_kind last w o)
unfolding Placed
placed_kind last w ws None is = (omega arith, inl is, refl)
placed_kind last w ws (Some k) is = placed_order last w ws k (in_order last k) is refl

placed : (last : Option Kind) (ws : List PlainWord) → Placed last ws (line_kind last ws)
unfolding Placed
placed last [] = refl
placed last (w ∷ ws) = placed_kind last w ws (kind_in w.bytes) refl

module _ (p : Progress) (l : PlainLine) where
  abbrev ws : List PlainWord
  ws = words_of l

  -- what is reported of a word is on its line
  pub at_word : (n i : ℕ) → i < length ws → at n (spot_of (word_at l i)) ≡ record { number = n; line = l.number; place = (word_at l i).place }
  at_word n i within = ap (λ x. record { number = n; line = x; place = (word_at l i).place }) (on_its_line l.number 1 (pieces 32 l.bytes) i within)

  -- bytes

  outside : (b : ℕ) → printable b ≡ false → (b < 32) ⊎ (126 < b)
  outside b h = grind (arith, nat_tests)

  not_printable : (b : ℕ) → (b < 32) ⊎ (126 < b) → printable b ≡ false
  not_printable b h = grind (arith, nat_tests)

  byte_refuses : (i : ℕ) → Applies p l bytes i → (i < length l.bytes) × ((e : WordFault) × (byte_check l.number i (get_or l.bytes i 0) ≡ Err e))
  byte_refuses i a = (a.0, (Byte (record { line = l.number; place = i + 1 }), cond_refuses _ _ (printable (get_or l.bytes i 0)) (not_printable _ a.1) refl))

  byte_tells : (i : ℕ) (e : WordFault) → i < length l.bytes → byte_check l.number i (get_or l.bytes i 0) ≡ Err e → Told p l bytes (word_report e) i
  byte_tells i e h refused = let told = cond_refused _ e (printable (get_or l.bytes i 0)) refused in ((h, outside _ told.0), ap word_report told.1)

  pub bytes_clear : plain_bytes l ≡ Ok tt → Clear p l bytes
  bytes_clear = row_clear (byte_check l.number) 0 l.bytes (Applies p l bytes) byte_refuses

  pub bytes_first : (e : WordFault) → plain_bytes l ≡ Err e → Leftmost p l bytes (word_report e)
  bytes_first = row_first (byte_check l.number) 0 l.bytes (Applies p l bytes) byte_refuses (λ i e. Told p l bytes (word_report e) i) byte_tells

  -- lengths

  length_refuses : (i : ℕ) → Applies p l lengths i → (i < length ws) × ((e : WordFault) × (length_check i (get_or ws i no_word) ≡ Err e))
  length_refuses i a = (a.0, (LongWord (spot_of (word_at l i)), cond_refuses _ _ (short_word (word_at l i)) (lt-leb (length (word_at l i).bytes) 17 a.1) refl))

  length_tells : (i : ℕ) (e : WordFault) → i < length ws → length_check i (get_or ws i no_word) ≡ Err e → Told p l lengths (word_report e) i
  length_tells i e h refused =
      let told = cond_refused _ e (short_word (word_at l i)) refused in
      ((h, leb-false (length (word_at l i).bytes) 17 told.0), ap word_report told.1 ∙ at_word 2 i h)

  pub lengths_clear : short_words l ≡ Ok tt → Clear p l lengths
  lengths_clear = row_clear length_check no_word ws (Applies p l lengths) length_refuses

  pub lengths_first : (e : WordFault) → short_words l ≡ Err e → Leftmost p l lengths (word_report e)
  lengths_first = row_first length_check no_word ws (Applies p l lengths) length_refuses (λ i e. Told p l lengths (word_report e) i) length_tells

  -- kinds

  pub no_words : line_kind p.last ws ≡ Ok None → ws ≡ []
  unfolding Placed
  no_words h = subst (Placed p.last ws) h (placed p.last ws)

  pub opens : (k : Kind) → line_kind p.last ws ≡ Ok (Some k) → Opens l k × (in_order p.last k ≡ true)
  unfolding Placed
  opens k h = let found = subst (Placed p.last ws) h (placed p.last ws) in ((found.0, found.1), found.2)

  pub kinds_clear : (k : Kind) → Opens l k → in_order p.last k ≡ true → Clear p l kinds
  kinds_clear k opened ordered i a =
      ⊎_elim
      (λ (none : kind_in (word_at l 0).bytes ≡ None). none-some k (sym none ∙ opened.1))
      (λ (other : (o : Kind) × ((kind_in (word_at l 0).bytes ≡ Some o) × (in_order p.last o ≡ false))).
      let some = opened.1 in
      let is = other.1.0 in
      let not_ordered = other.1.1 in
      let same : other.0 ≡ k = cc in
      let no : in_order p.last k ≡ false = ap (in_order p.last) (sym same) ∙ not_ordered in
      both_ways (in_order p.last k) no ordered)
      a.2

  pub kinds_first : (e : LineFault) → line_kind p.last ws ≡ Err e → Leftmost p l kinds (line_report e)
  unfolding Placed
  kinds_first e h =
      let found = subst (Placed p.last ws) h (placed p.last ws) in
      (0, (((refl, found.0, found.1), ap line_report found.2 ∙ at_word 10 0 found.0), λ j a. omega arith))

  -- the other rows speak of a line of a known kind
  module _ (k : Kind) (opened : Opens l k) where
    pub only : (o : Kind) → Opens l o → o ≡ k
    only o is = let a = opened.1 in let b = is.1 in cc

    pub counts_clear : right_count k (length p.scheme.attributes) ws ≡ Ok tt → Clear p l counts
    counts_clear h i a =
        let no : count_allowed k (length p.scheme.attributes) (length ws) ≡ false = ap (λ x. count_allowed x (length p.scheme.attributes) (length ws)) (sym (only a.1.0 a.1.1.0)) ∙ a.1.1.1 in
        both _ tt _ h (cond_refuses (line.Count (spot_of (word_at l 0))) _ (count_allowed k (length p.scheme.attributes) (length ws)) no refl)

    pub counts_first : (e : LineFault) → right_count k (length p.scheme.attributes) ws ≡ Err e → Leftmost p l counts (line_report e)
    counts_first e h =
        let told = cond_refused _ e (count_allowed k (length p.scheme.attributes) (length ws)) h in
        (0, (((refl, (k, (opened, told.0))), ap line_report told.1 ∙ at_word 11 0 opened.0), λ j a. omega arith))

    form_refuses : (i : ℕ) → Applies p l forms i → (i < length ws) × ((e : LineFault) × (form_check k ws i (get_or ws i no_word) ≡ Err e))
    form_refuses i a =
        let other : eqb i 0 ≡ false = ne_eqb i 0 (λ z. omega arith) in
        let no : fits (role_at k ws i) (form_of (word_at l i).bytes) ≡ false = ap (λ x. fits (role_at x ws i) (form_of (word_at l i).bytes)) (sym (only a.2.0 a.2.1.0)) ∙ a.2.1.1 in
        (a.1, (line.Form (spot_of (word_at l i)), cond_refuses _ _ (eqb i 0 || fits (role_at k ws i) (form_of (word_at l i).bytes)) (or_from (eqb i 0) _ other no) refl))

    pub positive : (i : ℕ) → eqb i 0 ≡ false → 0 < i
    positive i h = let ne = eqb-false i 0 h in omega arith

    form_tells : (i : ℕ) (e : LineFault) → i < length ws → form_check k ws i (get_or ws i no_word) ≡ Err e → Told p l forms (line_report e) i
    form_tells i e h refused =
        let told = cond_refused _ e (eqb i 0 || fits (role_at k ws i) (form_of (word_at l i).bytes)) refused in
        let parts = or_parts (eqb i 0) (fits (role_at k ws i) (form_of (word_at l i).bytes)) told.0 in
        ((positive i parts.0, h, (k, (opened, parts.1))), ap line_report told.1 ∙ at_word 12 i h)

    pub forms_clear : right_forms k ws ≡ Ok tt → Clear p l forms
    forms_clear = row_clear (form_check k ws) no_word ws (Applies p l forms) form_refuses

    pub forms_first : (e : LineFault) → right_forms k ws ≡ Err e → Leftmost p l forms (line_report e)
    forms_first = row_first (form_check k ws) no_word ws (Applies p l forms) form_refuses (λ i e. Told p l forms (line_report e) i) form_tells

    pub most_clear : under_most k p.scheme ws ≡ Ok tt → Clear p l most
    most_clear h i a =
        let no : room_for k p.scheme ≡ false = ap (λ x. room_for x p.scheme) (sym (only a.1.0 a.1.1.0)) ∙ a.1.1.1 in
        both _ tt _ h (cond_refuses (Most (spot_of (word_at l 0))) _ (room_for k p.scheme) no refl)

    pub most_first : (f : SchemeFault) → under_most k p.scheme ws ≡ Err f → Leftmost p l most (scheme_report f)
    most_first f h =
        let told = cond_refused _ f (room_for k p.scheme) h in
        (0, (((refl, (k, (opened, told.0))), ap scheme_report told.1 ∙ at_word 23 0 opened.0), λ j a. omega arith))

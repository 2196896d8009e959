-- The rows of names and values, which have one rank, against the check of the words by their roles.
use Rattle.std.proofs.Common.{◌≡◌, ℕ, ◌-◌, ◌<◌, ◌≤◌, Bool, true, false, cond, ◌&&◌, eqb, leb, ◌⊎◌, List, length, get_or, is_some, Ok, Err, sym, refl, ap, ◌∙◌, subst, inl, inr, ⊎_elim, arith}
use Rattle.std.proofs.lemmas.Bool.Decides.{nat_tests}
use Rattle.std.proofs.lemmas.Bool.{ltb-false, le-ltb, eqb-false, ne_eqb}
use Rattle.scheme.specs.declared.kind.Kind.{Kind}
use Rattle.scheme.specs.Names.{index_of}
use Rattle.scheme.specs.Models.{SchemeModel, attribute_names, names_of}
use Rattle.words.specs.Positions.{PlainLine, PlainWord, no_word, spot_of, word_in}
use Rattle.words.specs.Cuts.{words_of}
use Rattle.words.specs.Tokens.{Form, name, number, term, operator, other, form_of}
use Rattle.lines.specs.declared.role.Role.{Role}
use Rattle.lines.specs.declared.role.Role.TheVariants as role
use Rattle.text.specs.declared.fault.SchemeFault.{SchemeFault}
use Rattle.text.specs.declared.fault.SchemeFault.TheVariants.{Used, Undefined, Range}
use Rattle.text.specs.Faults.{scheme_report}
use Rattle.lines.specs.Roles.{role_at}
use Rattle.text.specs.Naming.{size_at, term_form_check, number_check, role_check, name_check, right_names}
use Rattle.text.specs.Reading.{Progress}
use Rattle.text.specs.Refusing.{Row, bytes, lengths, kinds, counts, forms, most, used, undefined, ranges, rank, Opens, Taken, Unknown, Unattributed, Oversized, Overvalued, Applies}
use Rattle.text.proofs.Checked.{ok_err, cond_refused, cond_refuses, cond_stopped, cond_stops, row_clear, row_first}
use Rattle.text.proofs.Conditions.{Clear, Told, at_word, only}

-- a number that is refused is not allowed
number_refused : (allowed : ℕ → Bool) (w : PlainWord) (f : SchemeFault) (form : Form) → number_check allowed w form ≡ Err f → (n : ℕ) × ((form ≡ number n) × (allowed n ≡ false) × (f ≡ Range (spot_of w)))
number_refused allowed w f (name b) h = absurd (ok_err tt f h)
number_refused allowed w f (number n) h = let told = cond_refused _ f (allowed n) h in (n, (refl, told.0, told.1))
number_refused allowed w f (term p a) h = absurd (ok_err tt f h)
number_refused allowed w f (operator o) h = absurd (ok_err tt f h)
number_refused allowed w f other h = absurd (ok_err tt f h)

number_refuses : (allowed : ℕ → Bool) (w : PlainWord) (f : SchemeFault) (form : Form) (n : ℕ) → form ≡ number n → allowed n ≡ false → f ≡ Range (spot_of w) → number_check allowed w form ≡ Err f
number_refuses allowed w f form n is lacks same = ap (number_check allowed w) is ∙ cond_refuses _ f (allowed n) lacks same

-- a name or a value is wrong, each with its own fault
abbrev Misnamed : SchemeModel → Kind → List PlainWord → ℕ → SchemeFault → Type 0
Misnamed m k ws i f =
    (Taken m k ws i × (f ≡ Used (spot_of (word_in ws i))))
    ⊎ (((Unknown m k ws i ⊎ Unattributed m k ws i) × (f ≡ Undefined (spot_of (word_in ws i))))
    ⊎ ((Oversized k ws i ⊎ Overvalued m k ws i) × (f ≡ Range (spot_of (word_in ws i)))))

module _ (m : SchemeModel) (k : Kind) (ws : List PlainWord) (i : ℕ) (f : SchemeFault) where
  abbrev w : PlainWord
  w = word_in ws i

  term_refused : (form : Form) → form_of w.bytes ≡ form → (r : Role) → (o : _) → r ≡ role.Term o → role_at k ws i ≡ r → term_form_check m w form ≡ Err f → Misnamed m k ws i f
  term_refused (name b) is r o at same h = absurd (ok_err tt f h)
  term_refused (number n) is r o at same h = absurd (ok_err tt f h)
  term_refused (term p a) is r o at same h = let told = cond_refused _ f (is_some (index_of a (attribute_names m))) h in inr (inl (inr (o, (p, (a, (same ∙ at, is, told.0)))), told.1))
  term_refused (operator x) is r o at same h = absurd (ok_err tt f h)
  term_refused other is r o at same h = absurd (ok_err tt f h)

  out_of_sizes : (n : ℕ) → (leb 1 n && leb n 250) ≡ false → (n < 1) ⊎ (250 < n)
  out_of_sizes n h = grind (arith, nat_tests)

  -- a role that refuses the word shows what is wrong
  misnamed : (r : Role) → role_at k ws i ≡ r → role_check m k i w r ≡ Err f → Misnamed m k ws i f
  misnamed role.NewName at h = let told = cond_stopped _ f (is_some (index_of w.bytes (names_of k m))) h in inl ((at, told.0), told.1)
  misnamed (role.Known of) at h = let told = cond_refused _ f (is_some (index_of w.bytes (names_of of m))) h in inr (inl (inl (of, (at, told.0)), told.1))
  misnamed role.Size at h = let told = number_refused _ w f (form_of w.bytes) h in inr (inr (inl (told.0, (at, told.1.0, out_of_sizes told.0 told.1.1)), told.1.2))
  misnamed role.Value at h = let told = number_refused _ w f (form_of w.bytes) h in inr (inr (inr (told.0, (at, told.1.0, ltb-false told.0 (size_at m (i - 2)) told.1.1)), told.1.2))
  misnamed (role.Term o) at h = term_refused (form_of w.bytes) refl (role.Term o) o refl at h
  misnamed role.Comparison at h = absurd (ok_err tt f h)
  misnamed role.Amount at h = absurd (ok_err tt f h)
  misnamed (role.Key key) at h = absurd (ok_err tt f h)

  checked : (r : Role) → role_at k ws i ≡ r → role_check m k i w r ≡ Err f → role_check m k i w (role_at k ws i) ≡ Err f
  checked r at h = ap (role_check m k i w) at ∙ h

  size_refused : (n : ℕ) → (n < 1) ⊎ (250 < n) → (leb 1 n && leb n 250) ≡ false
  size_refused n h = grind (arith, nat_tests)

  -- and what is wrong is refused
  not_found : Unknown m k ws i ⊎ Unattributed m k ws i → f ≡ Undefined (spot_of w) → role_check m k i w (role_at k ws i) ≡ Err f
  not_found (inl (of, (at, lacks))) same = checked (role.Known of) at (cond_refuses _ f (is_some (index_of w.bytes (names_of of m))) lacks same)
  not_found (inr (o, (p, (a, (at, is, lacks))))) same = checked (role.Term o) at (ap (term_form_check m w) is ∙ cond_refuses _ f (is_some (index_of a (attribute_names m))) lacks same)

  out_of_range : Oversized k ws i ⊎ Overvalued m k ws i → f ≡ Range (spot_of w) → role_check m k i w (role_at k ws i) ≡ Err f
  out_of_range (inl (n, (at, is, lacks))) same = checked role.Size at (number_refuses _ w f (form_of w.bytes) n is (size_refused n lacks) same)
  out_of_range (inr (n, (at, is, lacks))) same = checked role.Value at (number_refuses _ w f (form_of w.bytes) n is (le-ltb n (size_at m (i - 2)) lacks) same)

  refuses : Misnamed m k ws i f → role_check m k i w (role_at k ws i) ≡ Err f
  refuses (inl ((at, is), same)) = checked role.NewName at (cond_stops _ f (is_some (index_of w.bytes (names_of k m))) is same)
  refuses (inr (inl (what, same))) = not_found what same
  refuses (inr (inr (what, same))) = out_of_range what same

  name_refused : name_check m k ws i w ≡ Err f → (0 < i) × Misnamed m k ws i f
  name_refused h = behind (eqb i 0) refl h
    where
      behind : (b : Bool) → eqb i 0 ≡ b → cond b (Ok tt) (role_check m k i w (role_at k ws i)) ≡ Err f → (0 < i) × Misnamed m k ws i f
      behind true is h = absurd (ok_err tt f h)
      behind false is h = let ne = eqb-false i 0 is in (omega arith, misnamed (role_at k ws i) refl h)

  name_refuses : 0 < i → Misnamed m k ws i f → name_check m k ws i w ≡ Err f
  name_refuses some what = ap (λ b. cond b (Ok tt) (role_check m k i w (role_at k ws i))) (ne_eqb i 0 (λ z. omega arith)) ∙ refuses what

-- the row of a word that is wrong, by its role
abbrev row_by_role : Role → Row
row_by_role role.NewName = used
row_by_role (role.Known of) = undefined
row_by_role role.Size = ranges
row_by_role role.Value = ranges
row_by_role (role.Term o) = undefined
row_by_role role.Comparison = used
row_by_role role.Amount = used
row_by_role (role.Key key) = used

module _ (p : Progress) (l : PlainLine) (k : Kind) (opened : Opens l k) where
  abbrev words : List PlainWord
  words = words_of l

  -- some row of that rank applies
  abbrev Named : ℕ → Type 0
  Named i = (row : Row) × ((rank row ≡ 6) × Applies p l row i)

  -- and is reported
  abbrev NameTold : ℕ → SchemeFault → Type 0
  NameTold i f = (row : Row) × ((rank row ≡ 6) × Told p l row (scheme_report f) i)

  abbrev Refuses : Kind → ℕ → Type 0
  Refuses o i = (i < length words) × ((f : SchemeFault) × (name_check p.scheme o words i (get_or words i no_word) ≡ Err f))

  named_as : (o : Kind) → Opens l o → (i : ℕ) → Refuses o i → Refuses k i
  named_as o is i = subst (λ x. Refuses x i) (only p l k opened o is)

  row_refuses : (i : ℕ) → Named i → Refuses k i
  row_refuses i (used, (is, a)) =
      let o = a.2.0 in
      let f = Used (spot_of (word_in words i)) in
      named_as o a.2.1.0 i (a.1, (f, name_refuses p.scheme o words i f a.0 (inl (a.2.1.1, refl))))
  row_refuses i (undefined, (is, a)) =
      let o = a.2.0 in
      let f = Undefined (spot_of (word_in words i)) in
      named_as o a.2.1.0 i (a.1, (f, name_refuses p.scheme o words i f a.0 (inr (inl (a.2.1.1, refl)))))
  row_refuses i (ranges, (is, a)) =
      let o = a.2.0 in
      let f = Range (spot_of (word_in words i)) in
      named_as o a.2.1.0 i (a.1, (f, name_refuses p.scheme o words i f a.0 (inr (inr (a.2.1.1, refl)))))
  row_refuses i (bytes, (is, a)) = absurd (omega arith)
  row_refuses i (lengths, (is, a)) = absurd (omega arith)
  row_refuses i (kinds, (is, a)) = absurd (omega arith)
  row_refuses i (counts, (is, a)) = absurd (omega arith)
  row_refuses i (forms, (is, a)) = absurd (omega arith)
  row_refuses i (most, (is, a)) = absurd (omega arith)

  told_by : (i : ℕ) (f : SchemeFault) → 0 < i → i < length words → Misnamed p.scheme k words i f → NameTold i f
  told_by i f some h (inl (what, is)) = (used, (refl, ((some, h, (k, (opened, what))), ap scheme_report is ∙ at_word p l 20 i h)))
  told_by i f some h (inr (inl (what, is))) = (undefined, (refl, ((some, h, (k, (opened, what))), ap scheme_report is ∙ at_word p l 21 i h)))
  told_by i f some h (inr (inr (what, is))) = (ranges, (refl, ((some, h, (k, (opened, what))), ap scheme_report is ∙ at_word p l 22 i h)))

  row_tells : (i : ℕ) (f : SchemeFault) → i < length words → name_check p.scheme k words i (get_or words i no_word) ≡ Err f → NameTold i f
  row_tells i f h refused = let told = name_refused p.scheme k words i f refused in told_by i f told.0 h told.1

  pub names_clear : right_names p.scheme k words ≡ Ok tt → (row : Row) → rank row ≡ 6 → Clear p l row
  names_clear h row is i a = row_clear (name_check p.scheme k words) no_word words Named row_refuses h i (row, (is, a))

  pub names_first : (f : SchemeFault) → right_names p.scheme k words ≡ Err f → (i : ℕ) × (NameTold i f × ((j : ℕ) → Named j → i ≤ j))
  names_first = row_first (name_check p.scheme k words) no_word words Named row_refuses NameTold row_tells

-- at most one row of that rank applies to a word
module _ (p : Progress) (l : PlainLine) (i : ℕ) where
  module _ (k : Kind) (opened : Opens l k) where
    at_role : (o : Kind) → Opens l o → (r : Role) → role_at o (words_of l) i ≡ r → row_by_role r ≡ row_by_role (role_at k (words_of l) i)
    at_role o is r h = ap row_by_role (sym h ∙ ap (λ x. role_at x (words_of l) i) (only p l k opened o is))

    by_role : (row : Row) → rank row ≡ 6 → Applies p l row i → row ≡ row_by_role (role_at k (words_of l) i)
    by_role used is a = at_role a.2.0 a.2.1.0 role.NewName a.2.1.1.0
    by_role undefined is a =
        ⊎_elim
        (λ (u : Unknown p.scheme a.2.0 (words_of l) i). at_role a.2.0 a.2.1.0 (role.Known u.0) u.1.0)
        (λ (u : Unattributed p.scheme a.2.0 (words_of l) i). at_role a.2.0 a.2.1.0 (role.Term u.0) u.1.1.1.0)
        a.2.1.1
    by_role ranges is a =
        ⊎_elim
        (λ (v : Oversized a.2.0 (words_of l) i). at_role a.2.0 a.2.1.0 role.Size v.1.0)
        (λ (v : Overvalued p.scheme a.2.0 (words_of l) i). at_role a.2.0 a.2.1.0 role.Value v.1.0)
        a.2.1.1
    by_role bytes is a = absurd (omega arith)
    by_role lengths is a = absurd (omega arith)
    by_role kinds is a = absurd (omega arith)
    by_role counts is a = absurd (omega arith)
    by_role forms is a = absurd (omega arith)
    by_role most is a = absurd (omega arith)

  opened_by : (row : Row) → rank row ≡ 6 → Applies p l row i → (k : Kind) × Opens l k
  opened_by used is a = (a.2.0, a.2.1.0)
  opened_by undefined is a = (a.2.0, a.2.1.0)
  opened_by ranges is a = (a.2.0, a.2.1.0)
  opened_by bytes is a = absurd (omega arith)
  opened_by lengths is a = absurd (omega arith)
  opened_by kinds is a = absurd (omega arith)
  opened_by counts is a = absurd (omega arith)
  opened_by forms is a = absurd (omega arith)
  opened_by most is a = absurd (omega arith)

  pub one_name_row : (r s : Row) → rank r ≡ 6 → rank s ≡ 6 → Applies p l r i → Applies p l s i → r ≡ s
  one_name_row r s is same a b =
      let o = opened_by r is a in
      by_role o.0 o.1 r is a ∙ sym (by_role o.0 o.1 s same b)

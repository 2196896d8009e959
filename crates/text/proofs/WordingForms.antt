-- A word of a form is spelled as what it stands for is written.
use Rattle.std.proofs.Common.{◌≡◌, ℕ, suc, ◌+◌, ◌-◌, ◌*◌, ◌<◌, Bool, true, false, cond, ◌||◌, ◌&&◌, eqb, ltb, List, [], ◌∷◌, ◌++◌, length, get_or, is_some, Some, None, Ok, Option, codes, decimal, bytes_eq, unwrap_or, sym, refl, ap, ap₂, ◌∙◌, ⊎_elim, add-zero, zero-add, arith}
use Rattle.std.specs.Int.{IsInRange}
use Rattle.std.specs.Str.Parse.{AllDigits, digits_value}
use Rattle.std.proofs.lemmas.Bool.{false≢true, and_parts, or_cases, eqb-true, ltb-true, cond_both}
use Rattle.std.proofs.lemmas.Fmt.{decimal-digits_value}
use Rattle.std.proofs.lemmas.Slice.Eq.{bytes_eq-Decides}
use Rattle.std.proofs.lemmas.Str.{digit_value_digit}
use Rattle.std.proofs.lemmas.Str.Parse.{numerals_by_value, tells_digits}
use Rattle.scheme.specs.declared.kind.Kind.{Kind}
use Rattle.scheme.specs.declared.kind.Kind.TheVariants as kind
use Rattle.scheme.specs.declared.terms.Party.{Party}
use Rattle.scheme.specs.declared.terms.Party.TheVariants.{Subject, Object}
use Rattle.scheme.specs.declared.terms.Term.{Term}
use Rattle.scheme.specs.declared.terms.Comparison.TheVariants.{Equal, NotEqual, Less, AtMost, Greater, AtLeast}
use Rattle.scheme.specs.Names.{index_from, index_of}
use Rattle.scheme.specs.Models.{SchemeModel, attribute_names}
use Rattle.words.specs.declared.token.Operator.{Operator}
use Rattle.words.specs.declared.token.Operator.TheVariants.{Compare, Dash}
use Rattle.words.specs.Positions.{PlainWord}
use Rattle.words.specs.Forms.{digit, is_name, number_in, term_in, operator_in}
use Rattle.words.specs.Tokens.{Form, name, number, term, operator, other, operator_form, term_form, number_form, form_of}
use Rattle.words.proofs.Lengths.{name_is}
use Rattle.lines.specs.Kinds.{kind_in}
use Rattle.lines.specs.declared.role.Role.TheVariants as role
use Rattle.lines.specs.declared.role.Instead.TheVariants.{Nothing, Number, NumberOrDash}
use Rattle.lines.specs.declared.role.Key.TheVariants as test
use Rattle.lines.specs.Roles.{a_word, fits}
use Rattle.text.specs.Naming.{term_form_check}
use Rattle.text.specs.Declaring as d
use Rattle.text.specs.Writing.{name_at, value_word, party_word, comparison_word, term_word, operand_word, action_words}
use Rattle.text.proofs.Named.{range_means}
use Rattle.text.proofs.Added.{number_read, byte_number}
use Rattle.text.proofs.Steps.{test_passed}

-- numbers

-- the digits of a number, of which the first is 0 in 0 alone
record Numeral (w : List ℕ) (n : ℕ) : Type 0 where
  digits : AllDigits 10 w
  some : 0 < length w
  no_zero : get_or w 0 0 ≡ 48 → length w ≡ 1
  value : digits_value 10 w ≡ n

digit_range : (b : ℕ) → digit b ≡ true → IsInRange 48 57 b
digit_range b h = range_means 48 57 b h

numeral : (w : List ℕ) (n : ℕ) → number_in w ≡ Some n → Numeral w n
numeral [] n e = cc
numeral (a ∷ []) n e =
    cond_both (digit a) (Some (a - 48)) None (λ (o : Option ℕ). o ≡ Some n → Numeral (a ∷ []) n)
    (λ is some.
    let same : a - 48 ≡ n = cc in
    let low = digit_value_digit a (digit_range a is) in
    let high = (digit_range a is).1 in
    record { digits = (omega arith, tt); some = omega arith; no_zero = λ z. refl; value = omega arith })
    (λ _ no. cc)
    e
numeral (a ∷ b ∷ []) n e =
    cond_both (ltb 48 a && (digit a && digit b)) (Some (10 * (a - 48) + (b - 48))) None (λ (o : Option ℕ). o ≡ Some n → Numeral (a ∷ b ∷ []) n)
    (λ is some.
    let same : 10 * (a - 48) + (b - 48) ≡ n = cc in
    let parts = and_parts (ltb 48 a) (digit a && digit b) is in
    let above = ltb-true 48 a parts.0 in
    let both = and_parts (digit a) (digit b) parts.1 in
    let low_a = digit_value_digit a (digit_range a both.0) in
    let low_b = digit_value_digit b (digit_range b both.1) in
    let high_a = (digit_range a both.0).1 in
    let high_b = (digit_range b both.1).1 in
    record { digits = (omega arith, (omega arith, tt)); some = omega arith; no_zero = λ z. absurd (omega arith); value = omega arith })
    (λ _ no. cc)
    e
numeral (a ∷ b ∷ c ∷ []) n e =
    cond_both ((ltb 48 a && (digit a && (digit b && digit c))) && ltb (100 * (a - 48) + 10 * (b - 48) + (c - 48)) 256) (Some (100 * (a - 48) + 10 * (b - 48) + (c - 48))) None (λ (o : Option ℕ). o ≡ Some n → Numeral (a ∷ b ∷ c ∷ []) n)
    (λ is some.
    let same : 100 * (a - 48) + 10 * (b - 48) + (c - 48) ≡ n = cc in
    let parts = and_parts (ltb 48 a) (digit a && (digit b && digit c)) (and_parts (ltb 48 a && (digit a && (digit b && digit c))) _ is).0 in
    let above = ltb-true 48 a parts.0 in
    let first = and_parts (digit a) (digit b && digit c) parts.1 in
    let both = and_parts (digit b) (digit c) first.1 in
    let low_a = digit_value_digit a (digit_range a first.0) in
    let low_b = digit_value_digit b (digit_range b both.0) in
    let low_c = digit_value_digit c (digit_range c both.1) in
    let high_a = (digit_range a first.0).1 in
    let high_b = (digit_range b both.0).1 in
    let high_c = (digit_range c both.1).1 in
    record { digits = (omega arith, (omega arith, (omega arith, tt))); some = omega arith; no_zero = λ z. absurd (omega arith); value = omega arith })
    (λ _ no. cc)
    e
numeral (a ∷ b ∷ c ∷ x ∷ xs) n e = cc

number_spelled : (w : List ℕ) (n : ℕ) → number_in w ≡ Some n → decimal n ≡ w
number_spelled w n e =
    let is = numeral w n e in
    let small = byte_number w n e in
    ap decimal (sym is.value) ∙ decimal-digits_value (numerals_by_value _ tells_digits) w is.digits is.some is.no_zero (omega (arith, is.value))

-- terms

term_is : (t : Bool) (w : List ℕ) (p : Party) (a : List ℕ) (o : Option ℕ) (q : Option (Party × List ℕ)) (s : Option Operator) → cond t (name w) (number_form o (term_form q (operator_form s))) ≡ term p a → q ≡ Some (p, a)
term_is true w p a o q s e = cc
term_is false w p a (Some k) q s e = cc
term_is false w p a None (Some (x, y)) s e = let who : x ≡ p = cc in let what : y ≡ a = cc in ap₂ (λ u v. Some (u, v)) who what
term_is false w p a None None (Some x) e = cc
term_is false w p a None None None e = cc

same_parts : (s t : Party × List ℕ) → Some s ≡ Some t → (s.0 ≡ t.0) × (s.1 ≡ t.1)
same_parts s t e = let same : s ≡ t = cc in (ap (λ (x : Party × List ℕ). x.0) same, ap (λ (x : Party × List ℕ). x.1) same)

module _ (b : ℕ) (v : List ℕ) (p : Party) (a : List ℕ) where
  abbrev with_party : Party → Option (Party × List ℕ)
  with_party x = Some (x, v)

  party_spelled : cond (eqb b 115) (with_party Subject) (cond (eqb b 111) (with_party Object) None) ≡ Some (p, a) → (party_word p ≡ b ∷ []) × (a ≡ v)
  party_spelled =
      cond_both (eqb b 115) (with_party Subject) (cond (eqb b 111) (with_party Object) None) (λ o. o ≡ Some (p, a) → (party_word p ≡ b ∷ []) × (a ≡ v))
      (λ is e. one Subject e (ap (λ x. x ∷ []) (sym (eqb-true b 115 is))))
      (λ _.
      cond_both (eqb b 111) (with_party Object) None (λ o. o ≡ Some (p, a) → (party_word p ≡ b ∷ []) × (a ≡ v))
      (λ is e. one Object e (ap (λ x. x ∷ []) (sym (eqb-true b 111 is))))
      (λ _ e. cc))
    where
      one : (x : Party) → with_party x ≡ Some (p, a) → party_word x ≡ b ∷ [] → (party_word p ≡ b ∷ []) × (a ≡ v)
      one x e is = let told = same_parts (x, v) (p, a) e in (ap party_word (sym told.0) ∙ is, sym told.1)

  term_spelled : (q : ℕ) → cond (eqb q 46 && is_name v) (cond (eqb b 115) (with_party Subject) (cond (eqb b 111) (with_party Object) None)) None ≡ Some (p, a) → party_word p ++ codes "." ++ a ≡ b ∷ q ∷ v
  term_spelled q =
      cond_both (eqb q 46 && is_name v) (cond (eqb b 115) (with_party Subject) (cond (eqb b 111) (with_party Object) None)) None (λ o. o ≡ Some (p, a) → party_word p ++ codes "." ++ a ≡ b ∷ q ∷ v)
      (λ is e.
      let dot = eqb-true q 46 (and_parts (eqb q 46) (is_name v) is).0 in
      let parts = party_spelled e in
      ap₂ (λ x y. x ++ codes "." ++ y) parts.0 parts.1 ∙ ap (λ x. b ∷ x ∷ v) (sym dot))
      (λ _ e. cc)

term_written : (w : List ℕ) (p : Party) (a : List ℕ) → term_in w ≡ Some (p, a) → party_word p ++ codes "." ++ a ≡ w
term_written [] p a e = cc
term_written (b ∷ []) p a e = cc
term_written (b ∷ q ∷ v) p a e = term_spelled b v p a q e

term_read : (w : List ℕ) (p : Party) (a : List ℕ) → form_of w ≡ term p a → party_word p ++ codes "." ++ a ≡ w
term_read w p a is = term_written w p a (term_is (is_name w) w p a (number_in w) (term_in w) (operator_in w) is)

-- operators

operator_is : (t : Bool) (w : List ℕ) (x : Operator) (o : Option ℕ) (q : Option (Party × List ℕ)) (s : Option Operator) → cond t (name w) (number_form o (term_form q (operator_form s))) ≡ operator x → s ≡ Some x
operator_is true w x o q s e = cc
operator_is false w x (Some k) q s e = cc
operator_is false w x None (Some t) s e = cc
operator_is false w x None None (Some y) e = cc
operator_is false w x None None None e = cc

abbrev operator_word : Operator → List ℕ
operator_word (Compare c) = comparison_word c
operator_word Dash = codes "-"

module _ (o : Operator) where
  -- a test of a byte that decides
  one_sign : (a b : ℕ) (x : Operator) (w : ℕ → List ℕ) (r : Option Operator) → operator_word x ≡ w b → (r ≡ Some o → operator_word o ≡ w a) → cond (eqb a b) (Some x) r ≡ Some o → operator_word o ≡ w a
  one_sign a b x w r is later =
      cond_both (eqb a b) (Some x) r (λ (s : Option Operator). s ≡ Some o → operator_word o ≡ w a)
      (λ same e. let sign : x ≡ o = cc in ap operator_word (sym sign) ∙ is ∙ ap w (sym (eqb-true a b same)))
      (λ _. later)

  operator_spelled : (w : List ℕ) → operator_in w ≡ Some o → operator_word o ≡ w
  operator_spelled [] e = cc
  operator_spelled (a ∷ []) e =
      one_sign a 61 (Compare Equal) (λ x. x ∷ []) _ refl (one_sign a 60 (Compare Less) (λ x. x ∷ []) _ refl (one_sign a 62 (Compare Greater) (λ x. x ∷ []) _ refl (one_sign a 45 Dash (λ x. x ∷ []) None refl (λ no. cc)))) e
  operator_spelled (a ∷ b ∷ []) e =
      cond_both (eqb b 61) (cond (eqb a 33) (Some (Compare NotEqual)) (cond (eqb a 60) (Some (Compare AtMost)) (cond (eqb a 62) (Some (Compare AtLeast)) None))) None (λ (s : Option Operator). s ≡ Some o → operator_word o ≡ a ∷ b ∷ [])
      (λ is some. one_sign a 33 (Compare NotEqual) (λ x. x ∷ 61 ∷ []) _ refl (one_sign a 60 (Compare AtMost) (λ x. x ∷ 61 ∷ []) _ refl (one_sign a 62 (Compare AtLeast) (λ x. x ∷ 61 ∷ []) None refl (λ no. cc))) some ∙ ap (λ x. a ∷ x ∷ []) (sym (eqb-true b 61 is)))
      (λ _ no. cc)
      e
  operator_spelled (a ∷ b ∷ c ∷ w) e = cc

  operator_read : (w : List ℕ) → form_of w ≡ operator o → operator_word o ≡ w
  operator_read w is = operator_spelled w (operator_is (is_name w) w o (number_in w) (term_in w) (operator_in w) is)

-- key words

key_read : (w key : List ℕ) (f : Form) → form_of w ≡ f → a_word key f ≡ true → w ≡ key
key_read w key (name b) is h = sym (name_is w b (sym is)).1 ∙ (bytes_eq-Decides b key).0 h
key_read w key (number n) is h = absurd (false≢true h)
key_read w key (term p a) is h = absurd (false≢true h)
key_read w key (operator o) is h = absurd (false≢true h)
key_read w key other is h = absurd (false≢true h)

pub key_said : (w : PlainWord) (key : List ℕ) → a_word key (form_of w.bytes) ≡ true → w.bytes ≡ key
key_said w key h = key_read w.bytes key (form_of w.bytes) refl h

-- one of two key words
pub either_key : (w : PlainWord) (key last : List ℕ) (P : Type 0) → (w.bytes ≡ key → P) → (w.bytes ≡ last → P) → (a_word key (form_of w.bytes) || a_word last (form_of w.bytes)) ≡ true → P
either_key w key last P one two h = ⊎_elim (λ is. one (key_said w key is)) (λ is. two (key_said w last is)) (or_cases (a_word key (form_of w.bytes)) (a_word last (form_of w.bytes)) h)

-- the word of a kind

abbrev pub kind_word : Kind → List ℕ
kind_word kind.Attr = codes "attr"
kind_word kind.Right = codes "right"
kind_word kind.Object = codes "object"
kind_word kind.Policy = codes "policy"
kind_word kind.If = codes "if"
kind_word kind.Do = codes "do"
kind_word kind.Query = codes "query"

module _ (w : List ℕ) (k : Kind) where
  one_kind : (j : Kind) (r : Option Kind) → (r ≡ Some k → w ≡ kind_word k) → cond (bytes_eq w (kind_word j)) (Some j) r ≡ Some k → w ≡ kind_word k
  one_kind j r later =
      cond_both (bytes_eq w (kind_word j)) (Some j) r (λ (s : Option Kind). s ≡ Some k → w ≡ kind_word k)
      (λ same e. let is : j ≡ k = cc in (bytes_eq-Decides w (kind_word j)).0 same ∙ ap kind_word is)
      (λ _. later)

  pub kind_said : kind_in w ≡ Some k → w ≡ kind_word k
  kind_said e =
      one_kind kind.Attr _ (one_kind kind.Right _ (one_kind kind.Object _ (one_kind kind.Policy _ (one_kind kind.If _ (one_kind kind.Do _ (one_kind kind.Query None (λ no. cc))))))) e

-- names by their numbers

abbrev Found : ℕ → List ℕ → List (List ℕ) → Option ℕ → Type 0
Found k n ns o = (j : ℕ) × ((o ≡ Some (k + j)) × (name_at ns j ≡ n))

found_first : (k : ℕ) (n m : List ℕ) (ns : List (List ℕ)) (r : Option ℕ) (b : Bool) → bytes_eq m n ≡ b → (is_some r ≡ true → Found (k + 1) n ns r) → is_some (cond b (Some k) r) ≡ true → Found k n (m ∷ ns) (cond b (Some k) r)
found_first k n m ns r true same later h = (0, (ap Some (sym (add-zero k)), (bytes_eq-Decides m n).0 same))
found_first k n m ns r false same later h =
    let (j, (is, there)) = later h in
    let on : k + 1 + j ≡ k + suc j = omega arith in
    (suc j, (is ∙ ap Some on, there))

found_at : (k : ℕ) (n : List ℕ) (ns : List (List ℕ)) → is_some (index_from k n ns) ≡ true → Found k n ns (index_from k n ns)
found_at k n [] h = absurd (false≢true h)
found_at k n (m ∷ ns) h = found_first k n m ns (index_from (k + 1) n ns) (bytes_eq m n) refl (found_at (k + 1) n ns) h

pub named_again : (n : List ℕ) (ns : List (List ℕ)) → is_some (index_of n ns) ≡ true → name_at ns (d.number_among n ns) ≡ n
named_again n ns h =
    let (j, (is, there)) = found_at 0 n ns h in
    ap (λ o. name_at ns (unwrap_or o 0)) is ∙ ap (name_at ns) (zero-add j) ∙ there

-- what a word stands for, by its form

pub amount_said : (w : PlainWord) (f : Form) → form_of w.bytes ≡ f → fits role.Amount f ≡ true → decimal (d.number_in w) ≡ w.bytes
amount_said w (number n) is h = rw is (number_spelled w.bytes n (number_read w.bytes n is))
amount_said w (name b) is h = absurd (false≢true h)
amount_said w (term p a) is h = absurd (false≢true h)
amount_said w (operator o) is h = absurd (false≢true h)
amount_said w other is h = absurd (false≢true h)

pub value_said : (w : PlainWord) (f : Form) → form_of w.bytes ≡ f → fits role.Value f ≡ true → value_word (d.value_in w) ≡ w.bytes
value_said w (number n) is h = rw is (number_spelled w.bytes n (number_read w.bytes n is))
value_said w (operator Dash) is h = rw is (operator_read Dash w.bytes is)
value_said w (operator (Compare c)) is h = absurd (false≢true h)
value_said w (name b) is h = absurd (false≢true h)
value_said w (term p a) is h = absurd (false≢true h)
value_said w other is h = absurd (false≢true h)

pub comparison_said : (w : PlainWord) (f : Form) → form_of w.bytes ≡ f → fits role.Comparison f ≡ true → comparison_word (d.comparison_in w) ≡ w.bytes
comparison_said w (operator (Compare c)) is h = rw is (operator_read (Compare c) w.bytes is)
comparison_said w (operator Dash) is h = absurd (false≢true h)
comparison_said w (name b) is h = absurd (false≢true h)
comparison_said w (number n) is h = absurd (false≢true h)
comparison_said w (term p a) is h = absurd (false≢true h)
comparison_said w other is h = absurd (false≢true h)

pub party_said : (w : PlainWord) → fits (role.Key test.Party) (form_of w.bytes) ≡ true → party_word (d.party_in w) ≡ w.bytes
party_said w = either_key w (codes "s") (codes "o") _ (λ is. rw is refl) (λ is. rw is refl)

module _ (m : SchemeModel) where
  abbrev names : List (List ℕ)
  names = attribute_names m

  attribute_again : (w : PlainWord) (p : Party) (a : List ℕ) → form_of w.bytes ≡ term p a → term_form_check m w (term p a) ≡ Ok tt → term_word m p (d.number_among a names) ≡ w.bytes
  attribute_again w p a is known = ap (λ x. party_word p ++ codes "." ++ x) (named_again a names (test_passed (is_some (index_of a names)) (Ok tt) _ tt known).0) ∙ term_read w.bytes p a is

  pub term_said : (w : PlainWord) (f : Form) → form_of w.bytes ≡ f → fits (role.Term Nothing) f ≡ true → term_form_check m w f ≡ Ok tt → term_word m (d.term_in m w).party (d.term_in m w).attribute ≡ w.bytes
  term_said w (term p a) is h known = rw is (attribute_again w p a is known)
  term_said w (name b) is h known = absurd (false≢true h)
  term_said w (number n) is h known = absurd (false≢true h)
  term_said w (operator o) is h known = absurd (false≢true h)
  term_said w other is h known = absurd (false≢true h)

  pub operand_said : (w : PlainWord) (f : Form) → form_of w.bytes ≡ f → fits (role.Term Number) f ≡ true → term_form_check m w f ≡ Ok tt → operand_word m (d.operand_in m w) ≡ w.bytes
  operand_said w (number n) is h known = rw is (number_spelled w.bytes n (number_read w.bytes n is))
  operand_said w (term Subject a) is h known = rw is (attribute_again w Subject a is known)
  operand_said w (term Object a) is h known = rw is (attribute_again w Object a is known)
  operand_said w (name b) is h known = absurd (false≢true h)
  operand_said w (operator o) is h known = absurd (false≢true h)
  operand_said w other is h known = absurd (false≢true h)

  module _ (t : Term) where
    abbrev to_words : List ℕ → List (List ℕ)
    to_words b = codes "do" ∷ term_word m t.party t.attribute ∷ codes "to" ∷ b ∷ []

    pub source_said : (w : PlainWord) (f : Form) → form_of w.bytes ≡ f → fits (role.Term NumberOrDash) f ≡ true → term_form_check m w f ≡ Ok tt → action_words m (d.source_in m t w) ≡ to_words w.bytes
    source_said w (number n) is h known = rw is (ap to_words (number_spelled w.bytes n (number_read w.bytes n is)))
    source_said w (term Subject a) is h known = rw is (ap to_words (attribute_again w Subject a is known))
    source_said w (term Object a) is h known = rw is (ap to_words (attribute_again w Object a is known))
    source_said w (operator Dash) is h known = rw is (ap to_words (operator_read Dash w.bytes is))
    source_said w (operator (Compare c)) is h known = absurd (false≢true h)
    source_said w (name b) is h known = absurd (false≢true h)
    source_said w other is h known = absurd (false≢true h)

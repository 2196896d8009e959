-- The forms of the words of a written text, and the numbers that its names have.
use Rattle.std.proofs.Common.{◌≡◌, ℕ, zero, suc, ◌+◌, ◌<◌, ◌≤◌, Bool, true, false, not, ◌&&◌, eqb, ltb, leb, List, [], ◌∷◌, ◌++◌, length, Some, None, Option, codes, decimal, bytes_eq, sym, refl, ap, ◌∙◌, arith}
use Rattle.std.specs.Fmt.{digits}
use Rattle.std.specs.List.{list_all}
use Rattle.std.proofs.lemmas.Bool.Decides.{nat_tests}
use Rattle.std.proofs.lemmas.Slice.Eq.{bytes_eq-Decides}
use Rattle.std.proofs.lemmas.Bool.{false≢true, and_parts, and_from, and_right, not-true, cond-true, cond-false, eqb-true, leb-true, le-leb, lt-ltb, agree_below_at, false_from_ne_true}
use Rattle.scheme.specs.declared.terms.Party.{Party}
use Rattle.scheme.specs.declared.terms.Party.TheVariants.{Subject, Object}
use Rattle.scheme.specs.declared.terms.Comparison.{Comparison}
use Rattle.scheme.specs.declared.terms.Comparison.TheVariants.{Equal, NotEqual, Less, AtMost, Greater, AtLeast}
use Rattle.scheme.specs.Names.{index_from, index_of}
use Rattle.words.specs.declared.token.Operator.TheVariants.{Compare}
use Rattle.words.specs.Forms.{lower, name_byte, is_name, number_in, term_in, operator_in}
use Rattle.words.specs.Tokens.{name, number, term, operator, operator_form, term_form, number_form, form_of}
use Rattle.words.proofs.Lengths.{name_short}
use Rattle.text.specs.Writing.{name_at, party_word, comparison_word, NamesFit}
use Rattle.text.proofs.WritingCut.{inked, Inked, inked_word, spelled}

-- names

pub name_form : (w : List ℕ) → is_name w ≡ true → form_of w ≡ name w
name_form w h = cond-true (is_name w) _ _ h

ink : (b : ℕ) → 32 < b → b ≤ 126 → inked b ≡ true
ink b low high = and_from (ltb 32 b) (leb b 126) (lt-ltb 32 b low) (le-leb b 126 high)

name_bytes_inked : (bs : List ℕ) → list_all name_byte bs ≡ true → list_all inked bs ≡ true
name_bytes_inked [] h = refl
name_bytes_inked (b ∷ bs) h =
    let parts = and_parts (name_byte b) (list_all name_byte bs) h in
    and_from (inked b) (list_all inked bs) (byte b parts.0) (name_bytes_inked bs parts.1)
  where
    byte : (b : ℕ) → name_byte b ≡ true → inked b ≡ true
    byte b h = grind (arith, nat_tests)

pub name_inked : (w : List ℕ) → is_name w ≡ true → Inked w
name_inked [] h = absurd (false≢true h)
name_inked (b ∷ bs) h =
    let parts = and_parts (lower b) (leb (length bs) 14 && list_all name_byte bs) h in
    let rest = and_parts (leb (length bs) 14) (list_all name_byte bs) parts.1 in
    let first = and_parts (leb 97 b) (leb b 122) parts.0 in
    let low = leb-true 97 b first.0 in
    let high = leb-true b 122 first.1 in
    let few = leb-true (length bs) 14 rest.0 in
    record {
      some = omega arith;
      short = omega arith;
      bytes = and_from (inked b) (list_all inked bs) (ink b (omega arith) (omega arith)) (name_bytes_inked bs rest.1);
    }

-- numbers

says : ℕ → Option ℕ → Bool
says n None = false
says n (Some k) = eqb k n

written_as : ℕ → List ℕ → Bool
written_as n w = (not (is_name w) && says n (number_in w)) && inked_word w

all_written : (n : ℕ) → n ≤ 255 → written_as n (decimal n) ≡ true
unfolding written_as says digits
all_written n h = agree_below_at (λ k. written_as k (decimal k)) (λ k. true) 256 n refl (omega arith)

said : (n : ℕ) (o : Option ℕ) → says n o ≡ true → o ≡ Some n
unfolding says
said n None h = absurd (false≢true h)
said n (Some k) h = ap Some (eqb-true k n h)

number_is : (n : ℕ) (w : List ℕ) → written_as n w ≡ true → (form_of w ≡ number n) × Inked w
unfolding written_as
number_is n w h =
    let parts = and_parts (not (is_name w) && says n (number_in w)) (inked_word w) h in
    let value = and_parts (not (is_name w)) (says n (number_in w)) parts.0 in (
      cond-false (is_name w) _ _ (not-true (is_name w) value.0) ∙ ap (λ o. number_form o (term_form (term_in w) (operator_form (operator_in w)))) (said n (number_in w) value.1),
      spelled w parts.1,
    )

pub decimal_form : (n : ℕ) → n ≤ 255 → form_of (decimal n) ≡ number n
decimal_form n h = (number_is n (decimal n) (all_written n h)).0

pub decimal_inked : (n : ℕ) → n ≤ 255 → Inked (decimal n)
decimal_inked n h = (number_is n (decimal n) (all_written n h)).1

-- terms

term_is : (w : List ℕ) (p : Party) (a : List ℕ) → is_name w ≡ false → number_in w ≡ None → term_in w ≡ Some (p, a) → form_of w ≡ term p a
term_is w p a no_name no_number is =
    cond-false (is_name w) _ _ no_name
    ∙ ap (λ o. number_form o (term_form (term_in w) (operator_form (operator_in w)))) no_number
    ∙ ap (λ o. term_form o (operator_form (operator_in w))) is

dotted_number : (p : Party) (a : List ℕ) → is_name a ≡ true → number_in (party_word p ++ codes "." ++ a) ≡ None
dotted_number p [] h = absurd (false≢true h)
dotted_number Subject (c ∷ []) h = refl
dotted_number Object (c ∷ []) h = refl
dotted_number Subject (c ∷ d ∷ ds) h = refl
dotted_number Object (c ∷ d ∷ ds) h = refl

dotted_name : (p : Party) (a : List ℕ) → is_name (party_word p ++ codes "." ++ a) ≡ false
dotted_name Subject a = and_right (leb (suc (length a)) 14) false refl
dotted_name Object a = and_right (leb (suc (length a)) 14) false refl

dotted_term : (p : Party) (a : List ℕ) → is_name a ≡ true → term_in (party_word p ++ codes "." ++ a) ≡ Some (p, a)
dotted_term Subject a h = cond-true (is_name a) (Some (Subject, a)) None h
dotted_term Object a h = cond-true (is_name a) (Some (Object, a)) None h

pub term_form_of : (p : Party) (a : List ℕ) → is_name a ≡ true → form_of (party_word p ++ codes "." ++ a) ≡ term p a
term_form_of p a h = term_is (party_word p ++ codes "." ++ a) p a (dotted_name p a) (dotted_number p a h) (dotted_term p a h)

pub term_inked : (p : Party) (a : List ℕ) → is_name a ≡ true → Inked (party_word p ++ codes "." ++ a)
term_inked Subject a h = let short = name_short a a (sym (name_form a h)) in record { some = omega arith; short = omega arith; bytes = (name_inked a h).bytes }
term_inked Object a h = let short = name_short a a (sym (name_form a h)) in record { some = omega arith; short = omega arith; bytes = (name_inked a h).bytes }

-- signs

pub comparison_form_of : (c : Comparison) → form_of (comparison_word c) ≡ operator (Compare c)
comparison_form_of Equal = refl
comparison_form_of NotEqual = refl
comparison_form_of Less = refl
comparison_form_of AtMost = refl
comparison_form_of Greater = refl
comparison_form_of AtLeast = refl

pub comparison_inked : (c : Comparison) → Inked (comparison_word c)
comparison_inked Equal = spelled (comparison_word Equal) refl
comparison_inked NotEqual = spelled (comparison_word NotEqual) refl
comparison_inked Less = spelled (comparison_word Less) refl
comparison_inked AtMost = spelled (comparison_word AtMost) refl
comparison_inked Greater = spelled (comparison_word Greater) refl
comparison_inked AtLeast = spelled (comparison_word AtLeast) refl

-- the number of a name

same : (a : List ℕ) → bytes_eq a a ≡ true
same a = (bytes_eq-Decides a a).1 refl

differ : (a b : List ℕ) → (a ≡ b → ⊥) → bytes_eq a b ≡ false
differ a b h = false_from_ne_true (bytes_eq a b) (λ t. h ((bytes_eq-Decides a b).0 t))

found_from : (k : ℕ) (n : List ℕ) (ns : List (List ℕ)) (i : ℕ) → i < length ns → name_at ns i ≡ n → ((j : ℕ) → j < i → name_at ns j ≡ n → ⊥) → index_from k n ns ≡ Some (k + i)
found_from k n [] i less is before = absurd (omega arith)
found_from k n (m ∷ ms) zero less is before = cond-true (bytes_eq m n) _ _ (ap (bytes_eq m) (sym is) ∙ same m) ∙ ap Some (omega arith)
found_from k n (m ∷ ms) (suc i) less is before =
    let at : k + 1 + i ≡ k + suc i = omega arith in
    cond-false (bytes_eq m n) _ _ (differ m n (before 0 (omega arith)))
    ∙ found_from (k + 1) n ms i (omega arith) is (λ j h. before (suc j) (omega arith))
    ∙ ap Some at

missing_from : (k : ℕ) (n : List ℕ) (ns : List (List ℕ)) → ((j : ℕ) → j < length ns → name_at ns j ≡ n → ⊥) → index_from k n ns ≡ None
missing_from k n [] none = refl
missing_from k n (m ∷ ms) none =
    cond-false (bytes_eq m n) _ _ (differ m n (none 0 (omega arith)))
    ∙ missing_from (k + 1) n ms (λ j h. none (suc j) (omega arith))

pub found : (ns : List (List ℕ)) (i : ℕ) → NamesFit ns → i < length ns → index_of (name_at ns i) ns ≡ Some i
found ns i fit less =
    let zero_on : 0 + i ≡ i = omega arith in
    found_from 0 (name_at ns i) ns i less refl (λ j h e. let one = fit.distinct j i (omega arith) less e in omega arith) ∙ ap Some zero_on

pub missing : (n : List ℕ) (ns : List (List ℕ)) → ((j : ℕ) → j < length ns → name_at ns j ≡ n → ⊥) → index_of n ns ≡ None
missing n ns none = missing_from 0 n ns none

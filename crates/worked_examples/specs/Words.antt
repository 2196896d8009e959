-- Worked examples of the forms of words: each is a name, a number, a term, an operator, or of no
-- form that a line allows.
use Rattle.std.specs.Prelude.{◌≡◌, ℕ, List, [], ◌∷◌, map, filter, codes, decimal}
use Rattle.std.specs.List.{range_with_len}
use Rattle.scheme.specs.declared.terms.Party.{Party}
use Rattle.scheme.specs.declared.terms.Party.TheVariants.{Subject, Object}
use Rattle.scheme.specs.declared.terms.Comparison.{Comparison}
use Rattle.scheme.specs.declared.terms.Comparison.TheVariants.{Equal, NotEqual, Less, AtMost, Greater, AtLeast}
use Rattle.words.specs.declared.token.Operator.TheVariants.{Compare, Dash}
use Rattle.words.specs.Forms.{is_name}
use Rattle.words.specs.Tokens.{name, number, term, operator, other, form_of}

-- each of the words is a name; each of them has no form that a line allows
abbrev pub AreNames : List (List ℕ) → Type 0
AreNames words = map form_of words ≡ map name words

abbrev pub AreOther : List (List ℕ) → Type 0
AreOther words = map form_of words ≡ map (λ w. other) words

-- the word is a term of this party, with the name of an attribute
abbrev pub IsTerm : List ℕ → Party → List ℕ → Type 0
IsTerm word party attribute = form_of word ≡ term party attribute

abbrev pub Compares : List ℕ → Comparison → Type 0
Compares word c = form_of word ≡ operator (Compare c)

-- every byte
abbrev pub bytes : List ℕ
bytes = range_with_len 0 256

-- 0 to 9, _, a to z
abbrev pub name_bytes : List ℕ
name_bytes = codes "0123456789_abcdefghijklmnopqrstuvwxyz"

pub record Words : Type 0 where
  -- a name begins with a letter; behind it letters, digits and _ may stand
  pub first_of_name : filter (λ b. is_name (b ∷ [])) bytes ≡ codes "abcdefghijklmnopqrstuvwxyz"
  pub next_of_name : filter (λ b. is_name (97 ∷ b ∷ [])) bytes ≡ name_bytes
  pub later_in_name : filter (λ b. is_name (97 ∷ 57 ∷ b ∷ [])) bytes ≡ name_bytes
  pub names : AreNames (codes "a" ∷ codes "ann" ∷ codes "a_9" ∷ codes "a0__z" ∷ codes "m1" ∷ [])
  pub no_names : AreOther (codes "aB" ∷ codes "9a" ∷ codes "_a" ∷ codes "Ann" ∷ codes "a-b"
      ∷ codes "a.b" ∷ [])
  -- it has at most 15 bytes
  pub name_of_15 : AreNames (codes "abcdefghijklmno" ∷ [])
  pub name_of_16 : AreOther (codes "abcdefghijklmnop" ∷ codes "abcdefghijklmnopq" ∷ [])
  -- key words are names by their form
  pub key_words : AreNames (codes "attr" ∷ codes "null" ∷ codes "to" ∷ codes "s" ∷ codes "destroy"
      ∷ [])
  -- numbers go from 0 to 255, with no zero in front
  pub numbers : map form_of (map decimal bytes) ≡ map number bytes
  pub least_number : form_of (codes "0") ≡ number 0
  pub number_of_one_digit : form_of (codes "7") ≡ number 7
  pub number_of_two_digits : form_of (codes "10") ≡ number 10
  pub number_of_three_digits : form_of (codes "100") ≡ number 100
  pub greatest_number : form_of (codes "255") ≡ number 255
  pub no_numbers : AreOther (codes "256" ∷ codes "260" ∷ codes "300" ∷ codes "999" ∷ codes "1000"
      ∷ codes "2550" ∷ [])
  pub leading_zeros : AreOther (codes "00" ∷ codes "07" ∷ codes "000" ∷ codes "007" ∷ codes "010"
      ∷ codes "0255" ∷ [])
  pub no_digits : AreOther (codes "1a" ∷ codes "1_0" ∷ codes "+1" ∷ codes "-1" ∷ codes "1.0"
      ∷ codes "0x1" ∷ [])
  -- a term is `s.` or `o.` and a name
  pub term_of_subject : IsTerm (codes "s.a") Subject (codes "a")
  pub term_of_object : IsTerm (codes "o.a") Object (codes "a")
  pub long_term : IsTerm (codes "o.abcdefghijklmno") Object (codes "abcdefghijklmno")
  pub longer_term : AreOther (codes "s.abcdefghijklmnop" ∷ [])
  pub no_party : AreOther (codes "x.a" ∷ codes "p.a" ∷ codes "t.a" ∷ codes "S.a" ∷ codes "O.a"
      ∷ codes ".a" ∷ codes "so.a" ∷ [])
  pub no_attribute : AreOther (codes "s." ∷ codes "o." ∷ codes "s.A" ∷ codes "s.9" ∷ codes "o._"
      ∷ codes "s.a.a" ∷ [])
  pub no_dot : AreOther (codes "s:a" ∷ codes "s-a" ∷ codes "o/a" ∷ [])
  -- the six comparisons
  pub equal : Compares (codes "=") Equal
  pub not_equal : Compares (codes "!=") NotEqual
  pub less : Compares (codes "<") Less
  pub at_most : Compares (codes "<=") AtMost
  pub greater : Compares (codes ">") Greater
  pub at_least : Compares (codes ">=") AtLeast
  pub no_comparisons : AreOther (codes "==" ∷ codes "=<" ∷ codes "=>" ∷ codes "<>" ∷ codes "!"
      ∷ codes "=!" ∷ codes "<<" ∷ codes "<==" ∷ [])
  pub dash : form_of (codes "-") ≡ operator Dash
  pub no_dash : AreOther (codes "--" ∷ codes "-=" ∷ codes "+" ∷ codes "." ∷ [])

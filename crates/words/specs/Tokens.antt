-- A word by its form, and the token that the code makes of it.
use Rattle.std.specs.Prelude.{ℕ, cond, List, Some, None, Option}
use Rattle.std.specs.Borrow.{Bor}
use Rattle.scheme.specs.declared.terms.Party.{Party}
use Rattle.words.specs.declared.token.Operator.{Operator}
use Rattle.words.specs.declared.token.Token.{Token}
use Rattle.words.specs.declared.token.Token.TheVariants as token
use Rattle.words.specs.Forms.{is_name, number_in, term_in, operator_in}
use Rattle.words.specs.Positions.{PlainWord, word_of}

pub data Form : Type 0 where
  name : List ℕ → Form
  number : ℕ → Form
  term : Party → List ℕ → Form
  operator : Operator → Form
  other : Form

abbrev pub term_of : Party × Bor (List ℕ) → Party × List ℕ
term_of t = (t.0, t.1.now)

-- the parts of the definition below, one for each form that a word may lack
abbrev pub operator_form : Option Operator → Form
operator_form None = other
operator_form (Some o) = operator o

abbrev pub term_form : Option (Party × List ℕ) → Form → Form
term_form None f = f
term_form (Some t) f = term t.0 t.1

abbrev pub number_form : Option ℕ → Form → Form
number_form None f = f
number_form (Some n) f = number n

-- the forms exclude one another, so their order says nothing
abbrev pub form_of : List ℕ → Form
form_of w = cond (is_name w) (name w) (number_form (number_in w) (term_form (term_in w) (operator_form (operator_in w))))

abbrev pub token_form : Token → Form
token_form (token.Name w) = name w.bytes.now
token_form (token.Number w n) = number n
token_form (token.Term w p a) = term p a.now
token_form (token.Operator w o) = operator o
token_form (token.Other w) = other

abbrev pub token_word : Token → PlainWord
token_word (token.Name w) = word_of w
token_word (token.Number w n) = word_of w
token_word (token.Term w p a) = word_of w
token_word (token.Operator w o) = word_of w
token_word (token.Other w) = word_of w

-- A word that is a name has at most 15 bytes.
use Rattle.std.proofs.Common.{◌≡◌, ℕ, ◌≤◌, Bool, true, false, cond, List, [], ◌∷◌, length, Some, None, Option, refl, ap, arith}
use Rattle.std.proofs.lemmas.Bool.Decides.{nat_tests}
use Rattle.scheme.specs.declared.terms.Party.{Party}
use Rattle.words.specs.declared.token.Operator.{Operator}
use Rattle.words.specs.Forms.{is_name, number_in, term_in, operator_in}
use Rattle.words.specs.Tokens.{Form, name, operator_form, term_form, number_form, form_of}

is_name_short : (w : List ℕ) → is_name w ≡ true → length w ≤ 15
is_name_short [] h = omega arith
is_name_short (b ∷ bs) h = grind (arith, nat_tests)

no_name : (b : List ℕ) (n : Option ℕ) (t : Option (Party × List ℕ)) (o : Option Operator) → name b ≡ number_form n (term_form t (operator_form o)) → ⊥
no_name b (Some n) t o e = grind arith
no_name b None (Some t) o e = grind arith
no_name b None None (Some o) e = grind arith
no_name b None None None e = grind arith

named : (t : Bool) (w b : List ℕ) (f : Form) → (name b ≡ f → ⊥) → name b ≡ cond t (name w) f → (t ≡ true) × (b ≡ w)
named true w b f no-f e = (refl, cc)
named false w b f no-f e = absurd (no-f e)

pub name_is : (w b : List ℕ) → name b ≡ form_of w → (is_name w ≡ true) × (b ≡ w)
name_is w b e = named (is_name w) w b _ (no_name b (number_in w) (term_in w) (operator_in w)) e

pub name_short : (w b : List ℕ) → name b ≡ form_of w → length b ≤ 15
name_short w b e = let is = name_is w b e in omega (arith, is_name_short w is.0, ap length is.1)

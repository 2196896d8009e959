-- What each word of a line is, and the forms that it may have there.
use Rattle.std.specs.Prelude.{ℕ, Bool, true, false, cond, ◌||◌, List, length, codes, ◌==◌}
use Rattle.std.specs.Str.{bytes_eq}
use Rattle.words.specs.declared.token.Operator.TheVariants.{Compare, Dash}
use Rattle.words.specs.Positions.{PlainWord, word_in}
use Rattle.words.specs.Tokens.{Form, name, number, term, operator, other}
use Rattle.scheme.specs.declared.kind.Kind.{Kind}
use Rattle.scheme.specs.declared.kind.Kind.TheVariants as kind
use Rattle.lines.specs.declared.role.Role.{Role}
use Rattle.lines.specs.declared.role.Role.TheVariants as role
use Rattle.lines.specs.declared.role.Instead.{Instead}
use Rattle.lines.specs.declared.role.Instead.TheVariants.{Nothing, Number, NumberOrDash}
use Rattle.lines.specs.declared.role.Key.{Key}
use Rattle.lines.specs.declared.role.Key.TheVariants.{Test, Verb, Destroy, Party}

-- `if` term `null` or `set`; `if` term comparison operand
abbrev pub if_role : ℕ → ℕ → Role
if_role count i = cond (i == 1) (role.Term Nothing) (cond (count == 3) (role.Key Test) (cond (i == 2) role.Comparison (role.Term Number)))

-- `do destroy` party; `do` term `to` source; `do` term `add` or `sub` amount
abbrev pub do_role : List ℕ → ℕ → ℕ → Role
do_role verb count i =
    cond (count == 3)
    (cond (i == 1) (role.Key Destroy) (role.Key Party))
    (cond (i == 1) (role.Term Nothing)
    (cond (i == 2) (role.Key Verb)
    (cond (bytes_eq verb (codes "to")) (role.Term NumberOrDash) role.Amount)))

-- the role of the word at index i, from 1, in a line of this kind with these words
abbrev pub role_at : Kind → List PlainWord → ℕ → Role
role_at kind.Attr ws i = cond (i == 1) role.NewName role.Size
role_at kind.Right ws i = role.NewName
role_at kind.Object ws i = cond (i == 1) role.NewName role.Value
role_at kind.Policy ws i = cond (i == 1) role.NewName (role.Known kind.Right)
role_at kind.If ws i = if_role (length ws) i
role_at kind.Do ws i = do_role (word_in ws 2).bytes (length ws) i
role_at kind.Query ws i = cond (i == 3) (role.Known kind.Right) (role.Known kind.Object)

abbrev pub a_name : Form → Bool
a_name (name b) = true
a_name (number n) = false
a_name (term p a) = false
a_name (operator o) = false
a_name other = false

abbrev pub a_number : Form → Bool
a_number (name b) = false
a_number (number n) = true
a_number (term p a) = false
a_number (operator o) = false
a_number other = false

abbrev pub a_term : Form → Bool
a_term (name b) = false
a_term (number n) = false
a_term (term p a) = true
a_term (operator o) = false
a_term other = false

abbrev pub a_comparison : Form → Bool
a_comparison (name b) = false
a_comparison (number n) = false
a_comparison (term p a) = false
a_comparison (operator (Compare c)) = true
a_comparison (operator Dash) = false
a_comparison other = false

abbrev pub a_dash : Form → Bool
a_dash (name b) = false
a_dash (number n) = false
a_dash (term p a) = false
a_dash (operator (Compare c)) = false
a_dash (operator Dash) = true
a_dash other = false

-- a key word is a name by its form
abbrev pub a_word : List ℕ → Form → Bool
a_word w (name b) = bytes_eq b w
a_word w (number n) = false
a_word w (term p a) = false
a_word w (operator o) = false
a_word w other = false

abbrev pub instead_fits : Instead → Form → Bool
instead_fits Nothing f = false
instead_fits Number f = a_number f
instead_fits NumberOrDash f = a_number f || a_dash f

abbrev pub key_fits : Key → Form → Bool
key_fits Test f = a_word (codes "null") f || a_word (codes "set") f
key_fits Verb f = a_word (codes "to") f || (a_word (codes "add") f || a_word (codes "sub") f)
key_fits Destroy f = a_word (codes "destroy") f
key_fits Party f = a_word (codes "s") f || a_word (codes "o") f

-- the forms that a word of a role may have
abbrev pub fits : Role → Form → Bool
fits role.NewName f = a_name f
fits (role.Known n) f = a_name f
fits role.Size f = a_number f
fits role.Value f = a_number f || a_dash f
fits (role.Term instead) f = a_term f || instead_fits instead f
fits role.Comparison f = a_comparison f
fits role.Amount f = a_number f
fits (role.Key k) f = key_fits k f

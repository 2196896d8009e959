-- The names and values of a line against what the lines above declare.
use Rattle.std.specs.Prelude.{ℕ, ◌-◌, Bool, cond, ◌&&◌, List, map, is_some, Ok, Err, Result, ◌==◌, nat_le, nat_lt, slice_index}
use Rattle.scheme.specs.Names.{index_of}
use Rattle.scheme.specs.Models.{AttributeModel, SchemeModel, attribute_names, names_of, room_for}
use Rattle.words.specs.Outcomes.{in_turn}
use Rattle.words.specs.Positions.{PlainWord, spot_of, word_in}
use Rattle.words.specs.Tokens.{Form, name, number, term, operator, other, form_of}
use Rattle.scheme.specs.declared.kind.Kind.{Kind}
use Rattle.lines.specs.declared.role.Role.{Role}
use Rattle.lines.specs.declared.role.Role.TheVariants as role
use Rattle.text.specs.declared.fault.SchemeFault.{SchemeFault}
use Rattle.text.specs.declared.fault.SchemeFault.TheVariants.{Used, Undefined, Range, Most}
use Rattle.lines.specs.Roles.{role_at}

-- a line more of its kind is not above the most
abbrev pub under_most : Kind → SchemeModel → List PlainWord → Result (Unit {0}) SchemeFault
under_most k m ws = cond (room_for k m) (Ok tt) (Err (Most (spot_of (word_in ws 0))))

-- the size of an attribute; 0 where there is no such attribute
unfoldable pub size_at : SchemeModel → ℕ → ℕ
size_at m i = slice_index (map (λ (a : AttributeModel). a.size) m.attributes) i

-- a new name is not yet used in its kind
abbrev pub new_check : SchemeModel → Kind → PlainWord → Result (Unit {0}) SchemeFault
new_check m k w = cond (is_some (index_of w.bytes (names_of k m))) (Err (Used (spot_of w))) (Ok tt)

-- the name of an entry is declared above
abbrev pub known_check : SchemeModel → Kind → PlainWord → Result (Unit {0}) SchemeFault
known_check m k w = cond (is_some (index_of w.bytes (names_of k m))) (Ok tt) (Err (Undefined (spot_of w)))

-- a term names an attribute that is declared above
abbrev pub term_form_check : SchemeModel → PlainWord → Form → Result (Unit {0}) SchemeFault
term_form_check m w (name b) = Ok tt
term_form_check m w (number n) = Ok tt
term_form_check m w (term p a) = cond (is_some (index_of a (attribute_names m))) (Ok tt) (Err (Undefined (spot_of w)))
term_form_check m w (operator o) = Ok tt
term_form_check m w other = Ok tt

abbrev pub term_check : SchemeModel → PlainWord → Result (Unit {0}) SchemeFault
term_check m w = term_form_check m w (form_of w.bytes)

-- a number is one that is allowed
abbrev pub number_check : (ℕ → Bool) → PlainWord → Form → Result (Unit {0}) SchemeFault
number_check allowed w (name b) = Ok tt
number_check allowed w (number n) = cond (allowed n) (Ok tt) (Err (Range (spot_of w)))
number_check allowed w (term p a) = Ok tt
number_check allowed w (operator o) = Ok tt
number_check allowed w other = Ok tt

-- a size is 1 to 250
abbrev pub size_check : PlainWord → Result (Unit {0}) SchemeFault
size_check w = number_check (λ n. nat_le 1 n && nat_le n 250) w (form_of w.bytes)

-- an object's value is below the size of its attribute
abbrev pub value_check : ℕ → PlainWord → Result (Unit {0}) SchemeFault
value_check size w = number_check (λ n. nat_lt n size) w (form_of w.bytes)

-- the values of an object line begin at index 2
abbrev pub role_check : SchemeModel → Kind → ℕ → PlainWord → Role → Result (Unit {0}) SchemeFault
role_check m k i w role.NewName = new_check m k w
role_check m k i w (role.Known of) = known_check m of w
role_check m k i w role.Size = size_check w
role_check m k i w role.Value = value_check (size_at m (i - 2)) w
role_check m k i w (role.Term instead) = term_check m w
role_check m k i w role.Comparison = Ok tt
role_check m k i w role.Amount = Ok tt
role_check m k i w (role.Key key) = Ok tt

abbrev pub name_check : SchemeModel → Kind → List PlainWord → ℕ → PlainWord → Result (Unit {0}) SchemeFault
name_check m k ws i w = cond (i == 0) (Ok tt) (role_check m k i w (role_at k ws i))

-- each word behind the first, from the left
abbrev pub right_names : SchemeModel → Kind → List PlainWord → Result (Unit {0}) SchemeFault
right_names m k ws = in_turn (name_check m k ws) 0 ws

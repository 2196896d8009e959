-- What a line without a fault declares. A word of a form that its place does not allow stands for a
-- name, a number or a term all the same, so that these definitions need no premise; no such line is
-- read.
use Rattle.std.specs.Prelude.{ℕ, ◌+◌, cond, List, [], ◌∷◌, ◌++◌, length, Some, None, codes, Option, ◌==◌}
use Rattle.std.specs.Option.{unwrap_or}
use Rattle.std.specs.Str.{bytes_eq}
use Rattle.scheme.specs.declared.kind.Kind.{Kind}
use Rattle.scheme.specs.declared.kind.Kind.TheVariants as kind
use Rattle.scheme.specs.declared.terms.Party.{Party}
use Rattle.scheme.specs.declared.terms.Party.TheVariants.{Subject, Object}
use Rattle.scheme.specs.declared.terms.Term.{Term}
use Rattle.scheme.specs.declared.terms.Comparison.{Comparison}
use Rattle.scheme.specs.declared.terms.Comparison.TheVariants.{Equal}
use Rattle.scheme.specs.declared.terms.Operand.{Operand}
use Rattle.scheme.specs.declared.terms.Operand.TheVariants.{SubjectAttribute, ObjectAttribute, Constant}
use Rattle.scheme.specs.declared.terms.Predicate.{Predicate}
use Rattle.scheme.specs.declared.terms.Predicate.TheVariants.{Null, Set, Compare}
use Rattle.scheme.specs.declared.terms.Action.{Action}
use Rattle.scheme.specs.declared.terms.Action.TheVariants.{Assign, Clear, Add, Sub, Destroy}
use Rattle.scheme.specs.declared.terms.Clause.TheVariants as clause
use Rattle.scheme.specs.declared.entries.Query.{Query}
use Rattle.scheme.specs.Names.{index_of}
use Rattle.scheme.specs.Models.{AttributeModel, ObjectModel, SchemeModel, attribute_names, object_names, with_attribute, with_right, with_object, with_policies, with_query, opened, last_filled}
use Rattle.words.specs.declared.token.Operator.TheVariants as operators
use Rattle.words.specs.Positions.{PlainWord, word_in}
use Rattle.words.specs.Tokens.{Form, name, number, term, operator, other, form_of}

abbrev pub name_form : Form → List ℕ
name_form (name b) = b
name_form (number n) = []
name_form (term p a) = []
name_form (operator o) = []
name_form other = []

abbrev pub name_in : PlainWord → List ℕ
name_in w = name_form (form_of w.bytes)

abbrev pub value_form : Form → Option ℕ
value_form (name b) = None
value_form (number n) = Some n
value_form (term p a) = None
value_form (operator o) = None
value_form other = None

-- a number, or null
abbrev pub value_in : PlainWord → Option ℕ
value_in w = value_form (form_of w.bytes)

abbrev pub number_in : PlainWord → ℕ
number_in w = unwrap_or (value_in w) 0

-- the number of a name among the names of its kind
abbrev pub number_among : List ℕ → List (List ℕ) → ℕ
number_among n names = unwrap_or (index_of n names) 0

abbrev term_form : SchemeModel → Form → Term
term_form m (name b) = record { party = Subject; attribute = 0 }
term_form m (number n) = record { party = Subject; attribute = 0 }
term_form m (term p a) = record { party = p; attribute = number_among a (attribute_names m) }
term_form m (operator o) = record { party = Subject; attribute = 0 }
term_form m other = record { party = Subject; attribute = 0 }

abbrev pub term_in : SchemeModel → PlainWord → Term
term_in m w = term_form m (form_of w.bytes)

abbrev operand_form : SchemeModel → Form → Operand
operand_form m (name b) = Constant 0
operand_form m (number n) = Constant n
operand_form m (term Subject a) = SubjectAttribute (number_among a (attribute_names m))
operand_form m (term Object a) = ObjectAttribute (number_among a (attribute_names m))
operand_form m (operator o) = Constant 0
operand_form m other = Constant 0

abbrev pub operand_in : SchemeModel → PlainWord → Operand
operand_in m w = operand_form m (form_of w.bytes)

abbrev comparison_form : Form → Comparison
comparison_form (name b) = Equal
comparison_form (number n) = Equal
comparison_form (term p a) = Equal
comparison_form (operator (operators.Compare c)) = c
comparison_form (operator operators.Dash) = Equal
comparison_form other = Equal

abbrev pub comparison_in : PlainWord → Comparison
comparison_in w = comparison_form (form_of w.bytes)

abbrev pub party_in : PlainWord → Party
party_in w = cond (bytes_eq w.bytes (codes "s")) Subject Object

-- `attr` name size
abbrev pub attribute_in : List PlainWord → AttributeModel
attribute_in ws = record { name = name_in (word_in ws 1); size = number_in (word_in ws 2) }

-- a value for each attribute, from the word at index i on
abbrev pub values_at : ℕ → List AttributeModel → List PlainWord → List (Option ℕ)
values_at i [] ws = []
values_at i (a ∷ al) ws = value_in (word_in ws i) ∷ values_at (i + 1) al ws

-- `object` name value ..
abbrev pub object_in : SchemeModel → List PlainWord → ObjectModel
object_in m ws = record { name = name_in (word_in ws 1); values = values_at 2 m.attributes ws }

-- `if` term `null` or `set`
abbrev pub test_in : SchemeModel → List PlainWord → Predicate
test_in m ws = cond (bytes_eq (word_in ws 2).bytes (codes "null")) (Null (term_in m (word_in ws 1))) (Set (term_in m (word_in ws 1)))

-- `if` term comparison operand
abbrev pub compare_in : SchemeModel → List PlainWord → Predicate
compare_in m ws = Compare (term_in m (word_in ws 1)) (comparison_in (word_in ws 2)) (operand_in m (word_in ws 3))

abbrev pub predicate_in : SchemeModel → List PlainWord → Predicate
predicate_in m ws = cond (length ws == 3) (test_in m ws) (compare_in m ws)

abbrev source_form : SchemeModel → Term → Form → Action
source_form m t (name b) = Assign t (operand_form m (name b))
source_form m t (number n) = Assign t (operand_form m (number n))
source_form m t (term p a) = Assign t (operand_form m (term p a))
source_form m t (operator o) = Clear t
source_form m t other = Assign t (operand_form m other)

-- what `to` gives: null for `-`
abbrev pub source_in : SchemeModel → Term → PlainWord → Action
source_in m t w = source_form m t (form_of w.bytes)

-- `do destroy` party; `do` term `to` source; `do` term `add` or `sub` amount
abbrev pub action_in : SchemeModel → List PlainWord → Action
action_in m ws =
    cond (length ws == 3)
    (Destroy (party_in (word_in ws 2)))
    (cond (bytes_eq (word_in ws 2).bytes (codes "to"))
    (source_in m (term_in m (word_in ws 1)) (word_in ws 3))
    (cond (bytes_eq (word_in ws 2).bytes (codes "add"))
    (Add (term_in m (word_in ws 1)) (number_in (word_in ws 3)))
    (Sub (term_in m (word_in ws 1)) (number_in (word_in ws 3)))))

-- `query` subject object right
abbrev pub query_in : SchemeModel → List PlainWord → Query
query_in m ws = record {
  subject = number_among (word_in ws 1).bytes (object_names m);
  object = number_among (word_in ws 2).bytes (object_names m);
  right = number_among (word_in ws 3).bytes m.rights;
}

-- what a line of a kind adds
abbrev pub declared : Kind → List PlainWord → SchemeModel → SchemeModel
declared kind.Attr ws m = with_attribute (attribute_in ws) m
declared kind.Right ws m = with_right (name_in (word_in ws 1)) m
declared kind.Object ws m = with_object (object_in m ws) m
declared kind.Policy ws m = with_policies (m.policies ++ opened (name_in (word_in ws 1)) (number_among (word_in ws 2).bytes m.rights) ∷ []) m
declared kind.If ws m = with_policies (last_filled (clause.If (predicate_in m ws)) m.policies) m
declared kind.Do ws m = with_policies (last_filled (clause.Do (action_in m ws)) m.policies) m
declared kind.Query ws m = with_query (query_in m ws) m

-- The text that a scheme is written as, and the limits within which the format can write it.
use Rattle.std.specs.Prelude.{◌≡◌, ℕ, ◌<◌, ◌≤◌, ◌⊎◌, List, [], ◌∷◌, ◌++◌, map, length, Some, None, codes, decimal, All, Option, flat_map, slice_index, slice_index_or}
use Rattle.std.specs.List.{AllZip}
use Rattle.scheme.specs.declared.terms.Party.{Party}
use Rattle.scheme.specs.declared.terms.Party.TheVariants.{Subject, Object}
use Rattle.scheme.specs.declared.terms.Comparison.{Comparison}
use Rattle.scheme.specs.declared.terms.Comparison.TheVariants.{Equal, NotEqual, Less, AtMost, Greater, AtLeast}
use Rattle.scheme.specs.declared.terms.Operand.{Operand}
use Rattle.scheme.specs.declared.terms.Operand.TheVariants.{SubjectAttribute, ObjectAttribute, Constant}
use Rattle.scheme.specs.declared.terms.Predicate.{Predicate}
use Rattle.scheme.specs.declared.terms.Predicate.TheVariants.{Null, Set, Compare}
use Rattle.scheme.specs.declared.terms.Action.{Action}
use Rattle.scheme.specs.declared.terms.Action.TheVariants.{Assign, Clear, Add, Sub, Destroy}
use Rattle.scheme.specs.declared.entries.Query.{Query}
use Rattle.scheme.specs.Models.{AttributeModel, ObjectModel, PolicyModel, SchemeModel, attribute_names, object_names, policy_names}
use Rattle.scheme.specs.Counts.{state_count}
use Rattle.words.specs.Joining.{ended}

-- words parted by one space
abbrev pub parted : List (List ℕ) → List ℕ
parted [] = []
parted (w ∷ []) = w
parted (w ∷ v ∷ ws) = w ++ 32 ∷ parted (v ∷ ws)

-- the name that has a number
abbrev pub name_at : List (List ℕ) → ℕ → List ℕ
name_at names i = slice_index_or names i []

-- null is `-`
abbrev pub value_word : Option ℕ → List ℕ
value_word None = codes "-"
value_word (Some v) = decimal v

abbrev pub party_word : Party → List ℕ
party_word Subject = codes "s"
party_word Object = codes "o"

abbrev pub comparison_word : Comparison → List ℕ
comparison_word Equal = codes "="
comparison_word NotEqual = codes "!="
comparison_word Less = codes "<"
comparison_word AtMost = codes "<="
comparison_word Greater = codes ">"
comparison_word AtLeast = codes ">="

-- the words of each kind of line

abbrev pub attribute_words : AttributeModel → List (List ℕ)
attribute_words a = codes "attr" ∷ a.name ∷ decimal a.size ∷ []

abbrev pub right_words : List ℕ → List (List ℕ)
right_words name = codes "right" ∷ name ∷ []

abbrev pub object_words : ObjectModel → List (List ℕ)
object_words o = codes "object" ∷ o.name ∷ map value_word o.values

module _ (m : SchemeModel) where
  abbrev pub term_word : Party → ℕ → List ℕ
  term_word p a = party_word p ++ codes "." ++ name_at (attribute_names m) a

  abbrev pub operand_word : Operand → List ℕ
  operand_word (SubjectAttribute a) = term_word Subject a
  operand_word (ObjectAttribute a) = term_word Object a
  operand_word (Constant v) = decimal v

  abbrev pub predicate_words : Predicate → List (List ℕ)
  predicate_words (Null t) = codes "if" ∷ term_word t.party t.attribute ∷ codes "null" ∷ []
  predicate_words (Set t) = codes "if" ∷ term_word t.party t.attribute ∷ codes "set" ∷ []
  predicate_words (Compare t c o) = codes "if" ∷ term_word t.party t.attribute ∷ comparison_word c ∷ operand_word o ∷ []

  abbrev pub action_words : Action → List (List ℕ)
  action_words (Assign t o) = codes "do" ∷ term_word t.party t.attribute ∷ codes "to" ∷ operand_word o ∷ []
  action_words (Clear t) = codes "do" ∷ term_word t.party t.attribute ∷ codes "to" ∷ codes "-" ∷ []
  action_words (Add t v) = codes "do" ∷ term_word t.party t.attribute ∷ codes "add" ∷ decimal v ∷ []
  action_words (Sub t v) = codes "do" ∷ term_word t.party t.attribute ∷ codes "sub" ∷ decimal v ∷ []
  action_words (Destroy p) = codes "do" ∷ codes "destroy" ∷ party_word p ∷ []

  abbrev pub policy_words : PolicyModel → List (List ℕ)
  policy_words p = codes "policy" ∷ p.name ∷ name_at m.rights p.right ∷ []

  -- a policy line, then its `if` lines, then its `do` lines
  abbrev pub policy_lines : PolicyModel → List (List (List ℕ))
  policy_lines p = policy_words p ∷ map predicate_words p.predicates ++ map action_words p.actions

  abbrev pub query_words : Query → List (List ℕ)
  query_words q = codes "query" ∷ name_at (object_names m) q.subject ∷ name_at (object_names m) q.object ∷ name_at m.rights q.right ∷ []

  -- each line by its words, the kinds in their order
  abbrev pub written_lines : List (List (List ℕ))
  written_lines =
      map attribute_words m.attributes
      ++ (map right_words m.rights
      ++ (map object_words m.objects
      ++ (flat_map policy_lines m.policies
      ++ map query_words m.queries)))

  -- the text of a scheme
  abbrev pub written : List ℕ
  written = ended (map parted written_lines)

-- a name, by its bytes: a letter a to z, then letters, digits or _; 1 to 15 bytes

abbrev pub IsLetter : ℕ → Type 0
IsLetter b = (97 ≤ b) × (b ≤ 122)

abbrev pub IsNameByte : ℕ → Type 0
IsNameByte b = IsLetter b ⊎ (((48 ≤ b) × (b ≤ 57)) ⊎ (b ≡ 95))

pub record IsName (w : List ℕ) : Type 0 where
  pub short : length w ≤ 15
  pub first : IsLetter (slice_index w 0)
  pub bytes : All IsNameByte w

-- names that are names, no two of them the same
pub record NamesFit (names : List (List ℕ)) : Type 0 where
  pub each : All IsName names
  pub distinct : (i j : ℕ) → i < length names → j < length names → name_at names i ≡ name_at names j → i ≡ j

-- null, or a value below the size
abbrev pub ValueFits : AttributeModel → Option ℕ → Type 0
ValueFits a None = Unit {0}
ValueFits a (Some v) = v < a.size

-- a term is of one of so many attributes, and a number is one that a word can write

abbrev pub OperandFits : ℕ → Operand → Type 0
OperandFits attributes (SubjectAttribute a) = a < attributes
OperandFits attributes (ObjectAttribute a) = a < attributes
OperandFits attributes (Constant v) = v ≤ 255

abbrev pub PredicateFits : ℕ → Predicate → Type 0
PredicateFits attributes (Null t) = t.attribute < attributes
PredicateFits attributes (Set t) = t.attribute < attributes
PredicateFits attributes (Compare t c o) = (t.attribute < attributes) × OperandFits attributes o

abbrev pub ActionFits : ℕ → Action → Type 0
ActionFits attributes (Assign t o) = (t.attribute < attributes) × OperandFits attributes o
ActionFits attributes (Clear t) = t.attribute < attributes
ActionFits attributes (Add t v) = (t.attribute < attributes) × (v ≤ 255)
ActionFits attributes (Sub t v) = (t.attribute < attributes) × (v ≤ 255)
ActionFits attributes (Destroy p) = Unit {0}

pub record PolicyFits (attributes : ℕ) (p : PolicyModel) : Type 0 where
  pub few_predicates : length p.predicates ≤ 6
  pub few_actions : length p.actions ≤ 6
  pub predicates : All (PredicateFits attributes) p.predicates
  pub actions : All (ActionFits attributes) p.actions

pub record QueryFits (objects rights : ℕ) (q : Query) : Type 0 where
  pub subject : q.subject < objects
  pub object : q.object < objects
  pub right : q.right < rights

-- a scheme within the limits
pub record Writable (m : SchemeModel) : Type 0 where
  pub some_attribute : 1 ≤ length m.attributes
  pub some_right : 1 ≤ length m.rights
  pub some_object : 1 ≤ length m.objects
  pub few_attributes : length m.attributes ≤ 4
  pub few_rights : length m.rights ≤ 16
  pub few_objects : length m.objects ≤ 8
  pub few_policies : length m.policies ≤ 32
  pub few_queries : length m.queries ≤ 16
  pub attributes_named : NamesFit (attribute_names m)
  pub rights_named : NamesFit m.rights
  pub objects_named : NamesFit (object_names m)
  pub policies_named : NamesFit (policy_names m)
  pub sizes : All (λ (a : AttributeModel). (1 ≤ a.size) × (a.size ≤ 250)) m.attributes
  -- of each object one value or null for each attribute
  pub values : All (λ (o : ObjectModel). AllZip ValueFits m.attributes o.values) m.objects
  pub policy_rights : All (λ (p : PolicyModel). p.right < length m.rights) m.policies
  pub policies : All (PolicyFits (length m.attributes)) m.policies
  pub queries : All (QueryFits (length m.objects) (length m.rights)) m.queries
  pub few_states : state_count m ≤ 1048576

-- What a scheme declares, as plain lists: the model of its draft.
use Rattle.std.specs.Prelude.{ℕ, Bool, false, List, [], ◌∷◌, ◌++◌, map, length, Option, nat_lt}
use Rattle.bounded.specs.Items.{items}
use Rattle.scheme.specs.declared.kind.Kind.{Kind}
use Rattle.scheme.specs.declared.kind.Kind.TheVariants as kind
use Rattle.scheme.specs.declared.terms.Predicate.{Predicate}
use Rattle.scheme.specs.declared.terms.Action.{Action}
use Rattle.scheme.specs.declared.terms.Clause.{Clause}
use Rattle.scheme.specs.declared.terms.Clause.TheVariants.{If, Do}
use Rattle.scheme.specs.declared.entries.Attribute.{Attribute}
use Rattle.scheme.specs.declared.entries.Object.{Object}
use Rattle.scheme.specs.declared.entries.Policy.{Policy}
use Rattle.scheme.specs.declared.entries.Query.{Query}

pub record AttributeModel : Type 0 where
  pub name : List ℕ
  pub size : ℕ

-- a value or null for each attribute, in the start state
pub record ObjectModel : Type 0 where
  pub name : List ℕ
  pub values : List (Option ℕ)

pub record PolicyModel : Type 0 where
  pub name : List ℕ
  pub right : ℕ
  pub predicates : List Predicate
  pub actions : List Action

-- each kind numbers its entries in order, from 0
pub record SchemeModel : Type 0 where
  pub attributes : List AttributeModel
  pub rights : List (List ℕ)
  pub objects : List ObjectModel
  pub policies : List PolicyModel
  pub queries : List Query

abbrev pub bare_model : SchemeModel
bare_model = record { attributes = []; rights = []; objects = []; policies = []; queries = [] }

-- what the entries of a draft stand for

abbrev pub attribute_of : Attribute → AttributeModel
attribute_of a = record { name = items a.name; size = a.size }

abbrev pub object_of : Object → ObjectModel
object_of o = record { name = items o.name; values = items o.values }

abbrev pub policy_of : Policy → PolicyModel
policy_of p = record { name = items p.name; right = p.right; predicates = items p.predicates; actions = items p.actions }

-- names by their numbers

abbrev pub attribute_names : SchemeModel → List (List ℕ)
attribute_names m = map (λ (a : AttributeModel). a.name) m.attributes

abbrev pub object_names : SchemeModel → List (List ℕ)
object_names m = map (λ (o : ObjectModel). o.name) m.objects

abbrev pub policy_names : SchemeModel → List (List ℕ)
policy_names m = map (λ (p : PolicyModel). p.name) m.policies

-- `if`, `do` and `query` lines have no names
abbrev pub names_of : Kind → SchemeModel → List (List ℕ)
names_of kind.Attr m = attribute_names m
names_of kind.Right m = m.rights
names_of kind.Object m = object_names m
names_of kind.Policy m = policy_names m
names_of kind.If m = []
names_of kind.Do m = []
names_of kind.Query m = []

-- one entry more

abbrev pub with_attribute : AttributeModel → SchemeModel → SchemeModel
with_attribute a m = record { attributes = m.attributes ++ a ∷ []; rights = m.rights; objects = m.objects; policies = m.policies; queries = m.queries }

abbrev pub with_right : List ℕ → SchemeModel → SchemeModel
with_right name m = record { attributes = m.attributes; rights = m.rights ++ name ∷ []; objects = m.objects; policies = m.policies; queries = m.queries }

abbrev pub with_object : ObjectModel → SchemeModel → SchemeModel
with_object o m = record { attributes = m.attributes; rights = m.rights; objects = m.objects ++ o ∷ []; policies = m.policies; queries = m.queries }

abbrev pub with_policies : List PolicyModel → SchemeModel → SchemeModel
with_policies ps m = record { attributes = m.attributes; rights = m.rights; objects = m.objects; policies = ps; queries = m.queries }

abbrev pub with_query : Query → SchemeModel → SchemeModel
with_query q m = record { attributes = m.attributes; rights = m.rights; objects = m.objects; policies = m.policies; queries = m.queries ++ q ∷ [] }

-- a policy that a policy line has opened
abbrev pub opened : List ℕ → ℕ → PolicyModel
opened name right = record { name = name; right = right; predicates = []; actions = [] }

-- at most six predicates and six actions a policy
abbrev pub predicate_room : PolicyModel → Bool
predicate_room p = nat_lt (length p.predicates) 6

abbrev pub action_room : PolicyModel → Bool
action_room p = nat_lt (length p.actions) 6

abbrev pub has_room : Clause → PolicyModel → Bool
has_room (If predicate) p = predicate_room p
has_room (Do action) p = action_room p

abbrev pub filled : Clause → PolicyModel → PolicyModel
filled (If predicate) p = record { name = p.name; right = p.right; predicates = p.predicates ++ predicate ∷ []; actions = p.actions }
filled (Do action) p = record { name = p.name; right = p.right; predicates = p.predicates; actions = p.actions ++ action ∷ [] }

-- a clause goes to the policy opened last
abbrev pub last_room : (PolicyModel → Bool) → List PolicyModel → Bool
last_room room [] = false
last_room room (p ∷ []) = room p
last_room room (p ∷ q ∷ ps) = last_room room (q ∷ ps)

abbrev pub last_filled : Clause → List PolicyModel → List PolicyModel
last_filled clause [] = []
last_filled clause (p ∷ []) = filled clause p ∷ []
last_filled clause (p ∷ q ∷ ps) = p ∷ last_filled clause (q ∷ ps)

-- the most entries of each kind
abbrev pub room_for : Kind → SchemeModel → Bool
room_for kind.Attr m = nat_lt (length m.attributes) 4
room_for kind.Right m = nat_lt (length m.rights) 16
room_for kind.Object m = nat_lt (length m.objects) 8
room_for kind.Policy m = nat_lt (length m.policies) 32
room_for kind.If m = last_room predicate_room m.policies
room_for kind.Do m = last_room action_room m.policies
room_for kind.Query m = nat_lt (length m.queries) 16

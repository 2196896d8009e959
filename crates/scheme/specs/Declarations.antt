-- What a declaration adds to a scheme model.
use Rattle.std.specs.Prelude.{[], ◌∷◌, ◌++◌}
use Rattle.bounded.specs.Items.{items}
use Rattle.scheme.specs.declared.kind.Kind.{Kind}
use Rattle.scheme.specs.declared.kind.Kind.TheVariants as kind
use Rattle.scheme.specs.declared.terms.Clause.{Clause}
use Rattle.scheme.specs.declared.terms.Clause.TheVariants.{If, Do}
use Rattle.scheme.specs.declared.declaration.Declaration.{Declaration}
use Rattle.scheme.specs.declared.declaration.Declaration.TheVariants as declaration
use Rattle.scheme.specs.Models.{SchemeModel, attribute_of, object_of, opened, last_filled, with_attribute, with_right, with_object, with_policies, with_query}

-- the kind of the line that declares it

abbrev pub clause_kind : Clause → Kind
clause_kind (If predicate) = kind.If
clause_kind (Do action) = kind.Do

abbrev pub kind_of : Declaration → Kind
kind_of (declaration.Attribute a) = kind.Attr
kind_of (declaration.Right name) = kind.Right
kind_of (declaration.Object o) = kind.Object
kind_of (declaration.Policy name right) = kind.Policy
kind_of (declaration.Clause c) = clause_kind c
kind_of (declaration.Query q) = kind.Query

-- one entry more, or one clause more in the last policy
abbrev pub with_declaration : Declaration → SchemeModel → SchemeModel
with_declaration (declaration.Attribute a) m = with_attribute (attribute_of a) m
with_declaration (declaration.Right name) m = with_right (items name) m
with_declaration (declaration.Object o) m = with_object (object_of o) m
with_declaration (declaration.Policy name right) m = with_policies (m.policies ++ opened (items name) right ∷ []) m
with_declaration (declaration.Clause c) m = with_policies (last_filled c m.policies) m
with_declaration (declaration.Query q) m = with_query q m

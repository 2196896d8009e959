-- Worked examples of predicates: each comparison below, at and above a value and at null, and whose
-- value a term is.
use Rattle.std.specs.Prelude.{◌≡◌, Bool, true, false, List, [], ◌∷◌, Some, None}
use Rattle.scheme.specs.declared.terms.Operand.TheVariants.{SubjectAttribute, ObjectAttribute, Constant}
use Rattle.scheme.specs.declared.terms.Comparison.TheVariants.{Equal, NotEqual, Less, AtMost, Greater, AtLeast}
use Rattle.scheme.specs.declared.terms.Predicate.{Predicate}
use Rattle.scheme.specs.declared.terms.Predicate.TheVariants as predicate
use Rattle.enforcement.specs.declared.predicates.Operator.{Operator}
use Rattle.enforcement.specs.declared.predicates.Operator.TheVariants.{Null, Set, Compare}
use Rattle.enforcement.specs.Predicates.{meets, holds_on, all_hold}
use Rattle.worked_examples.specs.Declared.{of_subject, of_object}

-- what an operator answers of 1, 2 and 3 beside 2
abbrev pub beside_2 : Operator → List Bool
beside_2 o = meets o (Some 1) (Some 2) ∷ meets o (Some 2) (Some 2) ∷ meets o (Some 3) (Some 2) ∷ []

-- of null beside 0, of 0 beside null, and of null beside null
abbrev pub beside_null : Operator → List Bool
beside_null o = meets o None (Some 0) ∷ meets o (Some 0) None ∷ meets o None None ∷ []

abbrev pub never : List Bool
never = false ∷ false ∷ false ∷ []

-- for a subject with the values 1 and null, and an object with 2 and 7
abbrev pub holds : Predicate → Bool
holds q = holds_on q (Some 1 ∷ None ∷ []) (Some 2 ∷ Some 7 ∷ [])

abbrev pub all : List Predicate → Bool
all qs = all_hold qs (Some 1 ∷ None ∷ []) (Some 2 ∷ Some 7 ∷ [])

pub record Predicates : Type 0 where
  pub equal : beside_2 (Compare Equal) ≡ false ∷ true ∷ false ∷ []
  pub not_equal : beside_2 (Compare NotEqual) ≡ true ∷ false ∷ true ∷ []
  pub less : beside_2 (Compare Less) ≡ true ∷ false ∷ false ∷ []
  pub at_most : beside_2 (Compare AtMost) ≡ true ∷ true ∷ false ∷ []
  pub greater : beside_2 (Compare Greater) ≡ false ∷ false ∷ true ∷ []
  pub at_least : beside_2 (Compare AtLeast) ≡ false ∷ true ∷ true ∷ []
  -- null on a side makes every comparison false
  pub null_is_not_equal : beside_null (Compare Equal) ≡ never
  pub null_is_not_unequal : beside_null (Compare NotEqual) ≡ never
  pub null_is_not_less : beside_null (Compare Less) ≡ never
  pub null_is_not_at_most : beside_null (Compare AtMost) ≡ never
  pub null_is_not_greater : beside_null (Compare Greater) ≡ never
  pub null_is_not_at_least : beside_null (Compare AtLeast) ≡ never
  -- `null` and `set` ask of the left side alone
  pub null : beside_null Null ≡ true ∷ false ∷ true ∷ []
  pub set : beside_null Set ≡ false ∷ true ∷ false ∷ []
  pub null_of_values : beside_2 Null ≡ never
  pub set_of_values : beside_2 Set ≡ true ∷ true ∷ true ∷ []
  -- terms of the subject and of the object, by the number of the attribute
  pub first_of_subject : holds (predicate.Compare (of_subject 0) Equal (Constant 1)) ≡ true
  pub second_of_subject : holds (predicate.Null (of_subject 1)) ≡ true
  pub first_of_object : holds (predicate.Compare (of_object 0) Equal (Constant 2)) ≡ true
  pub second_of_object : holds (predicate.Compare (of_object 1) Equal (Constant 7)) ≡ true
  pub first_is_not_null : holds (predicate.Null (of_subject 0)) ≡ false
  pub first_is_set : holds (predicate.Set (of_subject 0)) ≡ true
  pub second_is_not_set : holds (predicate.Set (of_subject 1)) ≡ false
  pub missing_is_null : holds (predicate.Null (of_subject 2)) ≡ true
  pub object_is_set : holds (predicate.Set (of_object 1)) ≡ true
  -- the operand is read as the term is, and the term stands on the left
  pub subject_below_object : holds (predicate.Compare (of_subject 0) Less (ObjectAttribute 0))
      ≡ true
  pub object_not_below_subject : holds (predicate.Compare (of_object 0) Less (SubjectAttribute 0))
      ≡ false
  pub second_above_first : holds (predicate.Compare (of_object 1) Greater (ObjectAttribute 0))
      ≡ true
  pub null_operand : holds (predicate.Compare (of_object 1) NotEqual (SubjectAttribute 1)) ≡ false
  pub null_beside_itself : holds (predicate.Compare (of_subject 1) Equal (SubjectAttribute 1))
      ≡ false
  -- a number has its own value, at or above the size too
  pub below_255 : holds (predicate.Compare (of_object 1) Less (Constant 255)) ≡ true
  -- all must hold
  pub none_to_hold : all [] ≡ true
  pub both_hold : all (predicate.Set (of_subject 0) ∷ predicate.Null (of_subject 1) ∷ []) ≡ true
  pub first_fails : all (predicate.Set (of_subject 1) ∷ predicate.Set (of_object 1) ∷ []) ≡ false
  pub second_fails : all (predicate.Set (of_object 1) ∷ predicate.Set (of_subject 1) ∷ []) ≡ false

-- When a predicate holds, computed from the values of a subject and of an object that are there.
use Rattle.std.specs.Prelude.{ℕ, Bool, false, not, List, is_some, Some, None, Option, ◌==◌, nat_eq, nat_le, nat_lt, slice_index_or}
use Rattle.std.specs.List.{list_all}
use Rattle.scheme.specs.declared.terms.Party.{Party}
use Rattle.scheme.specs.declared.terms.Party.TheVariants.{Subject, Object}
use Rattle.scheme.specs.declared.terms.Term.{Term}
use Rattle.scheme.specs.declared.terms.Operand.{Operand}
use Rattle.scheme.specs.declared.terms.Operand.TheVariants.{SubjectAttribute, ObjectAttribute, Constant}
use Rattle.scheme.specs.declared.terms.Comparison.{Comparison}
use Rattle.scheme.specs.declared.terms.Comparison.TheVariants.{Equal, NotEqual, Less, AtMost, Greater, AtLeast}
use Rattle.scheme.specs.declared.terms.Predicate.{Predicate}
use Rattle.scheme.specs.declared.terms.Predicate.TheVariants as predicate
use Rattle.enforcement.specs.declared.predicates.Operator.{Operator}
use Rattle.enforcement.specs.declared.predicates.Operator.TheVariants as operator

-- a test of two values; false where one of them is null
abbrev pub both : (ℕ → ℕ → Bool) → Option ℕ → Option ℕ → Bool
both f None r = false
both f (Some x) None = false
both f (Some x) (Some y) = f x y

abbrev pub compares : Comparison → Option ℕ → Option ℕ → Bool
compares Equal l r = both nat_eq l r
compares NotEqual l r = both (λ x y. not (x == y)) l r
compares Less l r = both nat_lt l r
compares AtMost l r = both nat_le l r
compares Greater l r = both (λ x y. nat_lt y x) l r
compares AtLeast l r = both (λ x y. nat_le y x) l r

-- what an operator asks of the two values; `null` and `set` ask of the left one alone
abbrev pub meets : Operator → Option ℕ → Option ℕ → Bool
meets operator.Null l r = not (is_some l)
meets operator.Set l r = is_some l
meets (operator.Compare c) l r = compares c l r

-- the value, or null, of an attribute of the subject, whose values are u, or of the object, whose values are v
abbrev pub party_value : Party → ℕ → List (Option ℕ) → List (Option ℕ) → Option ℕ
party_value Subject a u v = slice_index_or u a None
party_value Object a u v = slice_index_or v a None

abbrev pub term_value : Term → List (Option ℕ) → List (Option ℕ) → Option ℕ
term_value t u v = party_value t.party t.attribute u v

abbrev pub operand_value : Operand → List (Option ℕ) → List (Option ℕ) → Option ℕ
operand_value (SubjectAttribute a) u v = slice_index_or u a None
operand_value (ObjectAttribute a) u v = slice_index_or v a None
operand_value (Constant k) u v = Some k

abbrev pub holds_on : Predicate → List (Option ℕ) → List (Option ℕ) → Bool
holds_on (predicate.Null t) u v = meets operator.Null (term_value t u v) None
holds_on (predicate.Set t) u v = meets operator.Set (term_value t u v) None
holds_on (predicate.Compare t c x) u v = meets (operator.Compare c) (term_value t u v) (operand_value x u v)

abbrev pub all_hold : List Predicate → List (Option ℕ) → List (Option ℕ) → Bool
all_hold qs u v = list_all (λ q. holds_on q u v) qs

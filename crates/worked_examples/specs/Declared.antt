-- Worked examples of what lines declare: whole schemes, read from their texts.
use Rattle.std.specs.Prelude.{◌≡◌, ℕ, List, [], ◌∷◌, ◌++◌, codes, Some, None, Ok, Option}
use Rattle.scheme.specs.declared.terms.Party.TheVariants.{Subject, Object}
use Rattle.scheme.specs.declared.terms.Term.{Term}
use Rattle.scheme.specs.declared.terms.Operand.TheVariants.{SubjectAttribute, ObjectAttribute, Constant}
use Rattle.scheme.specs.declared.terms.Comparison.TheVariants.{Equal, NotEqual, Less, AtMost, Greater, AtLeast}
use Rattle.scheme.specs.declared.terms.Predicate.{Predicate}
use Rattle.scheme.specs.declared.terms.Predicate.TheVariants.{Null, Set, Compare}
use Rattle.scheme.specs.declared.terms.Action.{Action}
use Rattle.scheme.specs.declared.terms.Action.TheVariants.{Assign, Clear, Add, Sub, Destroy}
use Rattle.scheme.specs.declared.entries.Query.{Query}
use Rattle.scheme.specs.Models.{AttributeModel, ObjectModel, PolicyModel, SchemeModel}
use Rattle.text.specs.Reading.{reading}
use Rattle.worked_examples.specs.Texts.{meter, handover}

-- an attribute of the subject, and of the object, by its number
abbrev pub of_subject : ℕ → Term
of_subject a = record { party = Subject; attribute = a }

abbrev pub of_object : ℕ → Term
of_object a = record { party = Object; attribute = a }

abbrev pub attribute : List ℕ → ℕ → AttributeModel
attribute name size = record { name = name; size = size }

abbrev pub object : List ℕ → List (Option ℕ) → ObjectModel
object name values = record { name = name; values = values }

abbrev pub policy : List ℕ → ℕ → List Predicate → List Action → PolicyModel
policy name right predicates actions =
    record { name = name; right = right; predicates = predicates; actions = actions }

abbrev pub query : ℕ → ℕ → ℕ → Query
query subject object right = record { subject = subject; object = object; right = right }

-- what the text of the meter declares, over role (0) and left (1)
abbrev pub meter_scheme : SchemeModel
meter_scheme =
    record {
      attributes = attribute (codes "role") 2 ∷ attribute (codes "left") 3 ∷ [];
      rights = codes "drive" ∷ codes "load" ∷ [];
      objects =
          object (codes "ann") (Some 0 ∷ None ∷ [])
          ∷ object (codes "m1") (None ∷ Some 1 ∷ [])
          ∷ [];
      policies =
          policy (codes "drive") 0
          (Compare (of_subject 0) Equal (Constant 0) ∷ Compare (of_object 1) Greater (Constant 0) ∷ [])
          (Sub (of_object 1) 1 ∷ [])
          ∷ policy (codes "refill") 1
          (Compare (of_subject 0) Equal (Constant 0) ∷ Compare (of_object 1) Equal (Constant 0) ∷ [])
          (Add (of_object 1) 2 ∷ [])
          ∷ [];
      queries = query 0 1 1 ∷ query 1 0 1 ∷ [];
    }

-- what the text of the handover declares, over badge (0), key (1) and open (2)
abbrev pub handover_scheme : SchemeModel
handover_scheme =
    record {
      attributes =
          attribute (codes "badge") 1
          ∷ attribute (codes "key") 1
          ∷ attribute (codes "open") 1
          ∷ [];
      rights = codes "unlock" ∷ codes "enter" ∷ codes "lend" ∷ [];
      objects =
          object (codes "ann") (Some 0 ∷ Some 0 ∷ None ∷ [])
          ∷ object (codes "bob") (Some 0 ∷ None ∷ None ∷ [])
          ∷ object (codes "door") (None ∷ None ∷ None ∷ [])
          ∷ [];
      policies =
          policy (codes "handover") 2
          (Set (of_subject 1) ∷ Set (of_object 0) ∷ [])
          (Assign (of_object 1) (SubjectAttribute 1) ∷ Clear (of_subject 1) ∷ [])
          ∷ policy (codes "turn") 0
          (Set (of_subject 1) ∷ Null (of_object 0) ∷ Null (of_object 2) ∷ [])
          (Assign (of_object 2) (Constant 0) ∷ [])
          ∷ policy (codes "pass") 1
          (Set (of_subject 0) ∷ Null (of_subject 1) ∷ Set (of_object 2) ∷ [])
          []
          ∷ [];
      queries = query 1 2 0 ∷ query 0 2 1 ∷ query 2 0 2 ∷ [];
    }

-- every form of `if` and `do` lines, over a (0) and b (1)
abbrev pub every_clause : List ℕ
every_clause =
    codes "attr a 2\nattr b 9\nright r\nright q\nobject x 1 8\npolicy compare q\n"
    ++ codes "if s.a = 0\nif o.b != s.a\nif s.b < o.a\nif o.a <= 255\nif s.a > o.b\nif o.b >= s.b\n"
    ++ codes "policy change r\nif s.a null\nif o.b set\ndo s.a to 1\ndo o.b to s.a\ndo s.b to o.a\n"
    ++ codes "do o.a to -\ndo s.a add 2\ndo o.b sub 3\npolicy empty q\npolicy remove q\n"
    ++ codes "do destroy s\ndo destroy o\nquery x x q\n"

-- and what they declare
abbrev pub every_clause_scheme : SchemeModel
every_clause_scheme =
    record {
      attributes = attribute (codes "a") 2 ∷ attribute (codes "b") 9 ∷ [];
      rights = codes "r" ∷ codes "q" ∷ [];
      objects = object (codes "x") (Some 1 ∷ Some 8 ∷ []) ∷ [];
      policies =
          policy (codes "compare") 1
          (Compare (of_subject 0) Equal (Constant 0)
          ∷ Compare (of_object 1) NotEqual (SubjectAttribute 0)
          ∷ Compare (of_subject 1) Less (ObjectAttribute 0)
          ∷ Compare (of_object 0) AtMost (Constant 255)
          ∷ Compare (of_subject 0) Greater (ObjectAttribute 1)
          ∷ Compare (of_object 1) AtLeast (SubjectAttribute 1)
          ∷ [])
          []
          ∷ policy (codes "change") 0
          (Null (of_subject 0) ∷ Set (of_object 1) ∷ [])
          (Assign (of_subject 0) (Constant 1)
          ∷ Assign (of_object 1) (SubjectAttribute 0)
          ∷ Assign (of_subject 1) (ObjectAttribute 0)
          ∷ Clear (of_object 0)
          ∷ Add (of_subject 0) 2
          ∷ Sub (of_object 1) 3
          ∷ [])
          ∷ policy (codes "empty") 1 [] []
          ∷ policy (codes "remove") 1 [] (Destroy Subject ∷ Destroy Object ∷ [])
          ∷ [];
      queries = query 0 0 1 ∷ [];
    }

pub record Declared : Type 0 where
  pub meter : reading meter ≡ Ok meter_scheme
  pub handover : reading handover ≡ Ok handover_scheme
  pub every_clause : reading every_clause ≡ Ok every_clause_scheme

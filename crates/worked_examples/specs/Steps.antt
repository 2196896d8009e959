-- Worked examples of when a policy has a step: who must be there, and which state its predicates
-- are asked of.
use Rattle.std.specs.Prelude.{◌≡◌, ℕ, List, [], ◌∷◌, Some, None, Option}
use Rattle.scheme.specs.declared.terms.Operand.TheVariants.{SubjectAttribute, Constant}
use Rattle.scheme.specs.declared.terms.Comparison.TheVariants.{Equal}
use Rattle.scheme.specs.declared.terms.Predicate.{Predicate}
use Rattle.scheme.specs.declared.terms.Predicate.TheVariants.{Set, Compare}
use Rattle.scheme.specs.declared.terms.Action.{Action}
use Rattle.scheme.specs.declared.terms.Action.TheVariants.{Assign, Add, Destroy}
use Rattle.scheme.specs.declared.terms.Party.TheVariants.{Object}
use Rattle.codes.specs.Objects.{ObjectState, absent, there}
use Rattle.enforcement.specs.Enforcement.{State, enforced}
use Rattle.worked_examples.specs.Declared.{of_subject, of_object}

-- one value
abbrev pub one : ℕ → ObjectState
one v = there (Some v ∷ [])

-- four objects, with one attribute of size 3: the first three are there, the last is absent
abbrev pub before : State
before = one 0 ∷ one 1 ∷ one 2 ∷ absent ∷ []

-- after a policy with these predicates and actions, on subject s and object o
abbrev pub on : ℕ → ℕ → List Predicate → List Action → Option State
on s o qs xs = enforced (3 ∷ []) qs xs s o before

-- s.a = v, and what gives the object the value of the subject
abbrev pub subject_is : ℕ → Predicate
subject_is v = Compare (of_subject 0) Equal (Constant v)

abbrev pub given : Action
given = Assign (of_object 0) (SubjectAttribute 0)

pub record Steps : Type 0 where
  pub nothing_asked : on 0 1 [] [] ≡ Some before
  -- the object of the policy changes, and no other
  pub object_changes : on 0 2 [] (given ∷ []) ≡ Some (one 0 ∷ one 1 ∷ one 0 ∷ absent ∷ [])
  pub the_other_way_round : on 2 0 [] (given ∷ []) ≡ Some (one 2 ∷ one 1 ∷ one 2 ∷ absent ∷ [])
  pub last_changes : on 1 2 [] (given ∷ []) ≡ Some (one 0 ∷ one 1 ∷ one 1 ∷ absent ∷ [])
  pub destroyed : on 0 1 [] (Destroy Object ∷ []) ≡ Some (one 0 ∷ absent ∷ one 2 ∷ absent ∷ [])
  -- two different objects, and both there
  pub itself : on 1 1 [] [] ≡ None
  pub absent_object : on 0 3 [] [] ≡ None
  pub absent_subject : on 3 0 [] [] ≡ None
  -- predicates are asked before any action
  pub holds_beforehand : on 0 1 (subject_is 0 ∷ []) (Assign (of_subject 0) (Constant 1) ∷ [])
      ≡ Some (one 1 ∷ one 1 ∷ one 2 ∷ absent ∷ [])
  pub would_hold_afterwards : on 0 1 (subject_is 1 ∷ []) (Assign (of_subject 0) (Constant 1) ∷ [])
      ≡ None
  pub one_does_not_hold : on 0 1 (subject_is 0 ∷ subject_is 1 ∷ []) [] ≡ None
  -- an action that fails, though the predicates hold
  pub action_fails : on 0 2 (Set (of_object 0) ∷ []) (Add (of_object 0) 1 ∷ []) ≡ None

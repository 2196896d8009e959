-- Worked examples of actions: each at its limits, and several in order.
use Rattle.std.specs.Prelude.{◌≡◌, ℕ, List, [], ◌∷◌, Some, None, Option}
use Rattle.scheme.specs.declared.terms.Party.{Party}
use Rattle.scheme.specs.declared.terms.Party.TheVariants.{Subject, Object}
use Rattle.scheme.specs.declared.terms.Term.{Term}
use Rattle.scheme.specs.declared.terms.Operand.TheVariants.{SubjectAttribute, ObjectAttribute, Constant}
use Rattle.scheme.specs.declared.terms.Action.{Action}
use Rattle.scheme.specs.declared.terms.Action.TheVariants.{Assign, Clear, Add, Sub, Destroy}
use Rattle.codes.specs.Objects.{ObjectState, absent, there}
use Rattle.enforcement.specs.Parties.{Parties}
use Rattle.enforcement.specs.Actions.{acted, ran}
use Rattle.worked_examples.specs.Declared.{of_subject, of_object}

abbrev pub parties : ObjectState → ObjectState → Parties
parties s o = record { subject = s; object = o }

-- two values, or nulls
abbrev pub two : Option ℕ → Option ℕ → ObjectState
two a b = there (a ∷ b ∷ [])

-- a subject and an object that are there, with two values each
abbrev pub having : Option ℕ → Option ℕ → Option ℕ → Option ℕ → Parties
having a b a' b' = parties (two a b) (two a' b')

-- what actions make of a subject with the values 1 and 0 and an object with 2 and null; the
-- attributes have the sizes 3 and 2
abbrev pub after : List Action → Option Parties
after xs = ran (3 ∷ 2 ∷ []) xs (having (Some 1) (Some 0) (Some 2) None)

-- one attribute of a subject and of an object
abbrev pub only : Party → Term
only w = record { party = w; attribute = 0 }

abbrev pub one_each : ℕ → ℕ → Parties
one_each s o = parties (there (Some s ∷ [])) (there (Some o ∷ []))

pub record Actions : Type 0 where
  pub no_action : after [] ≡ Some (having (Some 1) (Some 0) (Some 2) None)
  -- `to` a number below the size, and at it
  pub to_number : after (Assign (of_subject 0) (Constant 2) ∷ [])
      ≡ Some (having (Some 2) (Some 0) (Some 2) None)
  pub to_size : after (Assign (of_subject 0) (Constant 3) ∷ []) ≡ None
  pub to_number_of_second : after (Assign (of_object 1) (Constant 1) ∷ [])
      ≡ Some (having (Some 1) (Some 0) (Some 2) (Some 1))
  pub to_size_of_second : after (Assign (of_object 1) (Constant 2) ∷ []) ≡ None
  -- `to` a term whose value is below the size of the target, at it, and null
  pub to_term : after (Assign (of_subject 0) (ObjectAttribute 0) ∷ [])
      ≡ Some (having (Some 2) (Some 0) (Some 2) None)
  pub to_smaller_term : after (Assign (of_object 1) (SubjectAttribute 0) ∷ [])
      ≡ Some (having (Some 1) (Some 0) (Some 2) (Some 1))
  pub to_term_at_size : after (Assign (of_subject 1) (ObjectAttribute 0) ∷ []) ≡ None
  pub to_null_term : after (Assign (of_subject 0) (ObjectAttribute 1) ∷ [])
      ≡ Some (having None (Some 0) (Some 2) None)
  -- `to -`, from a value and from null
  pub to_null : after (Clear (of_object 0) ∷ []) ≡ Some (having (Some 1) (Some 0) None None)
  pub to_null_again : after (Clear (of_object 1) ∷ [])
      ≡ Some (having (Some 1) (Some 0) (Some 2) None)
  -- `add`: the sum is at most the size less 1, and null has no sum
  pub add_nothing : after (Add (of_object 0) 0 ∷ []) ≡ Some (having (Some 1) (Some 0) (Some 2) None)
  pub add_to_the_last_value : after (Add (of_subject 0) 1 ∷ [])
      ≡ Some (having (Some 2) (Some 0) (Some 2) None)
  pub add_to_the_size : after (Add (of_subject 0) 2 ∷ []) ≡ None
  pub add_beyond_a_byte : after (Add (of_subject 0) 255 ∷ []) ≡ None
  pub add_to_null : after (Add (of_object 1) 0 ∷ []) ≡ None
  -- `sub`: the difference is at least 0, and null has none
  pub sub_nothing : after (Sub (of_subject 1) 0 ∷ [])
      ≡ Some (having (Some 1) (Some 0) (Some 2) None)
  pub sub_to_zero : after (Sub (of_object 0) 2 ∷ []) ≡ Some (having (Some 1) (Some 0) (Some 0) None)
  pub sub_below_zero : after (Sub (of_object 0) 3 ∷ []) ≡ None
  pub sub_from_null : after (Sub (of_object 1) 0 ∷ []) ≡ None
  -- `destroy` once each, twice, and what reads or changes what is no longer there
  pub destroy_subject : after (Destroy Subject ∷ []) ≡ Some (parties absent (two (Some 2) None))
  pub destroy_object : after (Destroy Object ∷ []) ≡ Some (parties (two (Some 1) (Some 0)) absent)
  pub destroy_both : after (Destroy Subject ∷ Destroy Object ∷ []) ≡ Some (parties absent absent)
  pub destroy_twice : after (Destroy Object ∷ Destroy Object ∷ []) ≡ None
  pub read_destroyed : after (Destroy Object ∷ Assign (of_subject 0) (ObjectAttribute 0) ∷ [])
      ≡ None
  pub change_destroyed : after (Destroy Subject ∷ Assign (of_subject 0) (Constant 0) ∷ []) ≡ None
  pub clear_destroyed : after (Destroy Subject ∷ Clear (of_subject 0) ∷ []) ≡ None
  pub add_to_destroyed : after (Destroy Subject ∷ Add (of_subject 0) 0 ∷ []) ≡ None
  pub sub_from_destroyed : after (Destroy Object ∷ Sub (of_object 0) 0 ∷ []) ≡ None
  pub change_the_other : after (Destroy Subject ∷ Assign (of_object 0) (Constant 0) ∷ [])
      ≡ Some (parties absent (two (Some 0) None))
  -- in order: the second reads what the first wrote, and where one fails all fail
  pub assigned_in_turn :
      ran (2 ∷ []) (Assign (only Subject) (ObjectAttribute 0)
      ∷ Assign (only Object) (SubjectAttribute 0) ∷ []) (one_each 1 0)
      ≡ Some (one_each 0 0)
  pub add_then_add : after (Sub (of_object 0) 1 ∷ Add (of_object 0) 1 ∷ [])
      ≡ Some (having (Some 1) (Some 0) (Some 2) None)
  pub first_fails : after (Add (of_object 0) 1 ∷ Sub (of_object 0) 1 ∷ []) ≡ None
  pub last_fails : after (Clear (of_object 0) ∷ Add (of_object 0) 1 ∷ []) ≡ None
  -- an attribute of size 3, by itself
  pub sub_below_zero_fails : acted (3 ∷ []) (Sub (only Subject) 1) (one_each 0 0) ≡ None
  pub add_one_to_one : acted (3 ∷ []) (Add (only Subject) 1) (one_each 1 0) ≡ Some (one_each 2 0)
  pub add_to_the_size_fails : acted (3 ∷ []) (Add (only Subject) 1) (one_each 2 0) ≡ None

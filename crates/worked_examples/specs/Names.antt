-- Worked examples of names: the number that a name has in its kind, and when a scheme is well-formed.
use Rattle.std.specs.Prelude.{◌≡◌, ℕ, true, false, List, [], ◌∷◌, map, codes, Some, None}
use Rattle.scheme.specs.declared.kind.Kind.{Kind}
use Rattle.scheme.specs.declared.kind.Kind.TheVariants as kind
use Rattle.scheme.specs.Names.{index_of}
use Rattle.scheme.specs.Models.{names_of}
use Rattle.scheme.specs.WellFormed.{values_fit, rights_fit, well_formed}
use Rattle.worked_examples.specs.Declared.{policy, handover_scheme}

-- names that begin alike, and one that stands twice
abbrev pub names : List (List ℕ)
names = codes "ab" ∷ codes "a" ∷ codes "b" ∷ codes "a" ∷ []

abbrev pub handover_names : Kind → List (List ℕ)
handover_names k = names_of k handover_scheme

pub record Names : Type 0 where
  pub first : index_of (codes "ab") names ≡ Some 0
  pub second : index_of (codes "a") names ≡ Some 1
  pub third : index_of (codes "b") names ≡ Some 2
  pub no_such_name : map (λ n. index_of n names) (codes "c" ∷ codes "abc" ∷ [] ∷ [])
      ≡ None ∷ None ∷ None ∷ []
  pub no_names : index_of (codes "a") [] ≡ None
  -- each kind has its own
  pub of_attributes : handover_names kind.Attr ≡ codes "badge" ∷ codes "key" ∷ codes "open" ∷ []
  pub of_rights : handover_names kind.Right ≡ codes "unlock" ∷ codes "enter" ∷ codes "lend" ∷ []
  pub of_objects : handover_names kind.Object ≡ codes "ann" ∷ codes "bob" ∷ codes "door" ∷ []
  pub of_policies : handover_names kind.Policy ≡ codes "handover" ∷ codes "turn" ∷ codes "pass" ∷ []
  pub of_other_lines : map handover_names (kind.If ∷ kind.Do ∷ kind.Query ∷ []) ≡ [] ∷ [] ∷ [] ∷ []
  -- a value below its size, or null, for each attribute; and policies for rights that there are
  pub values : values_fit (2 ∷ 3 ∷ []) (Some 1 ∷ None ∷ []) ≡ true
  pub value_at_the_size : values_fit (2 ∷ 3 ∷ []) (Some 2 ∷ None ∷ []) ≡ false
  pub second_at_the_size : values_fit (2 ∷ 3 ∷ []) (Some 0 ∷ Some 3 ∷ []) ≡ false
  pub value_missing : values_fit (2 ∷ 3 ∷ []) (Some 1 ∷ []) ≡ false
  pub value_too_many : values_fit (2 ∷ 3 ∷ []) (Some 1 ∷ Some 1 ∷ None ∷ []) ≡ false
  pub rights : rights_fit 2 (policy (codes "p") 1 [] [] ∷ policy (codes "q") 0 [] [] ∷ []) ≡ true
  pub no_such_right : rights_fit 2 (policy (codes "p") 1 [] [] ∷ policy (codes "q") 2 [] [] ∷ [])
      ≡ false
  pub handover_is_well_formed : well_formed handover_scheme ≡ true

-- Enforcement of a policy as a relation between states: who is there, which predicates hold, and which state each
-- action leads to. `ks` has the size of each attribute.
use Rattle.std.specs.Prelude.{◌≡◌, ℕ, ◌+◌, ◌<◌, ◌≤◌, true, List, [], ◌∷◌, Some, None, Option, ◌≢◌, slice_index, slice_index_or, slice_set}
use Rattle.scheme.specs.declared.terms.Party.{Party}
use Rattle.scheme.specs.declared.terms.Party.TheVariants.{Subject, Object}
use Rattle.scheme.specs.declared.terms.Term.{Term}
use Rattle.scheme.specs.declared.terms.Operand.{Operand}
use Rattle.scheme.specs.declared.terms.Operand.TheVariants.{SubjectAttribute, ObjectAttribute, Constant}
use Rattle.scheme.specs.declared.terms.Comparison.{Comparison}
use Rattle.scheme.specs.declared.terms.Comparison.TheVariants.{Equal, NotEqual, Less, AtMost, Greater, AtLeast}
use Rattle.scheme.specs.declared.terms.Predicate.{Predicate}
use Rattle.scheme.specs.declared.terms.Predicate.TheVariants.{Null, Set, Compare}
use Rattle.scheme.specs.declared.terms.Action.{Action}
use Rattle.scheme.specs.declared.terms.Action.TheVariants.{Assign, Clear, Add, Sub, Destroy}
use Rattle.scheme.specs.WellFormed.{value_fits}
use Rattle.codes.specs.Objects.{absent, there}
use Rattle.enforcement.specs.Enforcement.{State}

-- object i is there, with these values
abbrev pub There : State → ℕ → List (Option ℕ) → Type 0
There t i vs = slice_index_or t i absent ≡ there vs

-- attribute a of object i, which is there, has the value v, or is null
abbrev pub Has : State → ℕ → ℕ → Option ℕ → Type 0
Has t i a v = (vs : List (Option ℕ)) × There t i vs × (v ≡ slice_index_or vs a None)

-- the object that a party stands for
abbrev pub who : Party → ℕ → ℕ → ℕ
who Subject s o = s
who Object s o = o

-- a term, and an operand, for subject s and object o
abbrev pub Reads : State → ℕ → ℕ → Term → Option ℕ → Type 0
Reads t s o x v = Has t (who x.party s o) x.attribute v

abbrev pub Gives : State → ℕ → ℕ → Operand → Option ℕ → Type 0
Gives t s o (SubjectAttribute a) v = Has t s a v
Gives t s o (ObjectAttribute a) v = Has t o a v
Gives t s o (Constant k) v = v ≡ Some k

-- neither is null, and their values are so related
abbrev pub Related : (ℕ → ℕ → Type 0) → Option ℕ → Option ℕ → Type 0
Related R l r = (x : ℕ) × (y : ℕ) × (l ≡ Some x) × (r ≡ Some y) × R x y

abbrev pub Compared : Comparison → Option ℕ → Option ℕ → Type 0
Compared Equal l r = Related (λ x y. x ≡ y) l r
Compared NotEqual l r = Related (λ x y. x ≢ y) l r
Compared Less l r = Related (λ x y. x < y) l r
Compared AtMost l r = Related (λ x y. x ≤ y) l r
Compared Greater l r = Related (λ x y. y < x) l r
Compared AtLeast l r = Related (λ x y. y ≤ x) l r

abbrev pub Holds : State → ℕ → ℕ → Predicate → Type 0
Holds t s o (Null x) = Reads t s o x None
Holds t s o (Set x) = (v : ℕ) × Reads t s o x (Some v)
Holds t s o (Compare x c y) = (v : Option ℕ) × (w : Option ℕ) × Reads t s o x v × Gives t s o y w × Compared c v w

abbrev pub AllHold : State → ℕ → ℕ → List Predicate → Type 0
AllHold t s o [] = Unit {0}
AllHold t s o (q ∷ qs) = Holds t s o q × AllHold t s o qs

-- t' is t but that attribute a of object i, which is there, now has the value v or is null; a value is below its size
abbrev pub Updates : List ℕ → State → ℕ → ℕ → Option ℕ → State → Type 0
Updates ks t i a v t' =
    (vs : List (Option ℕ)) × There t i vs × (value_fits (slice_index ks a) v ≡ true) × (t' ≡ slice_set t i (there (slice_set vs a v)))

-- the term of an action changes so
abbrev pub Stores : List ℕ → ℕ → ℕ → Term → Option ℕ → State → State → Type 0
Stores ks s o x v t t' = Updates ks t (who x.party s o) x.attribute v t'

-- one action leads from t to t'
abbrev pub Acts : List ℕ → ℕ → ℕ → Action → State → State → Type 0
Acts ks s o (Assign x y) t t' = (v : Option ℕ) × Gives t s o y v × Stores ks s o x v t t'
Acts ks s o (Clear x) t t' = Stores ks s o x None t t'
Acts ks s o (Add x n) t t' = (v : ℕ) × Reads t s o x (Some v) × Stores ks s o x (Some (v + n)) t t'
Acts ks s o (Sub x n) t t' = (v : ℕ) × Reads t s o x (Some (v + n)) × Stores ks s o x (Some v) t t'
Acts ks s o (Destroy w) t t' = (vs : List (Option ℕ)) × There t (who w s o) vs × (t' ≡ slice_set t (who w s o) absent)

-- the actions lead from t to t', each on the state that the one before left
abbrev pub Runs : List ℕ → ℕ → ℕ → List Action → State → State → Type 0
Runs ks s o [] t t' = t' ≡ t
Runs ks s o (a ∷ xs) t t' = (u : State) × Acts ks s o a t u × Runs ks s o xs u t'

-- the policy with these predicates and actions, on s and o, leads from t to t'
pub record Enforces (ks : List ℕ) (qs : List Predicate) (xs : List Action) (s o : ℕ) (t t' : State) : Type 0 where
  pub apart : s ≡ o → ⊥
  pub subject : (vs : List (Option ℕ)) × There t s vs
  pub object : (vs : List (Option ℕ)) × There t o vs
  pub met : AllHold t s o qs
  pub runs : Runs ks s o xs t t'

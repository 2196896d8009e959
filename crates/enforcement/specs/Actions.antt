-- What actions do to a subject and an object; none where an action fails. `ks` has the size of each attribute.
use Rattle.std.specs.Prelude.{ℕ, ◌+◌, ◌-◌, cond, List, [], ◌∷◌, Some, None, Option, nat_le}
use Rattle.std.specs.Option.{option_map}
use Rattle.scheme.specs.declared.terms.Party.{Party}
use Rattle.scheme.specs.declared.terms.Term.{Term}
use Rattle.scheme.specs.declared.terms.Operand.{Operand}
use Rattle.scheme.specs.declared.terms.Operand.TheVariants.{SubjectAttribute, ObjectAttribute, Constant}
use Rattle.scheme.specs.declared.terms.Action.{Action}
use Rattle.scheme.specs.declared.terms.Action.TheVariants.{Assign, Clear, Add, Sub, Destroy}
use Rattle.codes.specs.Objects.{ObjectState, absent, there, read_at, updated}
use Rattle.enforcement.specs.Parties.{Parties, party_in, with_party}

abbrev pub and_then : {A B : Type 0} → Option A → (A → Option B) → Option B
and_then None f = None
and_then (Some x) f = f x

-- the present value, or null, of what an action assigns
abbrev pub source_of : Operand → Parties → Option (Option ℕ)
source_of (SubjectAttribute a) p = read_at p.subject a
source_of (ObjectAttribute a) p = read_at p.object a
source_of (Constant k) p = Some (Some k)

-- the term gets a value or null
abbrev pub stored : List ℕ → Term → Parties → Option ℕ → Option Parties
stored ks t p v = option_map (with_party t.party p) (updated ks (party_in t.party p) t.attribute v)

-- the value that is more, or less, by an amount; null cannot be changed so, and nothing goes below 0
abbrev pub raised : ℕ → Option ℕ → Option (Option ℕ)
raised n None = None
raised n (Some v) = Some (Some (v + n))

abbrev pub lowered : ℕ → Option ℕ → Option (Option ℕ)
lowered n None = None
lowered n (Some v) = cond (nat_le n v) (Some (Some (v - n))) None

abbrev pub changed : List ℕ → Term → (Option ℕ → Option (Option ℕ)) → Parties → Option Parties
changed ks t f p = and_then (and_then (read_at (party_in t.party p) t.attribute) f) (stored ks t p)

-- only what is there can be destroyed
abbrev pub gone : ObjectState → Option ObjectState
gone absent = None
gone (there vs) = Some absent

abbrev pub destroyed : Party → Parties → Option Parties
destroyed w p = option_map (with_party w p) (gone (party_in w p))

abbrev pub acted : List ℕ → Action → Parties → Option Parties
acted ks (Assign t x) p = and_then (source_of x p) (stored ks t p)
acted ks (Clear t) p = stored ks t p None
acted ks (Add t n) p = changed ks t (raised n) p
acted ks (Sub t n) p = changed ks t (lowered n) p
acted ks (Destroy w) p = destroyed w p

-- in order, each on what the one before left
abbrev pub ran : List ℕ → List Action → Parties → Option Parties
ran ks [] p = Some p
ran ks (a ∷ xs) p = and_then (acted ks a p) (ran ks xs)

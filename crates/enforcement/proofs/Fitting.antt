-- Actions keep every value below its size.
use Rattle.std.proofs.Common.{◌≡◌, ℕ, Bool, true, false, cond, List, [], ◌∷◌, get_or, set, Some, None, Option, refl, subst, arith}
use Rattle.std.specs.Option.{option_map}
use Rattle.scheme.specs.declared.terms.Party.{Party}
use Rattle.scheme.specs.declared.terms.Party.TheVariants.{Subject, Object}
use Rattle.scheme.specs.declared.terms.Term.{Term}
use Rattle.scheme.specs.declared.terms.Predicate.{Predicate}
use Rattle.scheme.specs.declared.terms.Action.{Action}
use Rattle.scheme.specs.declared.terms.Action.TheVariants.{Assign, Clear, Add, Sub, Destroy}
use Rattle.scheme.specs.WellFormed.{value_fits}
use Rattle.codes.specs.Objects.{ObjectState, absent, there, object_fits, updated, read_at}
use Rattle.codes.proofs.Weighing.{fit_set}
use Rattle.enforcement.specs.Parties.{Parties, party_in, with_party}
use Rattle.enforcement.specs.Predicates.{all_hold}
use Rattle.enforcement.specs.Actions.{and_then, source_of, stored, raised, lowered, gone, acted, ran}
use Rattle.enforcement.specs.Enforcement.{enforced_on}

-- no option is both none and some
pub none_some : {X : Type 0} (x : X) → None ≡ Some x → ⊥
none_some x e = let z : ◌≡◌ {A = ℕ} 0 1 = cc in omega arith

pub record Fits (ks : List ℕ) (p : Parties) : Type 0 where
  pub subject : object_fits ks p.subject ≡ true
  pub object : object_fits ks p.object ≡ true

fits_with : (ks : List ℕ) (w : Party) (p : Parties) (x : ObjectState) → Fits ks p → object_fits ks x ≡ true → Fits ks (with_party w p x)
fits_with ks Subject p x h f = record { subject = f; object = h.object }
fits_with ks Object p x h f = record { subject = h.subject; object = f }

fits_party : (ks : List ℕ) (w : Party) (p : Parties) → Fits ks p → object_fits ks (party_in w p) ≡ true
fits_party ks Subject p h = h.subject
fits_party ks Object p h = h.object

fits_updated : (ks : List ℕ) (x : ObjectState) (a : ℕ) (v : Option ℕ) (y : ObjectState) → object_fits ks x ≡ true → updated ks x a v ≡ Some y
    → object_fits ks y ≡ true
fits_updated ks absent a v y h e = absurd (none_some y e)
fits_updated ks (there vs) a v y h e = go (value_fits (get_or ks a 0) v) refl e
  where
    go : (b : Bool) → value_fits (get_or ks a 0) v ≡ b → cond b (Some (there (set vs a v))) None ≡ Some y → object_fits ks y ≡ true
    go true f e = let g : there (set vs a v) ≡ y = cc in subst (λ z. object_fits ks z ≡ true) g (fit_set ks vs a v h f)
    go false f e = absurd (none_some y e)

fits_mapped : (ks : List ℕ) (w : Party) (p q : Parties) (z : Option ObjectState) → Fits ks p
    → ((x : ObjectState) → z ≡ Some x → object_fits ks x ≡ true) → option_map (with_party w p) z ≡ Some q → Fits ks q
fits_mapped ks w p q None h f e = absurd (none_some q e)
fits_mapped ks w p q (Some x) h f e =
    let g : with_party w p x ≡ q = cc in
    subst (λ z. Fits ks z) g (fits_with ks w p x h (f x refl))

fits_stored : (ks : List ℕ) (t : Term) (p q : Parties) (v : Option ℕ) → Fits ks p → stored ks t p v ≡ Some q → Fits ks q
fits_stored ks t p q v h e =
    fits_mapped ks t.party p q (updated ks (party_in t.party p) t.attribute v) h
    (λ x f. fits_updated ks (party_in t.party p) t.attribute v x (fits_party ks t.party p h) f) e

-- a step of some parties, and what follows from its answer
pub then_some : {A B : Type 0} (z : Option A) (f : A → Option B) (b : B) → and_then z f ≡ Some b → (a : A) × ((z ≡ Some a) × (f a ≡ Some b))
then_some None f b e = absurd (none_some b e)
then_some (Some a) f b e = (a, (refl, e))

fits_then : (ks : List ℕ) (t : Term) (p q : Parties) (z : Option (Option ℕ)) → Fits ks p → and_then z (stored ks t p) ≡ Some q → Fits ks q
fits_then ks t p q z h e = let s = then_some z (stored ks t p) q e in fits_stored ks t p q s.0 h s.1.1

fits_gone : (ks : List ℕ) (x y : ObjectState) → gone x ≡ Some y → object_fits ks y ≡ true
fits_gone ks absent y e = absurd (none_some y e)
fits_gone ks (there vs) y e = let g : absent ≡ y = cc in subst (λ z. object_fits ks z ≡ true) g refl

pub fits_acted : (ks : List ℕ) (a : Action) (p q : Parties) → Fits ks p → acted ks a p ≡ Some q → Fits ks q
fits_acted ks (Assign t x) p q h e = fits_then ks t p q (source_of x p) h e
fits_acted ks (Clear t) p q h e = fits_stored ks t p q None h e
fits_acted ks (Add t n) p q h e = fits_then ks t p q (and_then (read_at (party_in t.party p) t.attribute) (raised n)) h e
fits_acted ks (Sub t n) p q h e = fits_then ks t p q (and_then (read_at (party_in t.party p) t.attribute) (lowered n)) h e
fits_acted ks (Destroy w) p q h e = fits_mapped ks w p q (gone (party_in w p)) h (λ y f. fits_gone ks (party_in w p) y f) e

pub fits_ran : (ks : List ℕ) (xs : List Action) (p q : Parties) → Fits ks p → ran ks xs p ≡ Some q → Fits ks q
fits_ran ks [] p q h e = let g : p ≡ q = cc in subst (λ z. Fits ks z) g h
fits_ran ks (a ∷ xs) p q h e =
    let s = then_some (acted ks a p) (ran ks xs) q e in
    fits_ran ks xs s.0 q (fits_acted ks a p s.0 h s.1.0) s.1.1

pub fits_enforced : (ks : List ℕ) (qs : List Predicate) (xs : List Action) (x y : ObjectState) (q : Parties)
    → object_fits ks x ≡ true → object_fits ks y ≡ true → enforced_on ks qs xs x y ≡ Some q → Fits ks q
fits_enforced ks qs xs absent y q hx hy e = absurd (none_some q e)
fits_enforced ks qs xs (there u) absent q hx hy e = absurd (none_some q e)
fits_enforced ks qs xs (there u) (there v) q hx hy e = go (all_hold qs u v) e
  where
    go : (b : Bool) → cond b (ran ks xs (record { subject = there u; object = there v })) None ≡ Some q → Fits ks q
    go true e = fits_ran ks xs (record { subject = there u; object = there v }) q (record { subject = hx; object = hy }) e
    go false e = absurd (none_some q e)

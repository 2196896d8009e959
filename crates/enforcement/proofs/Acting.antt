-- Actions: what is computed of the two parties is what the relation says of the states that have them.
use Rattle.std.proofs.Common.{◌≡◌, ℕ, ◌+◌, ◌-◌, ◌<◌, Bool, true, false, cond, leb, ◌≢◌, List, [], ◌∷◌, length, get_or, set, Some, None, Option, sym, refl, ap, ◌∙◌, subst, arith}
use Rattle.std.proofs.lemmas.List.{get_or-set_same, get_or-set_other, set-set, set_comm, set-get_or, length-set}
use Rattle.std.proofs.lemmas.Bool.{leb-true, le-leb}
use Rattle.std.specs.Option.{option_map}
use Rattle.scheme.specs.declared.terms.Party.{Party}
use Rattle.scheme.specs.declared.terms.Party.TheVariants.{Subject, Object}
use Rattle.scheme.specs.declared.terms.Term.{Term}
use Rattle.scheme.specs.declared.terms.Operand.{Operand}
use Rattle.scheme.specs.declared.terms.Operand.TheVariants.{SubjectAttribute, ObjectAttribute, Constant}
use Rattle.scheme.specs.declared.terms.Action.{Action}
use Rattle.scheme.specs.declared.terms.Action.TheVariants.{Assign, Clear, Add, Sub, Destroy}
use Rattle.scheme.specs.WellFormed.{value_fits}
use Rattle.codes.specs.Objects.{ObjectState, absent, there, read_at, updated}
use Rattle.enforcement.specs.Parties.{Parties, party_in, with_party}
use Rattle.enforcement.specs.Actions.{and_then, source_of, stored, raised, lowered, gone, acted, ran}
use Rattle.enforcement.specs.Enforcement.{State, placed}
use Rattle.enforcement.specs.Relation.{There, Has, who, Gives, Stores, Acts, Runs}
use Rattle.enforcement.proofs.Fitting.{none_some, then_some}

-- the state t has the parties p at s and o
pub record Views (t : State) (s o : ℕ) (p : Parties) : Type 0 where
  pub apart : s ≢ o
  pub s_lt : s < length t
  pub o_lt : o < length t
  pub s_is : get_or t s absent ≡ p.subject
  pub o_is : get_or t o absent ≡ p.object

views_placed : (t : State) (s o : ℕ) (p q : Parties) → Views t s o p → Views (placed t s o q) s o q
views_placed t s o p q v =
    let ne = v.apart in
    let sl = v.s_lt in
    let ol = v.o_lt in
    let ol' : o < length (set t s q.subject) = simp length-set ol in
    record {
      apart = ne;
      s_lt = simp length-set sl;
      o_lt = simp length-set ol;
      s_is = get_or-set_other (set t s q.subject) o s q.object absent ne ∙ get_or-set_same t s q.subject absent sl;
      o_is = get_or-set_same (set t s q.subject) o q.object absent ol';
    }

placed_twice : (t : State) (s o : ℕ) (p q : Parties) → s ≢ o → placed (placed t s o p) s o q ≡ placed t s o q
placed_twice t s o p q ne =
    let no : o ≢ s = λ e. ne (sym e) in
    ap (λ x. set x o q.object) (set_comm (set t s p.subject) o s p.object q.subject no)
    ∙ (set-set (set (set t s p.subject) s q.subject) o p.object q.object
    ∙ ap (λ x. set x o q.object) (set-set t s p.subject q.subject))

set_same : (t : State) (i : ℕ) (x : ObjectState) → get_or t i absent ≡ x → set t i x ≡ t
set_same t i x e = ap (λ y. set t i y) (sym e) ∙ set-get_or t i absent

pub placed_same : (t : State) (s o : ℕ) (p : Parties) → Views t s o p → placed t s o p ≡ t
placed_same t s o p v =
    ap (λ x. set x o p.object) (set_same t s p.subject v.s_is) ∙ set_same t o p.object v.o_is

module _ (ks : List ℕ) (t : State) (s o : ℕ) (p : Parties) (view : Views t s o p) where
  at_party : (w : Party) → get_or t (who w s o) absent ≡ party_in w p
  at_party Subject = view.s_is
  at_party Object = view.o_is

  set_party : (w : Party) (x : ObjectState) → set t (who w s o) x ≡ placed t s o (with_party w p x)
  set_party Subject x =
      let no : o ≢ s = λ e. view.apart (sym e) in
      sym (set_same (set t s x) o p.object (get_or-set_other t s o x absent no ∙ view.o_is))
  set_party Object x = ap (λ y. set y o x) (sym (set_same t s p.subject view.s_is))

  -- reading

  has_read : (w : Party) (a : ℕ) (v : Option ℕ) → read_at (party_in w p) a ≡ Some v → Has t (who w s o) a v
  has_read w a v h = go (party_in w p) (at_party w) h
    where
      go : (x : ObjectState) → get_or t (who w s o) absent ≡ x → read_at x a ≡ Some v → Has t (who w s o) a v
      go absent e h = absurd (none_some v h)
      go (there vs) e h = (vs, e, cc)

  read_has : (w : Party) (a : ℕ) (v : Option ℕ) → Has t (who w s o) a v → read_at (party_in w p) a ≡ Some v
  read_has w a v h =
      let f : party_in w p ≡ there h.0 = sym (at_party w) ∙ h.1 in
      ap (λ y. read_at y a) f ∙ ap (λ y. Some y) (sym h.2)

  source_gives : (y : Operand) (v : Option ℕ) → source_of y p ≡ Some v → Gives t s o y v
  source_gives (SubjectAttribute a) v h = has_read Subject a v h
  source_gives (ObjectAttribute a) v h = has_read Object a v h
  source_gives (Constant k) v h = cc

  gives_source : (y : Operand) (v : Option ℕ) → Gives t s o y v → source_of y p ≡ Some v
  gives_source (SubjectAttribute a) v h = read_has Subject a v h
  gives_source (ObjectAttribute a) v h = read_has Object a v h
  gives_source (Constant k) v h = ap (λ y. Some y) (sym h)

  -- updating

  party_placed : (w : Party) (q : Parties) (x : ObjectState) → Some (with_party w p x) ≡ Some q → placed t s o q ≡ set t (who w s o) x
  party_placed w q x e = let f : q ≡ with_party w p x = cc in ap (λ z. placed t s o z) f ∙ sym (set_party w x)

  store_sound : (x : Term) (v : Option ℕ) (q : Parties) → stored ks x p v ≡ Some q → Stores ks s o x v t (placed t s o q)
  store_sound x v q h = go (party_in x.party p) (at_party x.party) h
    where
      fit : (vs : List (Option ℕ)) (b : Bool) → value_fits (get_or ks x.attribute 0) v ≡ b → There t (who x.party s o) vs
          → option_map (with_party x.party p) (cond b (Some (there (set vs x.attribute v))) None) ≡ Some q
          → Stores ks s o x v t (placed t s o q)
      fit vs true b th e = (vs, th, b, party_placed x.party q (there (set vs x.attribute v)) e)
      fit vs false b th e = absurd (none_some q e)

      go : (y : ObjectState) → get_or t (who x.party s o) absent ≡ y
          → option_map (with_party x.party p) (updated ks y x.attribute v) ≡ Some q → Stores ks s o x v t (placed t s o q)
      go absent th e = absurd (none_some q e)
      go (there vs) th e = fit vs (value_fits (get_or ks x.attribute 0) v) refl th e

  store_complete : (x : Term) (v : Option ℕ) (u : State) → Stores ks s o x v t u
      → (q : Parties) × (stored ks x p v ≡ Some q) × (u ≡ placed t s o q)
  store_complete x v u h =
      let y = there (set h.0 x.attribute v) in
      let is : party_in x.party p ≡ there h.0 = sym (at_party x.party) ∙ h.1 in (
        with_party x.party p y,
        ap (λ z. option_map (with_party x.party p) (updated ks z x.attribute v)) is
            ∙ ap (λ b. option_map (with_party x.party p) (cond b (Some y) None)) h.2,
        h.3 ∙ set_party x.party y,
      )

  -- one action

  raised_from : (n : ℕ) (z : Option (Option ℕ)) (v : Option ℕ) → and_then z (raised n) ≡ Some v → (k : ℕ) × (z ≡ Some (Some k)) × (v ≡ Some (k + n))
  raised_from n None v e = absurd (none_some v e)
  raised_from n (Some None) v e = absurd (none_some v e)
  raised_from n (Some (Some k)) v e = (k, refl, cc)

  lowered_from : (n : ℕ) (z : Option (Option ℕ)) (v : Option ℕ) → and_then z (lowered n) ≡ Some v → (k : ℕ) × (z ≡ Some (Some (k + n))) × (v ≡ Some k)
  lowered_from n None v e = absurd (none_some v e)
  lowered_from n (Some None) v e = absurd (none_some v e)
  lowered_from n (Some (Some k)) v e = go (leb n k) refl e
    where
      go : (b : Bool) → leb n k ≡ b → cond b (Some (Some (k - n))) None ≡ Some v → (j : ℕ) × (Some (Some k) ≡ Some (Some (j + n))) × (v ≡ Some j)
      go true f e = let le = leb-true n k f in let same : k ≡ k - n + n = omega arith in (k - n, ap (λ i. Some (Some i)) same, cc)
      go false f e = absurd (none_some v e)

  lower_back : (n k : ℕ) → lowered n (Some (k + n)) ≡ Some (Some k)
  lower_back n k =
      let same : k + n - n ≡ k = omega arith in
      ap (λ b. cond b (Some (Some (k + n - n))) None) (le-leb n (k + n) (omega arith)) ∙ ap (λ i. Some (Some i)) same

  act_sound : (a : Action) (q : Parties) → acted ks a p ≡ Some q → Acts ks s o a t (placed t s o q)
  act_sound (Assign x y) q h =
      let r = then_some (source_of y p) (stored ks x p) q h in
      (r.0, source_gives y r.0 r.1.0, store_sound x r.0 q r.1.1)
  act_sound (Clear x) q h = store_sound x None q h
  act_sound (Add x n) q h =
      let r = then_some (and_then (read_at (party_in x.party p) x.attribute) (raised n)) (stored ks x p) q h in
      let k = raised_from n (read_at (party_in x.party p) x.attribute) r.0 r.1.0 in
      (k.0, has_read x.party x.attribute (Some k.0) k.1, store_sound x (Some (k.0 + n)) q (ap (λ v. stored ks x p v) (sym k.2) ∙ r.1.1))
  act_sound (Sub x n) q h =
      let r = then_some (and_then (read_at (party_in x.party p) x.attribute) (lowered n)) (stored ks x p) q h in
      let k = lowered_from n (read_at (party_in x.party p) x.attribute) r.0 r.1.0 in
      (k.0, has_read x.party x.attribute (Some (k.0 + n)) k.1, store_sound x (Some k.0) q (ap (λ v. stored ks x p v) (sym k.2) ∙ r.1.1))
  act_sound (Destroy d) q h = go (party_in d p) (at_party d) h
    where
      go : (y : ObjectState) → get_or t (who d s o) absent ≡ y → option_map (with_party d p) (gone y) ≡ Some q → Acts ks s o (Destroy d) t (placed t s o q)
      go absent e h = absurd (none_some q h)
      go (there vs) e h = (vs, e, party_placed d q absent h)

  act_complete : (a : Action) (u : State) → Acts ks s o a t u → (q : Parties) × (acted ks a p ≡ Some q) × (u ≡ placed t s o q)
  act_complete (Assign x y) u h =
      let r = store_complete x h.0 u h.2 in
      (r.0, ap (λ z. and_then z (stored ks x p)) (gives_source y h.0 h.1) ∙ r.1, r.2)
  act_complete (Clear x) u h = store_complete x None u h
  act_complete (Add x n) u h =
      let r = store_complete x (Some (h.0 + n)) u h.2 in
      (r.0, ap (λ z. and_then (and_then z (raised n)) (stored ks x p)) (read_has x.party x.attribute (Some h.0) h.1) ∙ r.1, r.2)
  act_complete (Sub x n) u h =
      let r = store_complete x (Some h.0) u h.2 in (
        r.0,
        ap (λ z. and_then (and_then z (lowered n)) (stored ks x p)) (read_has x.party x.attribute (Some (h.0 + n)) h.1)
            ∙ ap (λ z. and_then z (stored ks x p)) (lower_back n h.0)
            ∙ r.1,
        r.2,
      )
  act_complete (Destroy d) u h =
      let is : party_in d p ≡ there h.0 = sym (at_party d) ∙ h.1 in
      (with_party d p absent, ap (λ y. option_map (with_party d p) (gone y)) is, h.2 ∙ set_party d absent)

-- the actions in order

pub ran_sound : (ks : List ℕ) (s o : ℕ) (xs : List Action) (t : State) (p q : Parties) → Views t s o p
    → ran ks xs p ≡ Some q → Runs ks s o xs t (placed t s o q)
ran_sound ks s o [] t p q w h =
    let e : q ≡ p = cc in
    ap (λ z. placed t s o z) e ∙ placed_same t s o p w
ran_sound ks s o (a ∷ xs) t p q w h =
    let r = then_some (acted ks a p) (ran ks xs) q h in (
      placed t s o r.0,
      act_sound ks t s o p w a r.0 r.1.0,
      subst (λ z. Runs ks s o xs (placed t s o r.0) z) (placed_twice t s o r.0 q w.apart)
          (ran_sound ks s o xs (placed t s o r.0) r.0 q (views_placed t s o p r.0 w) r.1.1),
    )

pub ran_complete : (ks : List ℕ) (s o : ℕ) (xs : List Action) (t : State) (p : Parties) (t' : State) → Views t s o p
    → Runs ks s o xs t t' → (q : Parties) × (ran ks xs p ≡ Some q) × (t' ≡ placed t s o q)
ran_complete ks s o [] t p t' w h = (p, refl, h ∙ sym (placed_same t s o p w))
ran_complete ks s o (a ∷ xs) t p t' w h =
    let f = act_complete ks t s o p w a h.0 h.1 in
    let v = subst (λ z. Views z s o f.0) (sym f.2) (views_placed t s o p f.0 w) in
    let r = ran_complete ks s o xs h.0 f.0 t' v h.2 in (
      r.0,
      ap (λ z. and_then z (ran ks xs)) f.1 ∙ r.1,
      r.2 ∙ (ap (λ z. placed z s o r.0) f.2 ∙ placed_twice t s o f.0 r.0 w.apart),
    )

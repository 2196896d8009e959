-- Enforcement as it is computed, and as a relation between states, agree.
use Rattle.std.proofs.Common.{◌≡◌, ℕ, ◌<◌, ◌≤◌, Bool, true, false, cond, eqb, ◌⊎◌, ◌↔◌, List, length, get_or, Some, None, Option, sym, refl, ap, ◌∙◌, subst, inl, inr, arith}
use Rattle.std.proofs.lemmas.List.{get_or_past}
use Rattle.std.proofs.lemmas.Bool.{eqb-false, ne_eqb, cases_lt}
use Rattle.std.specs.Option.{option_map}
use Rattle.scheme.specs.declared.terms.Predicate.{Predicate}
use Rattle.scheme.specs.declared.terms.Action.{Action}
use Rattle.codes.specs.Objects.{ObjectState, absent, there}
use Rattle.enforcement.specs.Parties.{Parties}
use Rattle.enforcement.specs.Predicates.{all_hold}
use Rattle.enforcement.specs.Actions.{ran}
use Rattle.enforcement.specs.Enforcement.{State, enforced_on, placed, enforced}
use Rattle.enforcement.specs.Relation.{There, Runs, Enforces}
use Rattle.enforcement.proofs.Fitting.{none_some}
use Rattle.enforcement.proofs.Holding.{all_sound, all_complete}
use Rattle.enforcement.proofs.Acting.{Views, ran_sound, ran_complete}

there_below : (t : State) (i : ℕ) (vs : List (Option ℕ)) → There t i vs → i < length t
there_below t i vs h = go (cases_lt i (length t))
  where
    go : (i < length t) ⊎ (length t ≤ i) → i < length t
    go (inl l) = l
    go (inr g) = let e = get_or_past t i absent g in let z : ◌≡◌ {A = ℕ} 0 1 = cc in absurd (omega arith)

module _ (ks : List ℕ) (qs : List Predicate) (xs : List Action) (s o : ℕ) (t t' : State) where
  views_of : (u v : List (Option ℕ)) → (s ≡ o → ⊥) → There t s u → There t o v → Views t s o (record { subject = there u; object = there v })
  views_of u v ne hu hv =
      record { apart = ne; s_lt = there_below t s u hu; o_lt = there_below t o v hv; s_is = hu; o_is = hv }

  sound : enforced ks qs xs s o t ≡ Some t' → Enforces ks qs xs s o t t'
  sound h = go (eqb s o) refl h
    where
      end : (u v : List (Option ℕ)) → (s ≡ o → ⊥) → There t s u → There t o v → all_hold qs u v ≡ true → (z : Option Parties)
          → ran ks xs (record { subject = there u; object = there v }) ≡ z → option_map (placed t s o) z ≡ Some t'
          → Enforces ks qs xs s o t t'
      end u v ne hu hv a None e h = absurd (none_some t' h)
      end u v ne hu hv a (Some q) e h =
          let is : placed t s o q ≡ t' = cc in
          record {
            apart = ne;
            subject = (u, hu);
            object = (v, hv);
            met = all_sound t s o u v hu hv qs a;
            runs = subst (λ z. Runs ks s o xs t z) is (ran_sound ks s o xs t (record { subject = there u; object = there v }) q (views_of u v ne hu hv) e);
          }

      met : (u v : List (Option ℕ)) → (s ≡ o → ⊥) → There t s u → There t o v → (b : Bool) → all_hold qs u v ≡ b
          → option_map (placed t s o) (cond b (ran ks xs (record { subject = there u; object = there v })) None) ≡ Some t'
          → Enforces ks qs xs s o t t'
      met u v ne hu hv true a h = end u v ne hu hv a (ran ks xs (record { subject = there u; object = there v })) refl h
      met u v ne hu hv false a h = absurd (none_some t' h)

      on : (s ≡ o → ⊥) → (x y : ObjectState) → get_or t s absent ≡ x → get_or t o absent ≡ y
          → option_map (placed t s o) (enforced_on ks qs xs x y) ≡ Some t' → Enforces ks qs xs s o t t'
      on ne absent y ex ey h = absurd (none_some t' h)
      on ne (there u) absent ex ey h = absurd (none_some t' h)
      on ne (there u) (there v) ex ey h = met u v ne ex ey (all_hold qs u v) refl h

      go : (b : Bool) → eqb s o ≡ b → cond b None (option_map (placed t s o) (enforced_on ks qs xs (get_or t s absent) (get_or t o absent))) ≡ Some t'
          → Enforces ks qs xs s o t t'
      go true e h = absurd (none_some t' h)
      go false e h = on (eqb-false s o e) (get_or t s absent) (get_or t o absent) refl refl h

  complete : Enforces ks qs xs s o t t' → enforced ks qs xs s o t ≡ Some t'
  complete h =
      let u = h.subject.0 in
      let v = h.object.0 in
      let hu = h.subject.1 in
      let hv = h.object.1 in
      let p : Parties = record { subject = there u; object = there v } in
      let r = ran_complete ks s o xs t p t' (views_of u v h.apart hu hv) h.runs in
      ap (λ b. cond b None (option_map (placed t s o) (enforced_on ks qs xs (get_or t s absent) (get_or t o absent)))) (ne_eqb s o h.apart)
      ∙ (ap (λ x. option_map (placed t s o) (enforced_on ks qs xs x (get_or t o absent))) hu
      ∙ (ap (λ y. option_map (placed t s o) (enforced_on ks qs xs (there u) y)) hv
      ∙ (ap (λ b. option_map (placed t s o) (cond b (ran ks xs p) None)) (all_complete t s o u v hu hv qs h.met)
      ∙ (ap (λ z. option_map (placed t s o) z) r.1 ∙ ap (λ z. Some z) (sym r.2)))))

  pub enforcement_agrees : (enforced ks qs xs s o t ≡ Some t') ↔ Enforces ks qs xs s o t t'
  enforcement_agrees = (sound, complete)

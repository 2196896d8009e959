-- What is done to codes is what is done to the objects that they stand for.
use Rattle.std.proofs.Common.{◌≡◌, ℕ, ◌+◌, ◌<◌, List, [], length, get_or, drop, Some, None, Option, sym, refl, ap, ◌∙◌, subst}
use Rattle.std.proofs.lemmas.List.{at_drop_more}
use Rattle.std.proofs.lemmas.Bool.{lt-ltb, cond-true}
use Rattle.std.specs.Option.{option_map}
use Rattle.scheme.specs.Sizes.{size_states}
use Rattle.scheme.specs.declared.terms.Party.{Party}
use Rattle.scheme.specs.declared.terms.Party.TheVariants.{Subject, Object}
use Rattle.scheme.specs.declared.terms.Term.{Term}
use Rattle.scheme.specs.declared.terms.Action.{Action}
use Rattle.codes.specs.Objects.{ObjectState, updated}
use Rattle.codes.specs.Codes.{code, object_from, updated_code}
use Rattle.codes.proofs.Digits.{code_below, object_code, code_object, fits_object}
use Rattle.codes.proofs.Weighing.{present}
use Rattle.enforcement.specs.declared.pair.Pair.{Pair}
use Rattle.enforcement.specs.Parties.{Parties, party_in, with_party}
use Rattle.enforcement.specs.Actions.{and_then, stored, gone, destroyed, acted, ran}
use Rattle.enforcement.specs.Coded.{parties_from, pair_of, code_in, with_code, Coded, on_codes}
use Rattle.enforcement.proofs.Fitting.{Fits, none_some, fits_acted}

module _ (ks : List ℕ) where
  party_from : (w : Party) (p : Pair) → party_in w (parties_from ks p) ≡ object_from ks (code_in w p)
  party_from Subject p = refl
  party_from Object p = refl

  code_known : (w : Party) (p : Pair) → Coded ks p → code_in w p < size_states ks
  code_known Subject p h = h.subject
  code_known Object p h = h.object

  with_code_lem : (w : Party) (p : Pair) (x : ObjectState) → Coded ks p → with_code w p (code ks x) ≡ pair_of ks (with_party w (parties_from ks p) x)
  with_code_lem Subject p x h = ap (λ n. record { subject = code ks x; object = n }) (sym (code_object ks p.object h.object))
  with_code_lem Object p x h = ap (λ n. record { subject = n; object = code ks x }) (sym (code_object ks p.subject h.subject))

  -- another object in the place of one party
  placed_is : (w : Party) (p : Pair) (c : ℕ) (z : Option ObjectState) → Coded ks p → Some c ≡ option_map (code ks) z
      → Some (with_code w p c) ≡ option_map (pair_of ks) (option_map (with_party w (parties_from ks p)) z)
  placed_is w p c None h e = absurd (none_some c (sym e))
  placed_is w p c (Some x) h e =
      let g : c ≡ code ks x = cc in
      ap Some (ap (λ n. with_code w p n) g ∙ with_code_lem w p x h)

  pub store_is : (t : Term) (p : Pair) (v : Option ℕ) (c : ℕ) → Coded ks p → Some c ≡ updated_code ks (code_in t.party p) t.attribute v
      → Some (with_code t.party p c) ≡ on_codes ks (λ q. stored ks t q v) p
  store_is t p v c h e =
      placed_is t.party p c (updated ks (party_in t.party (parties_from ks p)) t.attribute v) h
      (e
      ∙ cond-true _ _ _ (lt-ltb (code_in t.party p) (size_states ks) (code_known t.party p h))
      ∙ ap (λ x. option_map (code ks) (updated ks x t.attribute v)) (sym (party_from t.party p)))

  pub destroy_is : (w : Party) (p : Pair) → Coded ks p → 0 < code_in w p → Some (with_code w p 0) ≡ on_codes ks (destroyed w) p
  destroy_is w p h pos =
      placed_is w p 0 (gone (party_in w (parties_from ks p))) h
      (sym (ap (λ x. option_map (code ks) (gone x)) (party_from w p ∙ present ks (code_in w p) pos)))

  -- One action after another.

  parties_fit : (p : Pair) → Fits ks (parties_from ks p)
  parties_fit p = record { subject = fits_object ks p.subject; object = fits_object ks p.object }

  pub record Continues (p p' : Pair) (a : Action) : Type 0 where
    pub coded : Coded ks p'
    pub acts : acted ks a (parties_from ks p) ≡ Some (parties_from ks p')

  continues : (p p' : Pair) (a : Action) → Coded ks p → Some p' ≡ on_codes ks (acted ks a) p → Continues p p' a
  continues p p' a h e = go (acted ks a (parties_from ks p)) refl e
    where
      go : (z : Option Parties) → acted ks a (parties_from ks p) ≡ z → Some p' ≡ option_map (pair_of ks) z → Continues p p' a
      go None f e = absurd (none_some p' (sym e))
      go (Some q) f e =
          let fit = fits_acted ks a (parties_from ks p) q (parties_fit p) f in
          let is : p' ≡ pair_of ks q = cc in
          let back : parties_from ks (pair_of ks q) ≡ q =
          ap (λ x. record { subject = x; object = object_from ks (code ks q.object) }) (object_code ks q.subject fit.subject)
          ∙ ap (λ x. record { subject = q.subject; object = x }) (object_code ks q.object fit.object) in
          record {
            coded = subst (λ x. Coded ks x) (sym is) (record { subject = code_below ks q.subject fit.subject; object = code_below ks q.object fit.object });
            acts = f ∙ ap Some (sym (ap (λ x. parties_from ks x) is ∙ back));
          }

  -- what is left, from the next pair on
  pub ran_more : (xs : List Action) (i : ℕ) (a : Action) (p p' : Pair) → i < length xs → Coded ks p → Some p' ≡ on_codes ks (acted ks (get_or xs i a)) p
      → (on_codes ks (ran ks (drop (i + 1) xs)) p' ≡ on_codes ks (ran ks (drop i xs)) p) × Coded ks p'
  ran_more xs i a p p' inside h e =
      let c = continues p p' (get_or xs i a) h e in (
        sym (at_drop_more (λ l. on_codes ks (ran ks l) p) xs i a inside
            ∙ ap (λ z. option_map (pair_of ks) (and_then z (ran ks (drop (i + 1) xs)))) c.acts),
        c.coded,
      )

  pub ran_none : (p : Pair) → Coded ks p → Some p ≡ on_codes ks (ran ks []) p
  ran_none p h =
      ap Some (ap (λ n. record { subject = n; object = p.object }) (sym (code_object ks p.subject h.subject))
      ∙ ap (λ n. record { subject = code ks (object_from ks p.subject); object = n }) (sym (code_object ks p.object h.object)))

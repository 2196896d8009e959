-- Predicates: what is computed of the values is what the relation says of the state.
use Rattle.std.proofs.Common.{◌≡◌, ℕ, Bool, true, not, eqb, ltb, leb, List, [], ◌∷◌, get_or, is_some, Some, None, Option, sym, refl, ap, ◌∙◌, subst}
use Rattle.std.proofs.lemmas.Bool.{false≢true, ltb-true, leb-true, eqb-true, eqb-false, lt-ltb, le-leb, eq-eqb, ne_eqb, and_parts, and_from, not-true, not_from_false}
use Rattle.scheme.specs.declared.terms.Party.{Party}
use Rattle.scheme.specs.declared.terms.Party.TheVariants.{Subject, Object}
use Rattle.scheme.specs.declared.terms.Operand.{Operand}
use Rattle.scheme.specs.declared.terms.Operand.TheVariants.{SubjectAttribute, ObjectAttribute, Constant}
use Rattle.scheme.specs.declared.terms.Comparison.{Comparison}
use Rattle.scheme.specs.declared.terms.Comparison.TheVariants.{Equal, NotEqual, Less, AtMost, Greater, AtLeast}
use Rattle.scheme.specs.declared.terms.Predicate.{Predicate}
use Rattle.scheme.specs.declared.terms.Predicate.TheVariants.{Null, Set, Compare}
use Rattle.codes.specs.Objects.{there}
use Rattle.enforcement.specs.Predicates.{both, compares, party_value, term_value, operand_value, holds_on, all_hold}
use Rattle.enforcement.specs.Enforcement.{State}
use Rattle.enforcement.specs.Relation.{There, Has, who, Gives, Related, Compared, Holds, AllHold}

related_true : (f : ℕ → ℕ → Bool) (R : ℕ → ℕ → Type 0) → ((x y : ℕ) → f x y ≡ true → R x y)
    → (l r : Option ℕ) → both f l r ≡ true → Related R l r
related_true f R g None r e = absurd (false≢true e)
related_true f R g (Some x) None e = absurd (false≢true e)
related_true f R g (Some x) (Some y) e = (x, y, refl, refl, g x y e)

true_related : (f : ℕ → ℕ → Bool) (R : ℕ → ℕ → Type 0) → ((x y : ℕ) → R x y → f x y ≡ true)
    → (l r : Option ℕ) → Related R l r → both f l r ≡ true
true_related f R g l r h = rw (h.2, h.3) (g h.0 h.1 h.4)

compared_true : (c : Comparison) (l r : Option ℕ) → compares c l r ≡ true → Compared c l r
compared_true Equal l r e = related_true eqb _ eqb-true l r e
compared_true NotEqual l r e = related_true _ _ (λ x y h. eqb-false x y (not-true (eqb x y) h)) l r e
compared_true Less l r e = related_true ltb _ ltb-true l r e
compared_true AtMost l r e = related_true leb _ leb-true l r e
compared_true Greater l r e = related_true _ _ (λ x y h. ltb-true y x h) l r e
compared_true AtLeast l r e = related_true _ _ (λ x y h. leb-true y x h) l r e

true_compared : (c : Comparison) (l r : Option ℕ) → Compared c l r → compares c l r ≡ true
true_compared Equal l r h = true_related eqb _ eq-eqb l r h
true_compared NotEqual l r h = true_related _ _ (λ x y g. not_from_false (eqb x y) (ne_eqb x y g)) l r h
true_compared Less l r h = true_related ltb _ lt-ltb l r h
true_compared AtMost l r h = true_related leb _ le-leb l r h
true_compared Greater l r h = true_related _ _ (λ x y g. lt-ltb y x g) l r h
true_compared AtLeast l r h = true_related _ _ (λ x y g. le-leb y x g) l r h

null_is : (v : Option ℕ) → not (is_some v) ≡ true → None ≡ v
null_is None e = refl
null_is (Some x) e = absurd (false≢true e)

set_is : (v : Option ℕ) → is_some v ≡ true → (x : ℕ) × (Some x ≡ v)
set_is None e = absurd (false≢true e)
set_is (Some x) e = (x, refl)

-- subject s has the values u, and object o the values v
module _ (t : State) (s o : ℕ) (u v : List (Option ℕ)) (hu : There t s u) (hv : There t o v) where
  has_value : (w : Party) (a : ℕ) → Has t (who w s o) a (party_value w a u v)
  has_value Subject a = (u, hu, refl)
  has_value Object a = (v, hv, refl)

  same_values : (i : ℕ) (xs ys : List (Option ℕ)) → There t i xs → There t i ys → xs ≡ ys
  same_values i xs ys hx hy = let f : there xs ≡ there ys = sym hx ∙ hy in cc

  value_has : (w : Party) (a : ℕ) (x : Option ℕ) → Has t (who w s o) a x → x ≡ party_value w a u v
  value_has Subject a x h = h.2 ∙ ap (λ z. get_or z a None) (same_values s h.0 u h.1 hu)
  value_has Object a x h = h.2 ∙ ap (λ z. get_or z a None) (same_values o h.0 v h.1 hv)

  gives_value : (y : Operand) → Gives t s o y (operand_value y u v)
  gives_value (SubjectAttribute a) = has_value Subject a
  gives_value (ObjectAttribute a) = has_value Object a
  gives_value (Constant k) = refl

  value_gives : (y : Operand) (x : Option ℕ) → Gives t s o y x → x ≡ operand_value y u v
  value_gives (SubjectAttribute a) x h = value_has Subject a x h
  value_gives (ObjectAttribute a) x h = value_has Object a x h
  value_gives (Constant k) x h = h

  holds_sound : (q : Predicate) → holds_on q u v ≡ true → Holds t s o q
  holds_sound (Null x) e =
      subst (λ z. Has t (who x.party s o) x.attribute z) (sym (null_is (term_value x u v) e)) (has_value x.party x.attribute)
  holds_sound (Set x) e =
      let k = set_is (term_value x u v) e in
      (k.0, subst (λ z. Has t (who x.party s o) x.attribute z) (sym k.1) (has_value x.party x.attribute))
  holds_sound (Compare x c y) e = (
    term_value x u v,
    operand_value y u v,
    has_value x.party x.attribute,
    gives_value y,
    compared_true c (term_value x u v) (operand_value y u v) e,
  )

  holds_complete : (q : Predicate) → Holds t s o q → holds_on q u v ≡ true
  holds_complete (Null x) h = ap (λ z. not (is_some z)) (sym (value_has x.party x.attribute None h))
  holds_complete (Set x) h = ap (λ z. is_some z) (sym (value_has x.party x.attribute (Some h.0) h.1))
  holds_complete (Compare x c y) h =
      ap (λ z. compares c z (operand_value y u v)) (sym (value_has x.party x.attribute h.0 h.2))
      ∙ (ap (λ z. compares c h.0 z) (sym (value_gives y h.1 h.3))
      ∙ true_compared c h.0 h.1 h.4)

  pub all_sound : (qs : List Predicate) → all_hold qs u v ≡ true → AllHold t s o qs
  all_sound [] e = tt
  all_sound (q ∷ qs) e =
      let p = and_parts (holds_on q u v) (all_hold qs u v) e in
      (holds_sound q p.0, all_sound qs p.1)

  pub all_complete : (qs : List Predicate) → AllHold t s o qs → all_hold qs u v ≡ true
  all_complete [] h = refl
  all_complete (q ∷ qs) h = and_from (holds_on q u v) (all_hold qs u v) (holds_complete q h.0) (all_complete qs h.1)

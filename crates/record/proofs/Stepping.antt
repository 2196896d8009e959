-- Enforcement on the codes of two objects of a state is enforcement on the state.
use Rattle.std.proofs.Common.{◌≡◌, ℕ, ◌/◌, ◌%◌, ◌^◌, ◌<◌, cond, ◌≢◌, List, get_or, set, Some, None, Option, sym, refl, ap, ◌∙◌, subst, arith}
use Rattle.std.proofs.lemmas.Nat.{mod_below}
use Rattle.std.proofs.lemmas.Bool.{cond-true, and_from, lt-ltb, ne_eqb}
use Rattle.std.specs.Option.{option_map}
use Rattle.scheme.specs.Sizes.{size_states}
use Rattle.scheme.specs.declared.terms.Predicate.{Predicate}
use Rattle.scheme.specs.declared.terms.Action.{Action}
use Rattle.codes.specs.Objects.{absent}
use Rattle.codes.specs.Codes.{object_from}
use Rattle.codes.proofs.Digits.{code_below, object_code, fits_object}
use Rattle.enforcement.specs.declared.pair.Pair.{Pair}
use Rattle.enforcement.specs.Parties.{Parties}
use Rattle.enforcement.specs.Coded.{pair_of, enforced_pair}
use Rattle.enforcement.specs.Enforcement.{enforced_on, placed, enforced}
use Rattle.enforcement.proofs.Fitting.{none_some, fits_enforced}
use Rattle.record.specs.States.{number, state_from}
use Rattle.record.specs.Numberings.{pair_at}
use Rattle.record.proofs.Exchanging.{object_at, state_exchanged}

abbrev pub on_pair : List ℕ → List Predicate → List Action → Pair → Option Parties
on_pair ks qs xs p = enforced_on ks qs xs (object_from ks p.subject) (object_from ks p.object)

pair_known : (ks : List ℕ) (qs : List Predicate) (xs : List Action) (x s o : ℕ)
    → enforced_pair ks qs xs (pair_at ks x s o) ≡ option_map (pair_of ks) (on_pair ks qs xs (pair_at ks x s o))
pair_known ks qs xs x s o =
    let b = size_states ks in
    let pos : 0 < b = omega arith in
    cond-true _ _ _ (and_from _ _ (lt-ltb (x / b ^ s % b) b (mod_below (x / b ^ s) b pos)) (lt-ltb (x / b ^ o % b) b (mod_below (x / b ^ o) b pos)))

state_known : (ks : List ℕ) (n : ℕ) (qs : List Predicate) (xs : List Action) (x s o : ℕ) → s < n → o < n → s ≢ o
    → enforced ks qs xs s o (state_from ks n x) ≡ option_map (placed (state_from ks n x) s o) (on_pair ks qs xs (pair_at ks x s o))
state_known ks n qs xs x s o hs ho apart =
    let t = state_from ks n x in
    ap (λ b. cond b None (option_map (placed t s o) (enforced_on ks qs xs (get_or t s absent) (get_or t o absent)))) (ne_eqb s o apart)
    ∙ ap (λ y. option_map (placed t s o) (enforced_on ks qs xs y (get_or t o absent))) (object_at ks n s x hs)
    ∙ ap (λ y. option_map (placed t s o) (enforced_on ks qs xs (object_from ks (x / size_states ks ^ s % size_states ks)) y)) (object_at ks n o x ho)

pub enforce_fails : (ks : List ℕ) (n : ℕ) (qs : List Predicate) (xs : List Action) (x s o : ℕ) → s < n → o < n → s ≢ o
    → None ≡ enforced_pair ks qs xs (pair_at ks x s o) → None ≡ option_map (number ks) (enforced ks qs xs s o (state_from ks n x))
enforce_fails ks n qs xs x s o hs ho apart e =
    sym (ap (option_map (number ks)) (state_known ks n qs xs x s o hs ho apart) ∙ none (on_pair ks qs xs (pair_at ks x s o)) (e ∙ pair_known ks qs xs x s o))
  where
    none : (z : Option Parties) → None ≡ option_map (pair_of ks) z → option_map (number ks) (option_map (placed (state_from ks n x) s o) z) ≡ None
    none None e = refl
    none (Some q) e = absurd (none_some (pair_of ks q) e)

-- the codes that enforcement answers, and the state in which they replace the two of the state numbered x
pub record Enforced (ks : List ℕ) (n : ℕ) (qs : List Predicate) (xs : List Action) (x s o : ℕ) (after : Pair) : Type 0 where
  pub subject : after.subject < size_states ks
  pub object : after.object < size_states ks
  pub state : Some (number ks (set (set (state_from ks n x) s (object_from ks after.subject)) o (object_from ks after.object))) ≡ option_map (number ks) (enforced ks qs xs s o (state_from ks n x))

pub enforce_succeeds : (ks : List ℕ) (n : ℕ) (qs : List Predicate) (xs : List Action) (x s o : ℕ) (after : Pair) → s < n → o < n → s ≢ o
    → Some after ≡ enforced_pair ks qs xs (pair_at ks x s o) → Enforced ks n qs xs x s o after
enforce_succeeds ks n qs xs x s o after hs ho apart e = go (on_pair ks qs xs (pair_at ks x s o)) refl (e ∙ pair_known ks qs xs x s o)
  where
    go : (z : Option Parties) → on_pair ks qs xs (pair_at ks x s o) ≡ z → Some after ≡ option_map (pair_of ks) z → Enforced ks n qs xs x s o after
    go None f e = absurd (none_some after (sym e))
    go (Some q) f e =
        let t = state_from ks n x in
        let p = pair_at ks x s o in
        let is : after ≡ pair_of ks q = cc in
        let fits = fits_enforced ks qs xs (object_from ks p.subject) (object_from ks p.object) q (fits_object ks p.subject) (fits_object ks p.object) f in
        let subject_is : object_from ks after.subject ≡ q.subject = ap (λ (y : Pair). object_from ks y.subject) is ∙ object_code ks q.subject fits.subject in
        let object_is : object_from ks after.object ≡ q.object = ap (λ (y : Pair). object_from ks y.object) is ∙ object_code ks q.object fits.object in
        record {
          subject = subst (λ (y : Pair). y.subject < size_states ks) (sym is) (code_below ks q.subject fits.subject);
          object = subst (λ (y : Pair). y.object < size_states ks) (sym is) (code_below ks q.object fits.object);
          state =
              ap (λ y. Some (number ks (set (set t s y) o (object_from ks after.object)))) subject_is
              ∙ ap (λ y. Some (number ks (set (set t s q.subject) o y))) object_is
              ∙ sym (ap (option_map (number ks)) (state_known ks n qs xs x s o hs ho apart ∙ ap (option_map (placed t s o)) f));
        }

-- one exchange after the other
pub exchanged_twice : (ks : List ℕ) (n x s o a b half y : ℕ)
    → half ≡ number ks (set (state_from ks n x) s (object_from ks a))
    → y ≡ number ks (set (state_from ks n half) o (object_from ks b))
    → y ≡ number ks (set (set (state_from ks n x) s (object_from ks a)) o (object_from ks b))
exchanged_twice ks n x s o a b half y is-half is =
    is
    ∙ ap (λ k. number ks (set (state_from ks n k) o (object_from ks b))) is-half
    ∙ ap (λ u. number ks (set u o (object_from ks b))) (state_exchanged ks n x s a)

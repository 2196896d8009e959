-- Enforcement leads from states to states: every step stays below the count of states.
use Rattle.std.proofs.Common.{◌≡◌, ℕ, zero, suc, ◌<◌, Bool, true, false, cond, eqb, List, [], ◌∷◌, length, get_or, set, Some, None, Option, refl, ◌∙◌, subst}
use Rattle.std.proofs.lemmas.List.{length-set}
use Rattle.std.proofs.lemmas.Bool.{and_parts, and_from, eqb-true, eq-eqb}
use Rattle.std.specs.Option.{option_map}
use Rattle.scheme.specs.Models.{SchemeModel}
use Rattle.scheme.specs.Sizes.{sizes_of}
use Rattle.scheme.specs.Counts.{state_count}
use Rattle.scheme.specs.declared.terms.Predicate.{Predicate}
use Rattle.scheme.specs.declared.terms.Action.{Action}
use Rattle.codes.specs.Objects.{absent, object_fits}
use Rattle.enforcement.specs.Parties.{Parties}
use Rattle.enforcement.specs.Enforcement.{State, enforced_on, placed, enforced}
use Rattle.enforcement.proofs.Fitting.{none_some, fits_enforced}
use Rattle.record.specs.States.{all_fit, state_fits, number, state_from}
use Rattle.record.specs.Moves.{move_at}
use Rattle.record.specs.Systems.{object_count, policy_at, state_after, Step}
use Rattle.record.proofs.Digits.{is_state, number_below}
use Rattle.record.proofs.Exchanging.{fit_replaced}
use Rattle.record.proofs.Leading.{step_parts}

fits_at : (ks : List ℕ) (t : State) (i : ℕ) → all_fit ks t ≡ true → object_fits ks (get_or t i absent) ≡ true
fits_at ks [] i h = refl
fits_at ks (x ∷ t) zero h = (and_parts (object_fits ks x) (all_fit ks t) h).0
fits_at ks (x ∷ t) (suc i) h = fits_at ks t i (and_parts (object_fits ks x) (all_fit ks t) h).1

pub enforced_is_state : (ks : List ℕ) (n : ℕ) (qs : List Predicate) (xs : List Action) (s o : ℕ) (t u : State) → state_fits ks n t ≡ true
    → enforced ks qs xs s o t ≡ Some u → state_fits ks n u ≡ true
enforced_is_state ks n qs xs s o t u h e =
    let p = and_parts (eqb (length t) n) (all_fit ks t) h in
    go (eqb-true (length t) n p.0) p.1 (eqb s o) (enforced_on ks qs xs (get_or t s absent) (get_or t o absent)) refl e
  where
    go : length t ≡ n → all_fit ks t ≡ true → (b : Bool) (z : Option Parties) → enforced_on ks qs xs (get_or t s absent) (get_or t o absent) ≡ z
        → cond b None (option_map (placed t s o) z) ≡ Some u → state_fits ks n u ≡ true
    go long fit true z f e = absurd (none_some u e)
    go long fit false None f e = absurd (none_some u e)
    go long fit false (Some q) f e =
        let is : placed t s o q ≡ u = cc in
        let fits = fits_enforced ks qs xs (get_or t s absent) (get_or t o absent) q (fits_at ks t s fit) (fits_at ks t o fit) f in
        subst (λ x. state_fits ks n x ≡ true) is
        (and_from _ _
        (eq-eqb _ _ (length-set (set t s q.subject) o q.object ∙ length-set t s q.subject ∙ long))
        (fit_replaced ks (set t s q.subject) o q.object (fit_replaced ks t s q.subject fit fits.subject) fits.object))

pub step_closed : (m : SchemeModel) (x : Step m) → x.to < state_count m
step_closed m x =
    let ks = sizes_of m in
    let n = object_count m in
    let mv = move_at n x.by in
    go (state_after m mv (state_from ks n x.from)) refl (step_parts m x.from x.by x.to x.is_step).1.1
  where
    go : (z : Option State) → state_after m (move_at (object_count m) x.by) (state_from (sizes_of m) (object_count m) x.from) ≡ z
        → option_map (number (sizes_of m)) z ≡ Some x.to → x.to < state_count m
    go None f e = absurd (none_some x.to e)
    go (Some u) f e =
        let ks = sizes_of m in
        let n = object_count m in
        let mv = move_at n x.by in
        let is : number ks u ≡ x.to = cc in
        subst (λ k. k < state_count m) is
        (number_below ks n u
        (enforced_is_state ks n (policy_at m mv.policy).predicates (policy_at m mv.policy).actions mv.subject mv.object (state_from ks n x.from) u (is_state ks n x.from) f))

-- The steps that are computed are those of the relation.
use Rattle.std.proofs.Common.{◌≡◌, ℕ, ◌*◌, ◌/◌, ◌%◌, ◌<◌, Bool, true, false, cond, ◌&&◌, ltb, length, Some, None, Option, sym, refl, ap, ◌∙◌}
use Rattle.std.proofs.lemmas.Nat.{mod_below}
use Rattle.std.proofs.lemmas.Bool.{ltb-true, lt-ltb, and_from}
use Rattle.std.specs.Option.{option_map}
use Rattle.scheme.specs.Models.{SchemeModel}
use Rattle.scheme.specs.Sizes.{sizes_of}
use Rattle.scheme.specs.Counts.{state_count, move_count}
use Rattle.enforcement.specs.Enforcement.{State}
use Rattle.enforcement.proofs.Agreement.{enforcement_agrees}
use Rattle.enforcement.proofs.Fitting.{none_some}
use Rattle.record.specs.declared.moves.Move.{Move}
use Rattle.record.specs.States.{number, state_from}
use Rattle.record.specs.Moves.{move_at, InScheme}
use Rattle.record.specs.Systems.{object_count, policy_at, state_after, step_of}
use Rattle.record.specs.Relation.{Leads, Steps}
use Rattle.record.proofs.Digits.{number_below, state_of_number, is_state, number_of_state}
use Rattle.record.specs.SystemLaws.{objects_some, policy_below}
use Rattle.record.proofs.MoveNumbers.{whole, together}

pub in_scheme : (m : SchemeModel) (v : ℕ) → v < move_count m → InScheme m (move_at (object_count m) v)
in_scheme m v h =
    let n = object_count m in
    let some = objects_some n (length m.policies) v h in
    record {
      policy = policy_below n (length m.policies) v h;
      subject = mod_below (v / n) n some;
      object = mod_below v n some;
    }

-- a step answers under two conditions
pub step_parts : (m : SchemeModel) (x v y : ℕ) → step_of m x v ≡ Some y
    → (x < state_count m) × ((v < move_count m) × (option_map (number (sizes_of m)) (state_after m (move_at (object_count m) v) (state_from (sizes_of m) (object_count m) x)) ≡ Some y))
step_parts m x v y e = go (ltb x (state_count m)) (ltb v (move_count m)) refl refl e
  where
    go : (a b : Bool) → ltb x (state_count m) ≡ a → ltb v (move_count m) ≡ b
        → cond (a && b) (option_map (number (sizes_of m)) (state_after m (move_at (object_count m) v) (state_from (sizes_of m) (object_count m) x))) None ≡ Some y
        → (x < state_count m) × ((v < move_count m) × (option_map (number (sizes_of m)) (state_after m (move_at (object_count m) v) (state_from (sizes_of m) (object_count m) x)) ≡ Some y))
    go true true p q e = (ltb-true x (state_count m) p, (ltb-true v (move_count m) q, e))
    go true false p q e = absurd (none_some y e)
    go false b p q e = absurd (none_some y e)

step_leads : (m : SchemeModel) (x v y : ℕ) → step_of m x v ≡ Some y → Leads m x v y
step_leads m x v y e =
    let p = step_parts m x v y e in
    go p.0 p.1.0 (state_after m (move_at (object_count m) v) (state_from (sizes_of m) (object_count m) x)) refl p.1.1
  where
    go : x < state_count m → v < move_count m → (z : Option State)
        → state_after m (move_at (object_count m) v) (state_from (sizes_of m) (object_count m) x) ≡ z → option_map (number (sizes_of m)) z ≡ Some y
        → Leads m x v y
    go hx hv None f e = absurd (none_some y e)
    go hx hv (Some u) f e =
        let n = object_count m in
        let ks = sizes_of m in
        let is = move_at n v in
        let within = in_scheme m v hv in
        record {
          policy = v / (n * n);
          subject = v / n % n;
          object = v % n;
          is_move = record { policy = within.policy; subject = within.subject; object = within.object; number = whole n v };
          before = state_from ks n x;
          is_state = is_state ks n x;
          from = sym (number_of_state ks n x hx);
          after = u;
          enforces = (enforcement_agrees ks (policy_at m is.policy).predicates (policy_at m is.policy).actions is.subject is.object (state_from ks n x) u).0 f;
          to = cc;
        }

leads_step : (m : SchemeModel) (x v y : ℕ) → Leads m x v y → step_of m x v ≡ Some y
leads_step m x v y h =
    let n = object_count m in
    let ks = sizes_of m in
    let p = h.policy in
    let s = h.subject in
    let o = h.object in
    let mv = h.is_move in
    let is = together n (length m.policies) p s o v mv.policy mv.subject mv.object mv.number in
    let move_is : move_at n v ≡ record { policy = p; subject = s; object = o } =
    ap (λ k. record { policy = k; subject = v / n % n; object = v % n }) is.policy
    ∙ ap (λ k. record { policy = p; subject = k; object = v % n }) is.subject
    ∙ ap (λ k. record { policy = p; subject = s; object = k }) is.object in
    let known : x < state_count m = rw h.from (number_below ks n h.before h.is_state) in
    let state_is : state_from ks n x ≡ h.before = ap (λ k. state_from ks n k) h.from ∙ state_of_number ks n h.before h.is_state in
    let after_is : state_after m (move_at n v) (state_from ks n x) ≡ Some h.after =
    ap (λ (k : Move). state_after m k (state_from ks n x)) move_is
    ∙ ap (λ t. state_after m (record { policy = p; subject = s; object = o }) t) state_is
    ∙ (enforcement_agrees ks (policy_at m p).predicates (policy_at m p).actions s o h.before h.after).1 h.enforces in
    ap (λ b. cond b (option_map (number ks) (state_after m (move_at n v) (state_from ks n x))) None)
    (and_from _ _ (lt-ltb x (state_count m) known) (lt-ltb v (move_count m) is.within))
    ∙ ap (option_map (number ks)) after_is
    ∙ ap Some (sym h.to)

pub steps_agree : (m : SchemeModel) (x v : ℕ) (r : Option ℕ) → r ≡ step_of m x v → Steps m x v r
steps_agree m x v r e y = (λ f. step_leads m x v y (sym e ∙ f), λ h. e ∙ leads_step m x v y h)

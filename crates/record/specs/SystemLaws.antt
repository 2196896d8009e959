-- A scheme record is within the bounds of walks and the counts of protection systems. Here and not in proofs/, since
-- the implementation of the interface cites it.
use Rattle.std.specs.Prelude.{◌≡◌, ℕ, zero, suc, ◌*◌, ◌/◌, ◌%◌, ◌^◌, ◌<◌, ◌≤◌, Bool, true, false, cond, List, [], ◌∷◌, length, Some, None, Option, nat_lt, slice_index_or, refl}
use Rattle.std.proofs.Common.{sym, ap, subst, ◌∙◌, mul_comm, mul-le-mul, zero-mul, arith}
use Rattle.std.proofs.Math.Nat.{pow-zero, pow-le-pow_right}
use Rattle.std.proofs.lemmas.Nat.{div_below, mod_below}
use Rattle.std.proofs.lemmas.List.FromFn.{length-map-range_with_len}
use Rattle.std.proofs.lemmas.List.{length-map}
use Rattle.std.proofs.lemmas.Bool.{ltb-true, lt-ltb, and_parts, and_from}
use Rattle.std.specs.Option.{option_map}
use Rattle.walk.specs.Walks.{Bounds}
use Rattle.protection.specs.declared.permission.Permission.{Permission}
use Rattle.protection.specs.Permissions.{within}
use Rattle.protection.specs.Systems.{Counts}
use Rattle.bounded.specs.Items.{items}
use Rattle.bounded.proofs.Lengths.{length_items}
use Rattle.scheme.specs.Models.{PolicyModel, SchemeModel}
use Rattle.scheme.specs.Sizes.{sizes_of, size_states}
use Rattle.scheme.specs.Counts.{state_count, move_count}
use Rattle.scheme.specs.WellFormed.{rights_fit}
use Rattle.record.specs.declared.record.Scheme.{Scheme}
use Rattle.record.specs.Moves.{move_at}
use Rattle.record.specs.Entries.{unpacked}
use Rattle.record.specs.Systems.{object_count, no_policy, step_of, permission_of, label_of, walk_of, labels_of}
use Rattle.record.specs.Schemes.{scheme_of}

-- an answer that is there under a condition
cond_some : {X : Type 0} (b : Bool) (z : Option X) (y : X) → cond b z None ≡ Some y → (b ≡ true) × (z ≡ Some y)
cond_some true z y e = (refl, e)
cond_some false z y e = let w : ◌≡◌ {A = ℕ} 0 1 = cc in absurd (omega arith)

step_within : (m : SchemeModel) (x v y : ℕ) → step_of m x v ≡ Some y → (x < state_count m) × (v < move_count m)
step_within m x v y e =
    let p = and_parts (nat_lt x (state_count m)) (nat_lt v (move_count m)) (cond_some _ _ y e).0 in
    (ltb-true x (state_count m) p.0, ltb-true v (move_count m) p.1)

-- the counts

states_some : (m : SchemeModel) → 1 ≤ state_count m
states_some m =
    let z : 0 < size_states (sizes_of m) = omega arith in
    let h : 0 ≤ object_count m = omega arith in
    let p : size_states (sizes_of m) ^ 0 ≤ size_states (sizes_of m) ^ object_count m = pow-le-pow_right z h in
    omega (arith, p, pow-zero (size_states (sizes_of m)))

states_few : (s : Scheme) → state_count (scheme_of s) ≤ 1048576
states_few s =
    let e : s.numbering.states ≡ state_count (scheme_of s) =
    s.numbering.counted ∙ ap (λ ks. size_states ks ^ length (items s.numbering.places)) s.sized ∙ ap (λ n. size_states (sizes_of (scheme_of s)) ^ n) s.numbered in
    omega (arith, s.numbering.few)

pub moves_counted : (s : Scheme) → length (items s.moves) ≡ move_count (scheme_of s)
moves_counted s = sym (length-map (items s.moves) unpacked) ∙ ap length s.listed ∙ length-map-range_with_len (move_at (object_count (scheme_of s))) 0 (move_count (scheme_of s))

moves_few : (s : Scheme) → move_count (scheme_of s) ≤ 2048
moves_few s = omega (arith, moves_counted s, length_items 2048 s.moves)

pub scheme_bounds : (s : Scheme) → Bounds (walk_of (scheme_of s))
scheme_bounds s =
    let m = scheme_of s in
    record {
      states_some = states_some m;
      states_few = states_few s;
      start_below = let e = s.started in omega (arith, s.begun);
      moves_few = omega (arith, moves_few s);
      from_below = λ x v y e. (step_within m x v y e).0;
      move_below = λ x v y e. (step_within m x v y e).1;
      to_below = λ x v y e. s.closed (record { from = x; by = v; to = y; is_step = e });
    }

-- labels

right_below : (rights : ℕ) (ps : List PolicyModel) (p : ℕ) → rights_fit rights ps ≡ true → p < length ps → (slice_index_or ps p no_policy).right < rights
right_below rights [] p h l = absurd (omega arith)
right_below rights (q ∷ ps) zero h l = ltb-true q.right rights (and_parts _ _ h).0
right_below rights (q ∷ ps) (suc p) h l = right_below rights ps p (and_parts _ _ h).1 (omega arith)

label_parts : (m : SchemeModel) (v : ℕ) (p : Permission) → label_of m v ≡ Some p → (v < move_count m) × (permission_of m (move_at (object_count m) v) ≡ p)
label_parts m v p e = go (nat_lt v (move_count m)) refl e
  where
    go : (b : Bool) → nat_lt v (move_count m) ≡ b → option_map (permission_of m) (cond b (Some (move_at (object_count m) v)) None) ≡ Some p
        → (v < move_count m) × (permission_of m (move_at (object_count m) v) ≡ p)
    go true f e = (ltb-true v (move_count m) f, cc)
    go false f e = let w : ◌≡◌ {A = ℕ} 0 1 = cc in absurd (omega arith)

-- a move of a scheme is of its policies and objects
pub objects_some : (n k v : ℕ) → v < n * n * k → 0 < n
objects_some zero k v h = let e : zero * zero * k ≡ 0 = ap (λ x. x * k) (zero-mul 0) ∙ zero-mul k in absurd (omega arith)
objects_some (suc n) k v h = omega arith

pub policy_below : (n k v : ℕ) → v < n * n * k → v / (n * n) < k
policy_below n k v h =
    let some : 0 < n = objects_some n k v h in
    let square : 1 * 1 ≤ n * n = mul-le-mul some some in
    div_below v (n * n) k (omega arith) (omega (arith, mul_comm (n * n) k))

pub scheme_counts : (s : Scheme) → Counts (labels_of (scheme_of s))
scheme_counts s =
    let m = scheme_of s in
    record {
      objects_few = omega (arith, length_items 8 s.numbering.places, s.numbered);
      rights_few = let e = length-map (items s.draft.rights) items in omega (arith, length_items 16 s.draft.rights);
      label_within = λ v p e.
          let h = label_parts m v p e in
          let n = object_count m in
          let some = objects_some n (length m.policies) v h.0 in
          subst (λ (x : Permission). within n (length m.rights) x ≡ true) h.1
          (and_from _ _ (lt-ltb (v / n % n) n (mod_below (v / n) n some))
          (and_from _ _ (lt-ltb (v % n) n (mod_below v n some))
          (lt-ltb _ _ (right_below (length m.rights) m.policies (v / (n * n)) (and_parts _ _ s.formed).1 (policy_below n (length m.policies) v h.0)))));
    }

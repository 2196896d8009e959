-- A ticket is within the bounds of walks and the counts of protection systems. Here and not in
-- proofs/, since the implementation of the interface cites it.
use Rattle.std.specs.Prelude.{◌≡◌, ℕ, zero, suc, ◌-◌, ◌<◌, true, ◌&&◌, Some, ◌==◌, nat_le, refl}
use Rattle.std.proofs.Common.{subst, arith}
use Rattle.std.proofs.lemmas.Bool.{and_parts, leb-true, eqb-true}
use Rattle.std.proofs.lemmas.Option.{cond_some, none-some, same_Some}
use Rattle.walk.specs.Walks.{Bounds}
use Rattle.protection.specs.declared.permission.Permission.{Permission}
use Rattle.protection.specs.Permissions.{within}
use Rattle.protection.specs.Systems.{Counts}
use Rattle.ticket.specs.declared.moves.Move.{Move}
use Rattle.ticket.specs.declared.moves.Move.TheVariants.{Stamp, GiveBack, Renew, PayBack}
use Rattle.ticket.specs.Ticket.{leads_to, ticket_step, ticket_walk, ticket_labels}

-- a move leads from a state to a state
between : (v : Move) (s t : ℕ) → leads_to v s ≡ Some t → (s < 22) × (t < 22)
between Stamp s t e =
    let p = cond_some (nat_le 1 s && nat_le s 10) (s - 1) t e in
    let q = and_parts (nat_le 1 s) (nat_le s 10) p.0 in
    (omega (arith, leb-true _ _ q.1), omega (arith, leb-true _ _ q.0, leb-true _ _ q.1, p.1))
between GiveBack s t e = let p = cond_some (s == 0) 11 t e in (omega (arith, eqb-true _ _ p.0), omega (arith, p.1))
between Renew s t e = let p = cond_some (s == 11) 10 t e in (omega (arith, eqb-true _ _ p.0), omega (arith, p.1))
between PayBack s t e =
    let p = cond_some (nat_le 12 s && nat_le s 21) 11 t e in
    let q = and_parts (nat_le 12 s) (nat_le s 21) p.0 in
    (omega (arith, leb-true _ _ q.1), omega (arith, p.1))

-- what has a step is a move, and leads from a state to a state
steps_within : (s m t : ℕ) → ticket_step s m ≡ Some t → (s < 22) × (m < 4) × (t < 22)
steps_within s zero t e = let b = between Stamp s t e in (b.0, omega arith, b.1)
steps_within s (suc zero) t e = let b = between GiveBack s t e in (b.0, omega arith, b.1)
steps_within s (suc (suc zero)) t e = let b = between Renew s t e in (b.0, omega arith, b.1)
steps_within s (suc (suc (suc zero))) t e = let b = between PayBack s t e in (b.0, omega arith, b.1)
steps_within s (suc (suc (suc (suc m)))) t bad = absurd (none-some t bad)

pub ticket_bounds : Bounds ticket_walk
ticket_bounds =
    record {
      states_some = omega arith;
      states_few = omega arith;
      start_below = omega arith;
      moves_few = omega arith;
      from_below = λ s m t e. (steps_within s m t e).0;
      move_below = λ s m t e. (steps_within s m t e).1;
      to_below = λ s m t e. (steps_within s m t e).2;
    }

labels_within : (m : ℕ) (p : Permission) → ticket_labels.label m ≡ Some p → within 3 4 p ≡ true
labels_within zero p e = subst (λ (q : Permission). within 3 4 q ≡ true) (same_Some _ _ e) refl
labels_within (suc zero) p e = subst (λ (q : Permission). within 3 4 q ≡ true) (same_Some _ _ e) refl
labels_within (suc (suc zero)) p e = subst (λ (q : Permission). within 3 4 q ≡ true) (same_Some _ _ e) refl
labels_within (suc (suc (suc zero))) p e = subst (λ (q : Permission). within 3 4 q ≡ true) (same_Some _ _ e) refl
labels_within (suc (suc (suc (suc m)))) p bad = absurd (none-some p bad)

pub ticket_counts : Counts ticket_labels
ticket_counts = record { objects_few = omega arith; rights_few = omega arith; label_within = labels_within }

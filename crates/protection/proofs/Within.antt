-- The test of the counts decides the fact.
use Rattle.std.proofs.Common.{ℕ, ◌<◌, ◌&&◌, ltb, Decides}
use Rattle.std.proofs.lemmas.Bool.{and_parts, and_from, ltb-true, lt-ltb}
use Rattle.protection.specs.declared.permission.Permission.{Permission}
use Rattle.protection.specs.Permissions.{within}
use Rattle.protection.specs.Systems.{System, WithinCounts, within_counts}

pub within_numbers : (objects rights : ℕ) (p : Permission) → Decides (within objects rights p) ((p.subject < objects) × (p.object < objects) × (p.right < rights))
within_numbers objects rights p = (
  λ e.
      (let a = and_parts (ltb p.subject objects) (ltb p.object objects && ltb p.right rights) e in
      let b = and_parts (ltb p.object objects) (ltb p.right rights) a.1 in
      (ltb-true _ _ a.0, ltb-true _ _ b.0, ltb-true _ _ b.1)),
  λ (s, o, r).
      and_from (ltb p.subject objects) (ltb p.object objects && ltb p.right rights) (lt-ltb _ _ s)
      (and_from (ltb p.object objects) (ltb p.right rights) (lt-ltb _ _ o) (lt-ltb _ _ r)),
)

pub within_decides : (system : System) (p : Permission) → Decides (within_counts system p) (WithinCounts system p)
within_decides system p =
    let d = within_numbers system.objects system.rights p in (
      λ e. record { subject_below = (d.0 e).0; object_below = (d.0 e).1; right_below = (d.0 e).2 },
      λ w. d.1 (w.subject_below, w.object_below, w.right_below),
    )

-- The test of a label decides equality.
use Rattle.std.proofs.Common.{◌≡◌, true, false, ◌&&◌, eqb, Some, None, Option, refl, ap}
use Rattle.std.proofs.lemmas.Bool.{and_parts, and_from, eqb-true, eq-eqb, both_ways}
use Rattle.protection.specs.declared.permission.Permission.{Permission}
use Rattle.protection.specs.Permissions.{same, has_label}

same_true : (p q : Permission) → same p q ≡ true → p ≡ q
same_true p q e =
    let a = and_parts (eqb p.subject q.subject) (eqb p.object q.object && eqb p.right q.right) e in
    let b = and_parts (eqb p.object q.object) (eqb p.right q.right) a.1 in
    let es = eqb-true p.subject q.subject a.0 in
    let eo = eqb-true p.object q.object b.0 in
    let er = eqb-true p.right q.right b.1 in
    λ i. record { subject = es i; object = eo i; right = er i }

pub same_itself : (p : Permission) → same p p ≡ true
same_itself p =
    and_from (eqb p.subject p.subject) (eqb p.object p.object && eqb p.right p.right) (eq-eqb p.subject p.subject refl)
    (and_from (eqb p.object p.object) (eqb p.right p.right) (eq-eqb p.object p.object refl) (eq-eqb p.right p.right refl))

pub has_label_true : (o : Option Permission) (q : Permission) → has_label o q ≡ true → o ≡ Some q
has_label_true None q e = absurd (both_ways false refl e)
has_label_true (Some p) q e = ap Some (same_true p q e)

pub has_label_itself : (o : Option Permission) (q : Permission) → o ≡ Some q → has_label o q ≡ true
has_label_itself o q e = rw e (same_itself q)

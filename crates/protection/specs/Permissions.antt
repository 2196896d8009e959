-- Permissions: when two are the same, when one is a label, and when one is within counts.
use Rattle.std.specs.Prelude.{ℕ, Bool, false, ◌&&◌, Some, None, Option, ◌==◌, nat_lt}
use Rattle.protection.specs.declared.permission.Permission.{Permission}

abbrev pub same : Permission → Permission → Bool
same p q = p.subject == q.subject && (p.object == q.object && p.right == q.right)

-- the label is the permission q
abbrev pub has_label : Option Permission → Permission → Bool
has_label None q = false
has_label (Some p) q = same p q

-- subject and object are below the count of objects, the right is below the count of rights
abbrev pub within : (objects rights : ℕ) → Permission → Bool
within objects rights p = nat_lt p.subject objects && (nat_lt p.object objects && nat_lt p.right rights)

-- A protection system: a walk with a label for each move.
use Rattle.std.specs.Prelude.{◌≡◌, ℕ, ◌<◌, ◌≤◌, Bool, true, Some, Option}
use Rattle.protection.specs.declared.permission.Permission.{Permission}
use Rattle.protection.specs.Permissions.{has_label, within}
use Rattle.walk.specs.Walks.{Walk}

-- the counts of objects and of rights, and the label of a move
pub record Labels : Type 0 where
  pub objects : ℕ
  pub rights : ℕ
  pub label : ℕ → Option Permission

-- the counts are small, and a label is within them
pub record Counts (labels : Labels) : Type 0 where
  pub objects_few : labels.objects ≤ 255
  pub rights_few : labels.rights ≤ 255
  pub label_within : (m : ℕ) (p : Permission) → labels.label m ≡ Some p → within labels.objects labels.rights p ≡ true

pub record System : Type 0 where
  pub walk : Walk
  pub objects : ℕ
  pub rights : ℕ
  pub label : ℕ → Option Permission

abbrev pub system_of : Walk → Labels → System
system_of walk labels = record { walk = walk; objects = labels.objects; rights = labels.rights; label = labels.label }

-- the move m is labelled q
abbrev pub labelled : System → ℕ → Permission → Bool
labelled system m q = has_label (system.label m) q

abbrev pub within_counts : System → Permission → Bool
within_counts system p = within system.objects system.rights p

-- the same as a fact, number by number
pub record WithinCounts (system : System) (p : Permission) : Type 0 where
  pub subject_below : p.subject < system.objects
  pub object_below : p.object < system.objects
  pub right_below : p.right < system.rights

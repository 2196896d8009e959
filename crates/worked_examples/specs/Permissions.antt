-- Worked examples of permissions: which are within the counts of a system, and which are the same.
use Rattle.std.specs.Prelude.{◌≡◌, ℕ, Bool, true, false, Some, None}
use Rattle.protection.specs.declared.permission.Permission.{Permission}
use Rattle.protection.specs.Permissions.{same, has_label, within}

-- subject, object and right
abbrev pub permission : ℕ → ℕ → ℕ → Permission
permission s o r = record { subject = s; object = o; right = r }

-- within two objects and three rights
abbrev pub within_2_3 : Permission → Bool
within_2_3 p = within 2 3 p

pub record Permissions : Type 0 where
  pub first : within_2_3 (permission 0 0 0) ≡ true
  pub last : within_2_3 (permission 1 1 2) ≡ true
  pub no_such_subject : within_2_3 (permission 2 1 2) ≡ false
  pub no_such_object : within_2_3 (permission 1 2 2) ≡ false
  pub no_such_right : within_2_3 (permission 1 1 3) ≡ false
  pub nothing_within_no_objects : within 0 3 (permission 0 0 0) ≡ false
  pub nothing_within_no_rights : within 2 0 (permission 0 0 0) ≡ false
  pub same_as_itself : same (permission 0 1 2) (permission 0 1 2) ≡ true
  pub another_subject : same (permission 0 1 2) (permission 1 1 2) ≡ false
  pub another_object : same (permission 0 1 2) (permission 0 0 2) ≡ false
  pub another_right : same (permission 0 1 2) (permission 0 1 1) ≡ false
  pub exchanged : same (permission 0 1 2) (permission 1 0 2) ≡ false
  pub its_label : has_label (Some (permission 0 1 2)) (permission 0 1 2) ≡ true
  pub another_label : has_label (Some (permission 0 1 2)) (permission 1 0 2) ≡ false
  pub no_label : has_label None (permission 0 0 0) ≡ false

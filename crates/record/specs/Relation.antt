-- The steps of a scheme as a relation: a move, that is a policy on a subject and an object, leads from one state to
-- another.
use Rattle.std.specs.Prelude.{◌≡◌, ℕ, true, ◌↔◌, Some, Option}
use Rattle.scheme.specs.Models.{SchemeModel}
use Rattle.scheme.specs.Sizes.{sizes_of}
use Rattle.enforcement.specs.Enforcement.{State}
use Rattle.enforcement.specs.Relation.{Enforces}
use Rattle.record.specs.States.{state_fits, number}
use Rattle.record.specs.Moves.{IsMove}
use Rattle.record.specs.Systems.{object_count, policy_at}

-- the move v leads from the state numbered x to the state numbered y
pub record Leads (m : SchemeModel) (x v y : ℕ) : Type 0 where
  pub policy : ℕ
  pub subject : ℕ
  pub object : ℕ
  pub is_move : IsMove m v policy subject object
  pub before : State
  pub is_state : state_fits (sizes_of m) (object_count m) before ≡ true
  pub from : x ≡ number (sizes_of m) before
  pub after : State
  pub enforces : Enforces (sizes_of m) (policy_at m policy).predicates (policy_at m policy).actions subject object before after
  pub to : y ≡ number (sizes_of m) after

-- an answer is a step exactly when the policy can be enforced, and then it is the state that this leads to
abbrev pub Steps : SchemeModel → ℕ → ℕ → Option ℕ → Type 0
Steps m x v r = (y : ℕ) → (r ≡ Some y) ↔ Leads m x v y

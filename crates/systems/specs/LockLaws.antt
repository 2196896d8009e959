-- A walk with locks stays within the bounds. Here and not in proofs/, since the implementation cites it.
use Rattle.std.specs.Prelude.{◌≡◌, ℕ, Bool, true, false, cond, List, Some, None}
use Rattle.std.proofs.Common.{arith}
use Rattle.walk.specs.Walks.{Walk, Bounds}
use Rattle.protection.specs.declared.permission.Permission.{Permission}
use Rattle.protection.specs.Systems.{Labels}
use Rattle.systems.specs.Locks.{is_locked, locked_step, locked_walk}

-- a step that is left is a step of the walk
pub unlocked_step : (locks : List Permission) (walk : Walk) (labels : Labels) (s m t : ℕ) → locked_step locks walk labels s m ≡ Some t → walk.step s m ≡ Some t
unlocked_step locks walk labels s m t e = go (is_locked locks (labels.label m)) e
  where
    go : (b : Bool) → cond b None (walk.step s m) ≡ Some t → walk.step s m ≡ Some t
    go true bad = let z : ◌≡◌ {A = ℕ} 0 1 = cc in absurd (omega arith)
    go false h = h

pub locked_bounds : (locks : List Permission) (walk : Walk) (labels : Labels) → Bounds walk → Bounds (locked_walk locks walk labels)
locked_bounds locks walk labels b =
    record {
      states_some = b.states_some;
      states_few = b.states_few;
      start_below = b.start_below;
      moves_few = b.moves_few;
      from_below = λ s m t e. b.from_below s m t (unlocked_step locks walk labels s m t e);
      move_below = λ s m t e. b.move_below s m t (unlocked_step locks walk labels s m t e);
      to_below = λ s m t e. b.to_below s m t (unlocked_step locks walk labels s m t e);
    }

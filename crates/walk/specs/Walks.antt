-- A walk: finitely many states, and moves that may step from one to another.
use Rattle.std.specs.Prelude.{◌≡◌, ℕ, ◌<◌, ◌≤◌, Some, Option}

-- states and moves count from 0; a move is enabled in a state if it has a step there
pub record Walk : Type 0 where
  pub states : ℕ
  pub start : ℕ
  pub moves : ℕ
  pub step : ℕ → ℕ → Option ℕ

-- a step goes from a state, by a move, to a state: what is no state or no move has none
pub record Bounds (walk : Walk) : Type 0 where
  pub states_some : 1 ≤ walk.states
  pub states_few : walk.states ≤ 1048576
  pub start_below : walk.start < walk.states
  pub moves_few : walk.moves ≤ 4096
  pub from_below : (s m t : ℕ) → walk.step s m ≡ Some t → s < walk.states
  pub move_below : (s m t : ℕ) → walk.step s m ≡ Some t → m < walk.moves
  pub to_below : (s m t : ℕ) → walk.step s m ≡ Some t → t < walk.states

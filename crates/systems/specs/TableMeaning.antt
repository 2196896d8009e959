-- What a table system means, by the numbers that it holds.
use Rattle.std.specs.Prelude.{◌≡◌, ℕ, ◌+◌, ◌*◌, ◌<◌, ◌≤◌, ◌↔◌, Some, None, slice_index}
use Rattle.protection.specs.Systems.{System}
use Rattle.systems.specs.declared.numbers.Numbers.{Numbers}

pub record MeansItsNumbers (n : Numbers) (system : System) : Type 0 where
  pub states : system.walk.states ≡ n.states
  pub start : system.walk.start ≡ n.start
  pub moves : system.walk.moves ≡ n.moves
  pub objects : system.objects ≡ n.objects
  pub rights : system.rights ≡ n.rights
  -- a move leads from the state s to the state t exactly where its entry there is t + 1
  pub steps : (s m t : ℕ) → s < n.states → m < n.moves
      → (system.walk.step s m ≡ Some t) ↔ (slice_index n.entries.now (s * n.moves + m) ≡ t + 1)
  pub no_other_steps : (s m t : ℕ) → system.walk.step s m ≡ Some t → (s < n.states) × (m < n.moves)
  -- the label of a move is its three label numbers
  pub labels : (m : ℕ) → m < n.moves → system.label m ≡ Some (record {
    subject = slice_index n.labels.now (3 * m);
    object = slice_index n.labels.now (3 * m + 1);
    right = slice_index n.labels.now (3 * m + 2);
  })
  pub no_other_labels : (m : ℕ) → n.moves ≤ m → system.label m ≡ None

-- one state, in which it starts, and no move, object or right
pub record IsBare (system : System) : Type 0 where
  pub one_state : system.walk.states ≡ 1
  pub start : system.walk.start ≡ 0
  pub no_move : system.walk.moves ≡ 0
  pub no_object : system.objects ≡ 0
  pub no_right : system.rights ≡ 0

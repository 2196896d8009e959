-- The numbers of moves.
use Rattle.std.specs.Prelude.{◌≡◌, ℕ, ◌+◌, ◌*◌, ◌/◌, ◌%◌, ◌<◌, cond, length, Some, None, Option, nat_lt}
use Rattle.scheme.specs.Models.{SchemeModel}
use Rattle.scheme.specs.Counts.{move_count}
use Rattle.record.specs.declared.moves.Move.{Move}

-- the policy, subject and object of a move, with n objects
abbrev pub move_at : ℕ → ℕ → Move
move_at n v = record { policy = v / (n * n); subject = v / n % n; object = v % n }

-- the moves of a scheme are numbered from 0, each policy on each subject and each object
abbrev pub move_of : SchemeModel → ℕ → Option Move
move_of m v = cond (nat_lt v (move_count m)) (Some (move_at (length m.objects) v)) None

-- its policy, subject and object are those of the scheme
pub record InScheme (m : SchemeModel) (x : Move) : Type 0 where
  pub policy : x.policy < length m.policies
  pub subject : x.subject < length m.objects
  pub object : x.object < length m.objects

-- policy p on subject s and object o is the move v
pub record IsMove (m : SchemeModel) (v p s o : ℕ) : Type 0 where
  pub policy : p < length m.policies
  pub subject : s < length m.objects
  pub object : o < length m.objects
  pub number : v ≡ p * (length m.objects * length m.objects) + s * length m.objects + o

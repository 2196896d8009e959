-- Moves enforced in turn, up to the first that is refused.
use Rattle.std.specs.Prelude.{ℕ, cond, List, [], ◌∷◌, is_ok, Ok, Result}
use Rattle.std.specs.Result.{result_and}
use Rattle.protection.specs.Systems.{System}
use Rattle.protection.specs.Refusals.{Refused}
use Rattle.protection.specs.Histories.{enforce, enforce_answer, after}

-- the answer: the first refusal, or that all were granted
unfoldable pub replay_answer : System → ℕ → List ℕ → Result Unit Refused
replay_answer system s [] = Ok tt
replay_answer system s (m ∷ ms) = result_and (enforce_answer system s m) (replay_answer system (after system s (enforce m)) ms)

-- the state in which they leave a monitor that was in the state s
unfoldable pub replay_leaves : System → ℕ → List ℕ → ℕ
replay_leaves system s [] = s
replay_leaves system s (m ∷ ms) = cond (is_ok (enforce_answer system s m)) (replay_leaves system (after system s (enforce m)) ms) s

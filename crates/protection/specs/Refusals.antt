-- Refusals by their numbers.
use Rattle.std.specs.Prelude.{◌≡◌, ℕ, List, [], Err, Result}
use Rattle.std.specs.Result.{result_map_both}

-- the number of a refusal, and the values that it carries
pub record Refused : Type 0 where
  pub number : ℕ
  pub values : List ℕ

-- a refusal that carries no value
abbrev pub refused : ℕ → Refused
refused n = record { number = n; values = [] }

-- an answer whose refusals are given by their numbers and values
abbrev pub numbered : {A E : Type 0} → (E → Refused) → Result A E → Result A Refused
numbered values r = result_map_both (λ a. a) values r

-- the answer is a refusal with the number n, and carries no value
abbrev pub RefusedWith : {A : Type 0} → ℕ → Result A Refused → Type 0
RefusedWith n answer = answer ≡ Err (record { number = n; values = [] })

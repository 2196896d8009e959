-- An answer is a refusal with one number at most.
use Rattle.std.proofs.Common.{◌≡◌, ℕ, Ok, Err, Result, ap}
use Rattle.protection.specs.Refusals.{Refused, refused, RefusedWith}

-- the number of a refusal, and 0 for an answer that is none
abbrev number_of : {A : Type 0} → Result A Refused → ℕ
number_of (Ok a) = 0
number_of (Err r) = r.number

pub other_number : {A : Type 0} (m n : ℕ) → (m ≡ n → ⊥) → RefusedWith {A = A} n (Err (refused m)) → ⊥
other_number m n differ e = differ (ap number_of e)

pub not_refused : {A : Type 0} (x : A) (n : ℕ) → RefusedWith n (Ok x) → ⊥
not_refused x n e = cc

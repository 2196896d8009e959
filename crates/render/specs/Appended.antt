-- Bytes appended to a vector, or some of them where it had too little room.
use Rattle.std.specs.Prelude.{◌≡◌, ℕ, ◌+◌, ◌<◌, ◌≤◌, List, ◌++◌, length, vec_items, vec_len, vec_capacity, Result, Vec, MatchResult}
use Rattle.std.specs.declared.alloc.AllocError.{AllocError}
use Rattle.std.specs.declared.alloc.Global.{Global}

-- `is` is `was` with the bytes bs at its end, and has no less room in all
pub record Grown (was is : Vec ℕ Global) (bs : List ℕ) : Type 0 where
  pub items : vec_items is ≡ vec_items was ++ bs
  pub len : vec_len is ≡ vec_len was + length bs
  pub cap : vec_capacity was ≤ vec_capacity is

-- only a front of bs was appended, and `was` had too little room for all of bs
pub record Short (was is : Vec ℕ Global) (bs : List ℕ) : Type 0 where
  pub front : List ℕ
  pub rest : List ℕ
  pub parts : bs ≡ front ++ rest
  pub grown : Grown was is front
  pub room : vec_capacity was < vec_len was + length bs

-- Ok: bs was appended; Err: there was too little room
abbrev pub Appended : Result (Unit {0}) AllocError → Vec ℕ Global → Vec ℕ Global → List ℕ → Type 0
Appended r was is bs = MatchResult r (λ _. Grown was is bs) (λ _. Short was is bs)

-- What `position` and `find` answer.
use Rattle.std.proofs.Common.{◌≡◌, ℕ, ◌<◌, ◌≤◌, Bool, List, length, get_or, Some, None, arith}
use Rattle.std.specs.List.{position, position_or_len, find}
use Rattle.std.proofs.lemmas.Bool.Decides.{nat_tests}
use Rattle.std.proofs.lemmas.List.Folds.{find_at}
use Rattle.std.proofs.lemmas.Option.{gets}

module _ {X : Type 0} (p : X → Bool) (xs : List X) where
  abbrev at : ℕ
  at = position_or_len p xs

  pub position_some : (i : ℕ) → position p xs ≡ Some i → (at < length xs) × (at ≡ i)
  position_some i is = grind (arith, nat_tests)

  pub position_none : position p xs ≡ None → length xs ≤ at
  position_none is = grind (arith, nat_tests)

  pub find_some : (x d : X) → find p xs ≡ Some x → (at < length xs) × (get_or xs at d ≡ x)
  find_some x d is = let found = find_at p xs in grind (arith, gets)

  pub find_none : (d : X) → find p xs ≡ None → length xs ≤ at
  find_none d is = let found = find_at p xs in grind (arith, gets)

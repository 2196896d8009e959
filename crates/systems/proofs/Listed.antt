-- What searches of lists find.
use Rattle.std.proofs.Common.{◌≡◌, ℕ, ◌<◌, true, false, ◌||◌, ltb, List, [], ◌∷◌, length, Some, None, Option, refl, ap, arith}
use Rattle.std.specs.List.{list_any, AllWithin, HoldsAt}
use Rattle.std.specs.Option.{MatchOption}
use Rattle.protection.specs.Lowest.{lowest}
use Rattle.protection.proofs.LowestLaws.{lowest_of}
use Rattle.systems.specs.Tables.{entry_out}
use Rattle.protection.specs.declared.permission.Permission.{Permission}
use Rattle.protection.specs.Permissions.{same}
use Rattle.systems.specs.Locks.{is_listed}

-- `contains` tells whether a permission is listed
pub listed_any : (xs : List Permission) (p : Permission) → list_any (λ q. same q p) xs ≡ is_listed xs p
listed_any [] p = refl
listed_any (x ∷ xs) p = ap (λ b. same x p || b) (listed_any xs p)

-- what `position` finds among entries is the lowest place that is out
pub first_out : (n : ℕ) (xs : List ℕ) (r : Option ℕ)
    → MatchOption r (AllWithin (λ x. ltb n x ≡ false) xs 0 (length xs))
    (λ i. (i < length xs) × HoldsAt (λ x. ltb n x ≡ true) xs i × AllWithin (λ x. ltb n x ≡ false) xs 0 i)
    → r ≡ lowest (entry_out n xs) (length xs)
first_out n xs None none = lowest_of (entry_out n xs) (length xs) None (λ k low below. none k 0 low below)
first_out n xs (Some i) first =
    lowest_of (entry_out n xs) (length xs) (Some i) (omega arith, first.0, first.1 0, λ k low below. first.2 k 0 low below)

-- A number that is cut off at the greatest length.
use Rattle.std.proofs.Common.{◌≡◌, ℕ, ◌+◌, ◌-◌, ◌*◌, ◌^◌, min, List, [], ◌∷◌, refl, arith}
use Rattle.std.specs.List.{fold}
use Rattle.input.specs.Texts.{number, capped_number}

pub capped_from : (ds : List ℕ) (n m : ℕ) → n ≡ min m (2 ^ 64 - 1) → fold (λ a d. min (min (a * 10) (2 ^ 64 - 1) + (d - 48)) (2 ^ 64 - 1)) n ds ≡ min (fold (λ a d. 10 * a + (d - 48)) m ds) (2 ^ 64 - 1)
capped_from [] n m same = same
capped_from (d ∷ ds) n m same = capped_from ds _ _ (Prim.grind (arith))

pub capped : (ds : List ℕ) → capped_number ds ≡ min (number ds) (2 ^ 64 - 1)
capped ds = capped_from ds 0 0 refl

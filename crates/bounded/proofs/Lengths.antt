-- A bounded list is as long as its bound allows.
use Rattle.std.proofs.Common.{ℕ, ◌≤◌, length, arith}
use Rattle.std.proofs.lemmas.List.{length-take-le}
use Rattle.bounded.specs.declared.Bounded.{Bounded}
use Rattle.bounded.specs.Items.{items}

pub length_items : {T : Type 0} (N : ℕ) (b : Bounded T N) → length (items b) ≤ N
length_items N b = omega (arith, length-take-le b.len b.array (omega (arith, b.sized, b.fits)), b.fits)

-- The list that a bounded list holds.
use Rattle.std.specs.Prelude.{ℕ, List, take}
use Rattle.bounded.specs.declared.Bounded.{Bounded}

module _ {T : Type 0} {N : ℕ} where
  abbrev pub items : Bounded T N → List T
  items b = take b.len b.array

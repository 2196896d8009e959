-- The number that a divisor is.
use Rattle.std.specs.Prelude.{ℕ}
use Rattle.codes.specs.declared.divisor.Divisor.{Divisor}

abbrev pub number_of : Divisor → ℕ
number_of d = d.by

-- What the record of the numbers of states keeps.
use Rattle.std.specs.Prelude.{◌≡◌, ℕ, ◌^◌, ◌<◌, List, map, length, slice_index}
use Rattle.codes.specs.declared.divisor.Divisor.{Divisor}
use Rattle.codes.specs.Divisors.{number_of}

-- what the code of each object counts for
abbrev pub Places : ℕ → List Divisor → Type 0
Places radix places = (i : ℕ) → i < length places → slice_index (map number_of places) i ≡ radix ^ i

-- Which schemes are accepted.
use Rattle.std.specs.Prelude.{Bool, ◌&&◌, nat_le}
use Rattle.scheme.specs.Models.{SchemeModel}
use Rattle.scheme.specs.Sizes.{sizes_of, size_states}
use Rattle.scheme.specs.Counts.{state_count}
use Rattle.scheme.specs.WellFormed.{well_formed}

-- a well-formed one, with at most 1,048,576 states, of one object and of all
abbrev pub accepted : SchemeModel → Bool
accepted m = well_formed m && (nat_le (size_states (sizes_of m)) 1048576 && nat_le (state_count m) 1048576)

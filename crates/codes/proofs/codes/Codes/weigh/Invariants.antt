use Rattle.std.proofs.Common.{◌≡◌, ◌<◌, length, drop}
use Rattle.codes.specs.Weights.{weight, summed}
use Rattle.codes.specs.Meanings.{sizes_in}
use Rattle.codes.proofs.codes.Codes.weigh.Given as goal

-- the sum so far, and what is left
abbrev pub invariant-loop-digit : goal.invariant-loop-digit
invariant-loop-digit l = record { total : summed l.sum (weight (sizes_in l.self) (length l.yielded)) (drop (length l.yielded) (sizes_in l.self)) (drop (length l.yielded) l.values) ≡ summed 0 1 (sizes_in l.self) l.values; low : l.sum < weight (sizes_in l.self) (length l.yielded) }

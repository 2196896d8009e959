use Rattle.std.proofs.Common.{◌≡◌, ◌≤◌, ◌^◌, take}
use Rattle.bounded.specs.Items.{items}
use Rattle.codes.specs.Weights.{weight, digit_sizes, Weighed}
use Rattle.codes.proofs.codes.Codes.of.Given as goal

-- the digits so far are those of the sizes so far, and their product is the next weight
abbrev pub invariant-loop-size : goal.invariant-loop-size
invariant-loop-size l = record { sizes : digit_sizes (items l.digits) ≡ take l.size-index l.size-items; weighed : Weighed (items l.digits); product : l.weight ≡ weight l.size-items l.size-index; low : l.weight ≤ 2 ^ 32 }

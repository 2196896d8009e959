-- Weights of attributes, for the record of codes and its own functions.
use Rattle.std.specs.Prelude.{◌≡◌, ℕ, ◌+◌, cond, List, map, take, Some, None, Option, slice_get}
use Rattle.scheme.specs.Sizes.{size_combinations}
use Rattle.scheme.specs.WellFormed.{values_fit}
use Rattle.codes.specs.declared.digit.Digit.{Digit}
use Rattle.codes.specs.Divisors.{number_of}
use Rattle.codes.specs.Codes.{weighed}

-- the product of (k + 1) over the attributes before a
abbrev pub weight : List ℕ → ℕ → ℕ
weight ks a = size_combinations (take a ks)

-- the sizes of the attributes
abbrev pub digit_sizes : List Digit → List ℕ
digit_sizes ds = map (λ (d : Digit). d.size) ds

-- each has its weight
abbrev pub Weighed : List Digit → Type 0
Weighed ds = (a : ℕ) (d : Digit) → slice_get ds a ≡ Some d → number_of d.weight ≡ weight (digit_sizes ds) a

-- a sum so far, and the weighed sum of values that are left; none where these do not fit their attributes
abbrev pub summed : ℕ → ℕ → List ℕ → List (Option ℕ) → Option ℕ
summed sum w ks vs = cond (values_fit ks vs) (Some (sum + weighed w ks vs)) None

-- What the cases of a verdict and of a refusal say, in numbers.
use Rattle.std.specs.Prelude.{ℕ, Bool, true, false, Result}
use Rattle.std.specs.Result.{result_map_both}
use Rattle.walk.specs.declared.records.Ending.{Ending}
use Rattle.walk.specs.declared.records.Ending.TheVariants.{Stopped, Exhausted}
use Rattle.protection.specs.declared.answers.Verdict.{Verdict}
use Rattle.protection.specs.declared.answers.Verdict.TheVariants.{Leak, Never}
use Rattle.protection.specs.declared.answers.Refusal.{Refusal}
use Rattle.protection.specs.declared.answers.Refusal.TheVariants.{OutOfCounts, ShortTable}
use Rattle.protection.specs.Refusals.{Refused, refused}

-- leak or never, how many states are listed, how many moves were tried, and how many moves of the witness were written
pub record Said : Type 0 where
  pub leaks : Bool
  pub found : ℕ
  pub tried : ℕ
  pub length : ℕ

abbrev pub verdict_values : Verdict → Said
verdict_values (Leak found tried length) = record { leaks = true; found = found; tried = tried; length = length }
verdict_values (Never found tried) = record { leaks = false; found = found; tried = tried; length = 0 }

abbrev pub refusal_values : Refusal → Refused
refusal_values OutOfCounts = refused 30
refusal_values ShortTable = refused 31

-- the answer of an analysis, in numbers
abbrev pub told : Result Verdict Refusal → Result Said Refused
told r = result_map_both verdict_values refusal_values r

-- a search that an enabled move labelled q has stopped is a leak
abbrev pub verdict_of : Ending → Verdict
verdict_of (Stopped found tried length) = Leak found tried length
verdict_of (Exhausted found tried) = Never found tried

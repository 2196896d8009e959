-- The numbers of the monitor's refusals.
use Rattle.protection.specs.Refusals.{Refused, refused}
use Rattle.monitor.specs.declared.denial.Denial.{Denial}
use Rattle.monitor.specs.declared.denial.Denial.TheVariants.{NoSuchMove, NotEnabled, OutOfCounts}

abbrev pub denial_values : Denial → Refused
denial_values NoSuchMove = refused 60
denial_values NotEnabled = refused 61
denial_values OutOfCounts = refused 62

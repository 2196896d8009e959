use Rattle.std.proofs.Common.{arith}
use Rattle.report.proofs.Readings.{refusal_one}
use Rattle.report.proofs.refusal.put_refusal.Goals as goal

pub returns-clause-read_one_way : goal.returns-clause-read_one_way
returns-clause-read_one_way c other small same =
    refusal_one other c.args.report small (record { number = omega (arith, c.well_formed); line = omega (arith, c.well_formed); place = omega (arith, c.well_formed) }) same

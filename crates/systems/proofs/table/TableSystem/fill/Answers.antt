-- What the test of the numbers answers is what the table of refusals gives, and `fill` answers just that.
use Rattle.std.proofs.Common.{◌≡◌, Ok, rules}
use Rattle.protection.specs.Refusals.{numbered}
use Rattle.systems.specs.Refusals.{table_refusal_values}
use Rattle.systems.specs.Tables.{fill_answer}
use Rattle.systems.specs.TableNumbers.{table_of}
use Rattle.systems.proofs.Judging.{answered}
use Rattle.systems.proofs.table.TableSystem.fill.Goals as goal

pub returns-in_err-check-clause-answered_by_the_table : goal.returns-in_err-check-clause-answered_by_the_table
returns-in_err-check-clause-answered_by_the_table c =
    let answer : numbered table_refusal_values c.from_residual.result ≡ fill_answer (table_of c.args.numbers) = search rules in
    answered c.args.numbers (numbered table_refusal_values c.from_residual.result) answer

pub returns-clause-answered_by_the_table : goal.returns-clause-answered_by_the_table
returns-clause-answered_by_the_table c =
    let answer : Ok tt ≡ fill_answer (table_of c.args.numbers) = search rules in
    answered c.args.numbers (Ok tt) answer

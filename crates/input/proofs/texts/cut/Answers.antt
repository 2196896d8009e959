use Rattle.std.proofs.Common.{arith}
use Rattle.std.proofs.lemmas.Grind.{common_steps}
use Rattle.input.proofs.Capped.{capped}
use Rattle.input.proofs.texts.cut.Goals as goal

pub returns-then-len-bytes-clause-value : goal.returns-then-len-bytes-clause-value
returns-then-len-bytes-clause-value c = grind (arith, common_steps, capped)

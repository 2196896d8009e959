use Rattle.std.proofs.Common.{sym, arith}
use Rattle.std.proofs.lemmas.Grind.{common_steps}
use Rattle.words.specs.Positions.{line_of}
use Rattle.words.proofs.Joins.{lines_few}
use Rattle.text.specs.Readers.{progress_of}
use Rattle.text.proofs.Sound.{line_sound}
use Rattle.text.proofs.read.read_lines.Goals as goal

pub loop-line-preserved : goal.loop-line-preserved
loop-line-preserved c = (
  tt,
  tt,
  grind (arith, common_steps),
  grind (arith, common_steps),
  grind (arith, common_steps),
  line_sound (progress_of c.loop-line.reader) (line_of c.in-Some.line) (progress_of c.read_line.new.self) (sym c.in_ok-read_line.ensures) c.loop-line.invariant.5,
)

pub overflow_add-number : goal.overflow_add-number
overflow_add-number c = omega (arith, lines_few c.args.text.now, c.loop-line.invariant.3, c.loop-line.invariant.4, c.type_inv.text)

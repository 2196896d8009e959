-- The moves so far.
use Rattle.std.proofs.Common.{take}
use Rattle.std.specs.List.{flat_map}
use Rattle.scheme.specs.Drafts.{draft_of}
use Rattle.render.specs.Appended.{Grown}
use Rattle.report.specs.Moves.{by_line}
use Rattle.report.proofs.moves.put_moves.Given as goal

abbrev pub invariant-loop-mv : goal.invariant-loop-mv
invariant-loop-mv l = Grown l.initial.out l.out (flat_map (by_line (draft_of l.draft)) (take l.mv-index l.moves))

-- The queries so far.
use Rattle.std.proofs.Common.{take}
use Rattle.std.specs.List.{flat_map}
use Rattle.scheme.specs.Drafts.{draft_of}
use Rattle.protection.specs.Systems.{system_of}
use Rattle.render.specs.Appended.{Grown}
use Rattle.report.specs.Answers.{answer_lines}
use Rattle.report.proofs.whole.put_answers.Given as goal

abbrev pub invariant-loop-query : goal.invariant-loop-query
invariant-loop-query g l =
    let system = system_of (g.S.Walk.model l.system) (g.S.System.labels l.system) in
    Grown l.initial.out l.out (flat_map (answer_lines (draft_of l.draft) system) (take l.query-index l.queries))

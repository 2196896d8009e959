-- One answer more, an exit at it, and the end.
use Rattle.std.proofs.Common.{ℕ, List, subst, arith}
use Rattle.std.specs.List.{flat_map}
use Rattle.scheme.specs.declared.entries.Query.{Query}
use Rattle.scheme.specs.Drafts.{draft_of}
use Rattle.protection.specs.Systems.{system_of}
use Rattle.render.specs.Appended.{Grown, Short}
use Rattle.render.proofs.Appending.{at_exit, short_at, grown_more, grown_all}
use Rattle.report.specs.Answers.{answer_lines}
use Rattle.report.proofs.whole.put_answers.Goals as goal

pub returns-in_err-put_answer : goal.returns-in_err-put_answer
returns-in_err-put_answer g c =
    let lines : Query → List ℕ = answer_lines (draft_of c.args.draft.now)
    (system_of (g.S.Walk.model c.args.system.now) (g.S.System.labels c.args.system.now)) in
    at_exit _ _ _ _ c.from_residual.ensures.0
    (subst (λ (qs : List Query). Short c.args.out.now c.put_answer.new.out (flat_map lines qs)) c.queries-queries.ensures.list
    (short_at lines c.queries-queries.result.now c.loop-query.query-index _
    c.args.out.now c.loop-query.out c.put_answer.new.out (omega arith) c.loop-query.invariant c.in_err-put_answer.ensures))

pub loop-query-preserved : goal.loop-query-preserved
loop-query-preserved g c =
    let lines : Query → List ℕ = answer_lines (draft_of c.args.draft.now)
    (system_of (g.S.Walk.model c.args.system.now) (g.S.System.labels c.args.system.now)) in
    grown_more lines c.queries-queries.result.now c.loop-query.query-index _
    c.args.out.now c.loop-query.out c.put_answer.new.out (omega arith) c.loop-query.invariant c.in_ok-put_answer.ensures

pub returns : goal.returns
returns g c =
    let lines : Query → List ℕ = answer_lines (draft_of c.args.draft.now)
    (system_of (g.S.Walk.model c.args.system.now) (g.S.System.labels c.args.system.now)) in
    subst (λ (qs : List Query). Grown c.args.out.now c.loop-query.out (flat_map lines qs)) c.queries-queries.ensures.list
    (grown_all lines c.queries-queries.result.now c.loop-query.query-index _ _ (omega arith) c.loop-query.invariant)

use Rattle.std.proofs.Common.{◌≤◌, length, subst, sym, ap, ◌∙◌, arith}
use Rattle.std.proofs.lemmas.Bool.{ltb-false}
use Rattle.std.proofs.lemmas.Result.{MatchResult-from_err}
use Rattle.std.proofs.iter.runs.Made.{run_of_turn, run_of_exit}
use Rattle.bounded.proofs.Bounded.collect.Goals as goal

pub returns-in_err-push : goal.returns-in_err-push
returns-in_err-push g c =
    let run = run_of_turn g.I.Iterator.next_gives _ c.loop-item.yielded _ c.loop-item.yielded_by c.in-Some.item c.next.new.self (subst (λ o. g.I.Iterator.next_gives c.loop-item.item-iterator o c.next.new.self) c.in-Some.is c.next.ensures.steps) in
    let full : g.row.N ≤ length c.loop-item.yielded = omega (arith, ltb-false _ _ (sym c.in_err-push.ensures.room), ap length c.loop-item.invariant.2) in
    MatchResult-from_err c.from_residual.result _ _ c.from_residual.ensures.0 (λ y. (run.0, run.1 ∙ (cc), omega (arith, run.2.1)))

pub returns : goal.returns
returns g c =
    let run = run_of_exit g.I.Iterator.next_gives _ c.loop-item.yielded _ c.loop-item.yielded_by c.next.new.self (subst (λ o. g.I.Iterator.next_gives c.loop-item.item-iterator o c.next.new.self) c.in-None.is c.next.ensures.steps) in
    (run.0, run.1 ∙ (cc), run.2, c.loop-item.invariant.2 ∙ sym run.3.0)

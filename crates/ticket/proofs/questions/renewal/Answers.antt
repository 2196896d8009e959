use Rattle.std.proofs.Common.{take, refl, subst, ap, ◌∙◌}
use Rattle.walk.specs.Search.{try_moves, take_states}
use Rattle.protection.specs.Analysis.{witness_left}
use Rattle.protection.specs.Safety.{Promise}
use Rattle.ticket.specs.declared.moves.TheConstants.{RENEW}
use Rattle.ticket.specs.Ticket.{ticket}
use Rattle.ticket.proofs.Verdicts.{verdict_told, renewal_leaks}
use Rattle.ticket.proofs.questions.renewal.Goals as goal

pub returns : goal.returns
unfolding try_moves take_states
returns c =
    let leaks = verdict_told c.analysed.result _ (c.analysed.ensures.answer ∙ renewal_leaks) in
    let promised = c.analysed.ensures.promised in
    let safety = subst (λ r. Promise ticket RENEW r promised.0 c.analysed.new.witness) leaks promised.1 in
    record {
      leaks = leaks;
      way = ap (take 12) (c.analysed.ensures.witness ∙ ap (λ r. witness_left ticket RENEW r c.args.witness.now) leaks);
      granted = safety.leak_is_replayed refl;
      shortest = safety.leak_is_shortest refl;
    }

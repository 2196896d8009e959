use Rattle.std.proofs.Common.{refl, subst, ◌∙◌}
use Rattle.protection.specs.Safety.{Promise}
use Rattle.ticket.specs.declared.moves.TheConstants.{PAY_BACK}
use Rattle.ticket.specs.Ticket.{ticket}
use Rattle.ticket.proofs.Verdicts.{verdict_told, payment_never}
use Rattle.ticket.proofs.questions.payment.Goals as goal

pub returns : goal.returns
returns c =
    let never = verdict_told c.analysed.result _ (c.analysed.ensures.answer ∙ payment_never) in
    let promised = c.analysed.ensures.promised in
    let safety = subst (λ r. Promise ticket PAY_BACK r promised.0 c.analysed.new.witness) never promised.1 in
    record { never = never; never_granted = safety.never_means_no_grant.0 refl }

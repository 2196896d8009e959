-- What the analysis of the two questions comes to.
use Rattle.std.proofs.Common.{◌≡◌, true, false, cond, Ok, Err, Result, refl, sym, ap, ◌∙◌}
use Rattle.walk.specs.Search.{try_moves, take_states}
use Rattle.protection.specs.declared.answers.Verdict.{Verdict}
use Rattle.protection.specs.declared.answers.Verdict.TheVariants.{Leak, Never}
use Rattle.protection.specs.declared.answers.Refusal.{Refusal}
use Rattle.protection.specs.Answers.{Said, told, verdict_values}
use Rattle.protection.specs.Analysis.{analysis_answer}
use Rattle.ticket.specs.declared.moves.TheConstants.{RENEW, PAY_BACK}
use Rattle.ticket.specs.Ticket.{ticket}

-- the verdict of which the numbers tell
abbrev verdict_from : Said → Verdict
verdict_from s = cond s.leaks (Leak s.found s.tried s.length) (Never s.found s.tried)

from_values : (v : Verdict) → verdict_from (verdict_values v) ≡ v
from_values (Leak found tried length) = refl
from_values (Never found tried) = refl

pub verdict_told : (r : Result Verdict Refusal) (s : Said) → told r ≡ Ok s → r ≡ Ok (verdict_from s)
verdict_told (Ok v) s e = let same : verdict_values v ≡ s = cc in ap Ok (sym (from_values v) ∙ ap verdict_from same)
verdict_told (Err refusal) s e = cc

pub renewal_leaks : analysis_answer ticket RENEW 22 22 22 ≡ Ok (record { leaks = true; found = 12; tried = 47; length = 12 })
unfolding try_moves take_states
renewal_leaks = refl

pub payment_never : analysis_answer ticket PAY_BACK 22 22 22 ≡ Ok (record { leaks = false; found = 12; tried = 48; length = 0 })
unfolding try_moves take_states
payment_never = refl

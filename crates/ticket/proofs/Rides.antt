-- A monitor of a ticket, asked for a ride.
use Rattle.std.proofs.Common.{◌≡◌, ℕ, ◌-◌, ◌≤◌, true, ◌&&◌, leb, Some, Ok, Err, refl, sym, ap, ◌∙◌, arith}
use Rattle.std.specs.Option.{ok_or}
use Rattle.std.specs.Result.{result_ok}
use Rattle.std.proofs.lemmas.Bool.{le-leb, and_from}
use Rattle.protection.specs.Refusals.{refused}
use Rattle.protection.specs.Histories.{request, enabled_as, request_answer, moved, after}
use Rattle.protection.proofs.LowestLaws.{lowest_of}
use Rattle.ticket.specs.declared.moves.TheConstants.{STAMP}
use Rattle.ticket.specs.Ticket.{ticket, ticket_step}

-- while rides are left, it is granted, and takes one
module _ (left : ℕ) (some : 1 ≤ left) (most : left ≤ 10) where
  held : (leb 1 left && leb left 10) ≡ true
  held = and_from _ _ (le-leb _ _ some) (le-leb _ _ most)

  stamped : ticket_step left 0 ≡ Some (left - 1)
  stamped = rw held refl

  enabled : enabled_as ticket left STAMP 0 ≡ true
  enabled = rw held refl

  pub granted : request_answer ticket left STAMP ≡ Ok 0
  granted =
      let first = lowest_of (enabled_as ticket left STAMP) 4 (Some 0) (omega arith, omega arith, enabled, λ k from below. absurd (omega arith)) in
      ap (λ o. ok_or o (refused 61)) (sym first)

  pub taken : after ticket left (request STAMP) ≡ left - 1
  taken = ap (λ r. moved ticket left (result_ok r)) granted ∙ rw held refl

-- then it is refused, and changes nothing

pub refused_then : request_answer ticket 0 STAMP ≡ Err (refused 61)
refused_then = refl

pub kept_then : after ticket 0 (request STAMP) ≡ 0
kept_then = refl

-- A ticket of ten rides: what each move does with it, and the protection system that this makes.
use Rattle.std.specs.Prelude.{ℕ, ◌-◌, ◌&&◌, List, [], ◌∷◌, Some, None, Option, if◌then◌else◌, ◌==◌, nat_le, slice_get}
use Rattle.std.specs.Option.{option_map, option_and_then}
use Rattle.walk.specs.Walks.{Walk}
use Rattle.protection.specs.declared.permission.Permission.{Permission}
use Rattle.protection.specs.Systems.{System, Labels, system_of}
use Rattle.ticket.specs.declared.moves.TheConstants.{STAMP, GIVE_BACK, RENEW, PAY_BACK}
use Rattle.ticket.specs.declared.moves.Move.{Move}
use Rattle.ticket.specs.declared.moves.Move.TheVariants.{Stamp, GiveBack, Renew, PayBack}

-- the moves in the order of their numbers
abbrev pub moves : List Move
moves = Stamp ∷ GiveBack ∷ Renew ∷ PayBack ∷ []

-- in a state up to 10 the rider has the ticket, with so many rides left on it; from 11 on the office
-- has it, with 11 fewer. A stamp takes a ride, a ticket that is used up is given back, the office
-- renews it, and pays for the rides that are left on one
abbrev pub leads_to : Move → ℕ → Option ℕ
leads_to Stamp s = if nat_le 1 s && nat_le s 10 then Some (s - 1) else None
leads_to GiveBack s = if s == 0 then Some 11 else None
leads_to Renew s = if s == 11 then Some 10 else None
leads_to PayBack s = if nat_le 12 s && nat_le s 21 then Some 11 else None

abbrev pub ticket_step : ℕ → ℕ → Option ℕ
ticket_step s m = option_and_then (λ v. leads_to v s) (slice_get moves m)

-- the rider begins with a new ticket
abbrev pub ticket_walk : Walk
ticket_walk = record { states = 22; start = 10; moves = 4; step = ticket_step }

abbrev pub label_of : Move → Permission
label_of Stamp = STAMP
label_of GiveBack = GIVE_BACK
label_of Renew = RENEW
label_of PayBack = PAY_BACK

abbrev pub ticket_labels : Labels
ticket_labels =
    record { objects = 3; rights = 4; label = λ m. option_map label_of (slice_get moves m) }

abbrev pub ticket : System
ticket = system_of ticket_walk ticket_labels

-- What is promised of the answers about a ticket.
use Rattle.std.specs.Prelude.{ℕ, List, Result}
use Rattle.walk.specs.declared.records.Found.{Found}
use Rattle.protection.specs.declared.permission.Permission.{Permission}
use Rattle.protection.specs.declared.answers.Verdict.{Verdict}
use Rattle.protection.specs.declared.answers.Refusal.{Refusal}
use Rattle.protection.specs.Safety.{Promise}
use Rattle.ticket.specs.Ticket.{ticket}

-- the safety promise, with the listed states in some table
abbrev pub Promised : Permission → Result Verdict Refusal → List ℕ → Type 0
Promised q answer witness = (found : List Found) × Promise ticket q answer found witness

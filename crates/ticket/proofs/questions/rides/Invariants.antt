use Rattle.std.proofs.Common.{◌≡◌, ◌+◌, min}
use Rattle.ticket.proofs.questions.rides.Given as goal

-- ten rides at most are granted of those that were asked for, and the others are left
abbrev pub invariant-loop : goal.invariant-loop
invariant-loop l = (l.granted ≡ min l.counter 10) × (l.monitor.state + l.granted ≡ 10)

-- What `fill` does with the last policy is done in the table.
use Rattle.std.proofs.Common.{is_ok, sym, ◌∙◌, arith}
use Rattle.scheme.specs.Models.{has_room}
use Rattle.scheme.proofs.Last.{last_asked_in, last_filled_in}
use Rattle.scheme.proofs.policies.Policies.fill_last.Goals as goal

pub returns-clause-room : goal.returns-clause-room
returns-clause-room c =
    let t = c.args.self.now in
    c.fill.ensures.room
    ∙ sym (last_asked_in t.rows t.len c.in_ok-last.last c.index-self-last.result
    (omega arith) (grind arith) (has_room c.args.clause))

pub returns-clause-after : goal.returns-clause-after
returns-clause-after c =
    let t = c.args.self.now in
    last_filled_in t.rows t.len c.in_ok-last.last c.index-self-last.result
    (omega arith) (grind arith) c.args.clause c.fill.new.self (is_ok c.fill.result) c.fill.ensures.after

-- The first entry that is out is the lowest.
use Rattle.std.proofs.Common.{◌≡◌, true, false, ltb, length, rules}
use Rattle.std.proofs.lemmas.Iterator.{IsFirst-from_position, YieldsList-from_slice}
use Rattle.protection.specs.Lowest.{lowest}
use Rattle.systems.specs.Tables.{entry_out}
use Rattle.systems.specs.declared.numbers.Numbers.{Numbers}
use Rattle.systems.proofs.Listed.{first_out}
use Rattle.systems.proofs.numbers.Numbers.first_entry_out.Goals as goal

pub returns : goal.returns
returns c =
    let n : Numbers = c.args.self.now in
    let first : c.position.result ≡ lowest (entry_out n.states n.entries.now) (length n.entries.now)
    = first_out n.states n.entries.now c.position.result
    (IsFirst-from_position _ _ c.position.result (λ x. ltb n.states x ≡ true) (λ x. ltb n.states x ≡ false)
    c.position.ensures.ran (YieldsList-from_slice n.entries.now cc) (λ x q k. search rules) (λ x q k. (search rules, search rules))) in
    search rules

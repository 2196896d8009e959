-- The first move whose label is out is the lowest.
use Rattle.std.proofs.Common.{◌≡◌, true, false, rules}
use Rattle.std.proofs.lemmas.Iterator.{first_from_Range}
use Rattle.protection.proofs.LowestLaws.{lowest_of}
use Rattle.systems.specs.Tables.{label_out}
use Rattle.systems.specs.declared.numbers.Numbers.{Numbers}
use Rattle.systems.proofs.numbers.Numbers.first_label_out.Goals as goal

pub returns : goal.returns
returns c =
    let n : Numbers = c.args.self.now in
    lowest_of (label_out n.objects n.rights n.labels.now) n.moves c.find.result
    (first_from_Range _ _ _ c.find.result
    (λ m. label_out n.objects n.rights n.labels.now m ≡ true) (λ m. label_out n.objects n.rights n.labels.now m ≡ false)
    c.find.ensures.ran (λ m q k. search rules) (λ m q k. (search rules, search rules)))

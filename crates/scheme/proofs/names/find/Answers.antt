use Rattle.std.proofs.Common.{bytes_eq, ◌∙◌, rules, tests}
use Rattle.std.proofs.lemmas.Iterator.{YieldsList-from_slice}
use Rattle.std.proofs.lemmas.Iterator.Search.{position_from_yields_List}
use Rattle.scheme.proofs.Search.{placed}
use Rattle.scheme.proofs.names.find.Goals as goal

pub returns-clause-value : goal.returns-clause-value
returns-clause-value g c =
    position_from_yields_List (λ x. bytes_eq (g.T.Named.named x) c.args.name.now) _ _ c.position.result c.position.ensures.ran (YieldsList-from_slice c.args.entries.now cc) (λ x b q k. search (rules, tests))
    ∙ placed g.T.Named.named c.args.name.now c.args.entries.now

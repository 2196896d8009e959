use Rattle.std.proofs.Common.{◌∙◌, rules}
use Rattle.std.proofs.lemmas.Iterator.{YieldsList-from_slice, YieldsList-from_map}
use Rattle.bounded.specs.Items.{items}
use Rattle.bounded.proofs.Collects.{collected}
use Rattle.codes.proofs.Weighing.{value_read, values_read}
use Rattle.codes.proofs.codes.Codes.values_from.Goals as goal

pub returns : goal.returns
returns c =
    let self = c.args.self.now in
    collected 4 c.collect.result c.unwrap.result c.collect.ensures c.unwrap.ensures (YieldsList-from_map _ (value_read c.args.sum) (YieldsList-from_slice (items self.digits) cc) c.map.ensures.closure (λ x r q k. search rules))
    ∙ values_read (items self.digits) c.args.sum self.weighed

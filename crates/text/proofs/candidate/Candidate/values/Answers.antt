use Rattle.std.proofs.Common.{◌+◌, length, ◌∙◌, arith, rules}
use Rattle.std.proofs.iter.runs.Sources.{ranges}
use Rattle.std.proofs.lemmas.Iterator.{YieldsList-from_range, YieldsList-from_map}
use Rattle.bounded.proofs.Collects.{collected}
use Rattle.scheme.specs.Models.{attribute_of}
use Rattle.scheme.proofs.Lists.{count_of}
use Rattle.words.specs.Positions.{word_in}
use Rattle.text.specs.Candidates.{above, its_words}
use Rattle.text.specs.Declaring.{value_in}
use Rattle.text.proofs.Copying.{values_listed}
use Rattle.text.proofs.candidate.Candidate.values.Goals as goal

pub unwrap-requires : goal.unwrap-requires
unwrap-requires c = search (rules, ranges)

pub returns : goal.returns
returns c =
    let al = (above c.args.self).attributes in
    let ws = its_words c.args.self in
    let slice = c.attributes.result.now in
    collected 4 c.collect.result c.unwrap.result c.collect.ensures c.unwrap.ensures
    (YieldsList-from_map _ (λ i. value_in (word_in ws i)) (YieldsList-from_range 2 (2 + length slice) (length al) (cc) (omega (arith, count_of attribute_of slice al c.attributes.ensures.list))) c.map.ensures.closure (λ x r q k. search rules))
    ∙ values_listed 2 al ws

use Rattle.std.proofs.Common.{map, sym, ap, ◌∙◌, rules}
use Rattle.std.proofs.lemmas.Iterator.{YieldsList-from_slice, YieldsList-from_map}
use Rattle.std.proofs.lemmas.Simd.{map-map}
use Rattle.bounded.proofs.Collects.{collected}
use Rattle.scheme.specs.declared.entries.Attribute.{Attribute}
use Rattle.scheme.specs.Models.{AttributeModel, attribute_of}
use Rattle.record.proofs.record.makes.sizes_in.Goals as goal

pub returns : goal.returns
returns c =
    let all = c.attributes-attributes.result.now in
    collected 4 c.collect.result c.unwrap.result c.collect.ensures c.unwrap.ensures
    (YieldsList-from_map _ (λ (a : Attribute). a.size) (YieldsList-from_slice all cc) c.map.ensures.closure (λ x r q k. search rules))
    ∙ sym (map-map (λ (a : AttributeModel). a.size) attribute_of all)
    ∙ ap (λ l. map (λ (a : AttributeModel). a.size) l) c.attributes-attributes.ensures.list

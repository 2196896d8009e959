use Rattle.std.proofs.Common.{map, sym, ap, ◌∙◌, rules}
use Rattle.std.proofs.lemmas.Iterator.{YieldsList-from_slice, YieldsList-from_map_by}
use Rattle.std.proofs.lemmas.Simd.{map-map}
use Rattle.bounded.proofs.Collects.{collected_by}
use Rattle.scheme.specs.declared.entries.Object.{Object}
use Rattle.scheme.specs.Models.{ObjectModel, object_of as model_of}
use Rattle.codes.specs.Objects.{there}
use Rattle.codes.specs.Meanings.{object_of}
use Rattle.record.proofs.record.makes.start_in.Goals as goal

pub returns : goal.returns
returns c =
    let all = c.objects.result.now in
    collected_by object_of 8 c.collect.result c.unwrap.result c.collect.ensures c.unwrap.ensures
    (YieldsList-from_map_by _ object_of (λ (o : Object). there (model_of o).values) (YieldsList-from_slice all cc) c.map-there.ensures.closure (λ x r q k. search rules))
    ∙ sym (map-map (λ (o : ObjectModel). there o.values) model_of all)
    ∙ ap (λ l. map (λ (o : ObjectModel). there o.values) l) c.objects.ensures.list

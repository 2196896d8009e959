use Rattle.std.proofs.Common.{◌≡◌, ◌^◌, map, length, get_or, sym, ap, ◌∙◌, arith, rules}
use Rattle.std.proofs.iter.Serving.{serving}
use Rattle.std.proofs.iter.runs.Sources.{ranges}
use Rattle.std.specs.List.{range_with_len}
use Rattle.std.proofs.lemmas.List.FromFn.{get_or-map-range_with_len, length-map-range_with_len}
use Rattle.std.proofs.lemmas.List.{length-map}
use Rattle.std.proofs.lemmas.Iterator.{YieldsList-from_range, YieldsList-from_map_by}
use Rattle.bounded.specs.Items.{items}
use Rattle.bounded.proofs.Collects.{collected_by}
use Rattle.codes.specs.Divisors.{number_of}
use Rattle.record.proofs.Powers.{pow_le}
use Rattle.record.proofs.numbering.makes.places_of.Goals as goal

pub collect-requires : goal.collect-requires
collect-requires c = grind (serving, pow_le)

pub unwrap-requires : goal.unwrap-requires
unwrap-requires c = search (rules, ranges)

pub returns-clause-places : goal.returns-clause-places
returns-clause-places c =
    let b = c.args.radix in
    let n = c.args.objects in
    let is : map number_of (items c.unwrap.result) ≡ map (λ i. b ^ i) (range_with_len 0 n) =
    collected_by number_of 8 c.collect.result c.unwrap.result c.collect.ensures c.unwrap.ensures
    (YieldsList-from_map_by _ number_of (λ i. b ^ i) (YieldsList-from_range 0 n n (cc) (omega arith)) c.map-places.ensures.closure (λ x r q k. search rules)) in
    let long : length (items c.unwrap.result) ≡ n = sym (length-map (items c.unwrap.result) number_of) ∙ ap length is ∙ length-map-range_with_len (λ i. b ^ i) 0 n in
    λ i h. ap (λ l. get_or l i 0) is ∙ get_or-map-range_with_len (λ k. b ^ k) 0 n i i 0 (omega (arith, h)) (omega arith)

use Rattle.std.proofs.Common.{◌/◌, ◌%◌, ◌≡◌, ◌∙◌, rules}
use Rattle.std.proofs.iter.Serving.{serving}
use Rattle.std.proofs.lemmas.Iterator.{YieldsList-from_slice, YieldsList-from_map_by}
use Rattle.bounded.specs.Items.{items}
use Rattle.bounded.proofs.Collects.{collected_by}
use Rattle.scheme.specs.Sizes.{size_states}
use Rattle.codes.specs.declared.divisor.Divisor.{Divisor}
use Rattle.codes.specs.Divisors.{number_of}
use Rattle.codes.specs.Objects.{ObjectState}
use Rattle.codes.specs.Codes.{object_from}
use Rattle.codes.specs.Meanings.{object_of}
use Rattle.record.specs.States.{state_from}
use Rattle.record.specs.Numberings.{dimensions_of, state_of}
use Rattle.record.proofs.Powers.{pow_pos}
use Rattle.record.proofs.Turns.{state_read}
use Rattle.record.proofs.numbering.Numbering.state.Goals as goal

pub collect-requires : goal.collect-requires
collect-requires c = grind (serving, c.args.self.now.placed, pow_pos)

pub returns : goal.returns
returns c =
    let self = c.args.self.now in
    let d = dimensions_of self in
    let object : Divisor → ObjectState = λ p. object_from d.sizes (c.args.number / number_of p % size_states d.sizes) in
    let is : state_of c.unwrap.result ≡ state_from d.sizes d.objects c.args.number =
    collected_by object_of 8 c.collect.result c.unwrap.result c.collect.ensures c.unwrap.ensures
    (YieldsList-from_map_by _ object_of object (YieldsList-from_slice (items self.places) (cc)) c.map-objects.ensures.closure (λ x r q k. search rules))
    ∙ state_read d.sizes c.args.number (items self.places) self.placed in
    search rules

use Rattle.std.proofs.Common.{◌^◌, cond, ltb, Some, None, ap, ◌∙◌}
use Rattle.scheme.specs.Sizes.{sizes_of, size_states}
use Rattle.record.specs.States.{state_from}
use Rattle.record.specs.Numberings.{Dimensions}
use Rattle.record.specs.Systems.{object_count}
use Rattle.record.specs.Schemes.{scheme_of}
use Rattle.record.proofs.Digits.{corresponds}
use Rattle.record.proofs.Dimensions.{dimensions}
use Rattle.record.proofs.record.Scheme.decode.Goals as goal

pub returns : goal.returns
returns c =
    let m = scheme_of c.args.self.now in
    let x = c.args.number in
    record {
      value = c.state.ensures ∙ ap (λ (d : Dimensions). cond (ltb x (size_states d.sizes ^ d.objects)) (Some (state_from d.sizes d.objects x)) None) (dimensions c.args.self.now);
      one_to_one = corresponds (sizes_of m) (object_count m);
    }

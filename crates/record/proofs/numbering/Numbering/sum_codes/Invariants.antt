use Rattle.std.proofs.Common.{◌≡◌, ◌^◌, ◌<◌, length, map, drop}
use Rattle.scheme.specs.Sizes.{size_states}
use Rattle.codes.specs.Meanings.{object_of}
use Rattle.record.specs.Numberings.{dimensions_of, summed_from}
use Rattle.record.proofs.numbering.Numbering.sum_codes.Given as goal

-- the sum so far, and what is left
abbrev pub invariant-loop-object : goal.invariant-loop-object
invariant-loop-object l =
    let ks = (dimensions_of l.self).sizes in
    record {
      left : summed_from l.sum (length l.yielded) ks (map object_of (drop (length l.yielded) l.objects)) ≡ summed_from 0 0 ks (map object_of l.objects);
      below : l.sum < size_states ks ^ length l.yielded;
    }

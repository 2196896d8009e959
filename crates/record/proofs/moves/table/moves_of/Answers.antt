use Rattle.std.proofs.Common.{◌*◌, map, ap, ◌∙◌, arith, rules}
use Rattle.std.proofs.iter.runs.Sources.{ranges}
use Rattle.std.proofs.lemmas.Iterator.{YieldsList-from_range, YieldsList-from_map}
use Rattle.bounded.proofs.Collects.{collected}
use Rattle.record.specs.Moves.{move_at}
use Rattle.record.specs.Entries.{packed, unpacked}
use Rattle.record.proofs.MoveNumbers.{moves_le, entries_are_moves}
use Rattle.record.proofs.moves.table.moves_of.Goals as goal

pub unwrap-requires : goal.unwrap-requires
unwrap-requires c = search (rules, ranges, moves_le)

pub returns : goal.returns
returns c =
    let n = c.args.objects in
    let k = c.args.policies in
    let all = n * n * k in
    let entries =
    collected 2048 c.collect.result c.unwrap.result c.collect.ensures c.unwrap.ensures
    (YieldsList-from_map _ (λ v. packed (move_at n v)) (YieldsList-from_range 0 all all (cc) (omega arith)) c.map-entries.ensures.closure (λ x r q k. search rules)) in
    ap (map unpacked) entries ∙ entries_are_moves n k c.requires.objects c.requires.policies

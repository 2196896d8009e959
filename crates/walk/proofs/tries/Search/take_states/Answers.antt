-- A state is taken: the search goes on behind it, or has ended in it.
use Rattle.std.proofs.Common.{ℕ, Bool, arith}
use Rattle.walk.specs.Walks.{Walk}
use Rattle.walk.proofs.Taken as taken
use Rattle.walk.proofs.Turns.{same_on}
use Rattle.walk.proofs.tries.Search.take_states.Goals as goal

pub returns-in-Some : goal.returns-in-Some
returns-in-Some g c =
    let same = same_on c.loop-place.invariant.2 c.in-Some.ensures.same in
    let o = taken.over_by (g.W.Walk.model c.args.self.now.walk.now) (g.G.Goal.stops c.args.self.now.goal.now) c.args.listing.now
    c.loop-place.listing c.try_moves.new.listing c.loop-place.place c.loop-place.tried c.in-Some.mv same c.loop-place.invariant.0 (omega arith)
    c.in-Some.ensures.answer c.found.result.now c.found.ensures c.write_witness-length.result c.loop-place.witness c.write_witness-length.new.witness
    c.write_witness-length.ensures.total c.write_witness-length.ensures.written in
    record {
      same_marks = same.marks;
      same_table = same.table;
      ending = o.ending;
      tables = o.tables;
      witness = rw c.loop-place.invariant.3 at o.written;
    }

pub loop-place-preserved : goal.loop-place-preserved
loop-place-preserved g c =
    let walk : Walk = g.W.Walk.model c.args.self.now.walk.now in
    let stop : ℕ → Bool = g.G.Goal.stops c.args.self.now.goal.now in (
      rw c.loop-place.invariant.1
          (taken.take_more walk stop c.loop-place.listing.marks.now c.loop-place.listing.table.now c.args.listing.now.table.now
          c.loop-place.listing.count c.loop-place.place c.loop-place.tried c.loop-place.invariant.0
          c.try_moves.new.listing.marks.now c.try_moves.new.listing.table.now c.try_moves.new.listing.count (omega arith) c.in_default.ensures.answer),
      c.loop-place.invariant.1,
      same_on c.loop-place.invariant.2 c.in_default.ensures.same,
      c.loop-place.invariant.3,
    )

pub returns : goal.returns
returns g c =
    let o = taken.over_all (g.W.Walk.model c.args.self.now.walk.now) (g.G.Goal.stops c.args.self.now.goal.now) c.args.listing.now
    c.loop-place.listing c.loop-place.place c.loop-place.tried c.loop-place.invariant.2 c.loop-place.invariant.0 (omega arith) c.args.witness.now c.loop-place.witness c.loop-place.invariant.3 in
    record { same_marks = c.loop-place.invariant.2.marks; same_table = c.loop-place.invariant.2.table; ending = o.ending; tables = o.tables; witness = o.written }

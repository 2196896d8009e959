-- A try ends the search, lists a state or changes nothing.
use Rattle.std.proofs.Common.{◌≡◌, ℕ, ◌<◌, Bool, sym, ap, ◌∙◌, arith}
use Rattle.walk.specs.Walks.{Walk}
use Rattle.walk.specs.Search.{state_at}
use Rattle.walk.specs.Listings.{so_far}
use Rattle.walk.proofs.Turns as turns
use Rattle.walk.proofs.tries.Search.try_moves.Goals as goal
use Rattle.walk.proofs.tries.Search.try_moves.Goals.{in-Some+else-is_met, in_default}

pub note_next-requires-clause-room : goal.note_next-requires-clause-room
note_next-requires-clause-room g c =
    let walk : Walk = g.W.Walk.model c.args.self.now.walk.now in
    turns.free walk (g.met.W.Walk.bounds c.args.self.now.walk.now) (g.G.Goal.stops c.args.self.now.goal.now)
    c.args.listing.now.table.now c.args.listing.now.count c.args.place
    c.loop-mv.listing.marks.now c.loop-mv.listing.table.now c.loop-mv.listing.count c.loop-mv.mv c.loop-mv.invariant.0 c.in-Some.next
    (ap (λ (x : ℕ). walk.step x c.loop-mv.mv) (sym c.loop-mv.invariant.1) ∙ (sym c.step.ensures ∙ c.in-Some.is))

pub loop-mv-preserved : goal.loop-mv-preserved
loop-mv-preserved g c =
    let walk : Walk = g.W.Walk.model c.args.self.now.walk.now in
    let stop : ℕ → Bool = g.G.Goal.stops c.args.self.now.goal.now in
    let bounds = g.met.W.Walk.bounds c.args.self.now.walk.now in
    let below : c.loop-mv.mv < walk.moves = omega (arith, c.loop-mv.invariant.3, c.loop-mv-test.true) in
    let read : walk.step (state_at (so_far c.loop-mv.listing) c.args.place) c.loop-mv.mv ≡ c.step.result
    = ap (λ (x : ℕ). walk.step x c.loop-mv.mv) (sym c.loop-mv.invariant.1) ∙ sym c.step.ensures in
    elim c.match-step.branch [
      | in-Some+else-is_met w ↦
          let t = turns.some_turn walk bounds stop c.args.listing.now.table.now c.args.listing.now.count c.args.place
          c.loop-mv.listing.marks.now c.loop-mv.listing.table.now c.loop-mv.listing.count c.loop-mv.mv c.loop-mv.invariant.0
          w.in-Some.next (read ∙ w.in-Some.is) (sym w.is_met.ensures ∙ w.if-is_met.false) below
          w.note_next.new.self.marks.now w.note_next.new.self.table.now w.note_next.new.self.count
          w.note_next.ensures.list w.note_next.ensures.rest w.note_next.ensures.same.table_length w.note_next.ensures.same.marks_length
          w.note_next.new.self.fits w.note_next.ensures.grows in
          rw w.listing-is (t.0, c.loop-mv.invariant.1 ∙ t.1, turns.same_on c.loop-mv.invariant.2 w.note_next.ensures.same, c.loop-mv.invariant.3)
      | in_default w ↦
          let t = turns.none_turn walk bounds stop c.args.listing.now.table.now c.args.listing.now.count c.args.place
          c.loop-mv.listing.marks.now c.loop-mv.listing.table.now c.loop-mv.listing.count c.loop-mv.mv c.loop-mv.invariant.0
          (read ∙ w.in_default.is) below in
          rw w.listing-is (t.0, c.loop-mv.invariant.1 ∙ t.1, c.loop-mv.invariant.2, c.loop-mv.invariant.3)
    ]

pub returns-clause-answer : goal.returns-clause-answer
returns-clause-answer g c =
    turns.try_passes (g.W.Walk.model c.args.self.now.walk.now) (g.met.W.Walk.bounds c.args.self.now.walk.now) (g.G.Goal.stops c.args.self.now.goal.now)
    c.args.listing.now.table.now c.args.listing.now.count c.args.place
    c.loop-mv.listing.marks.now c.loop-mv.listing.table.now c.loop-mv.listing.count c.loop-mv.mv c.loop-mv.invariant.0
    (omega (arith, c.loop-mv.invariant.3, c.loop-mv-test.false, c.loop-mv.invariant.0.below))

-- The listed states before the place were taken.
use Rattle.std.proofs.Common.{◌≡◌, ◌-◌}
use Rattle.walk.specs.Tables.{Taking}
use Rattle.walk.specs.Listings.{SameTables}
use Rattle.walk.proofs.tries.Search.take_states.Given as goal

abbrev pub invariant-loop-place : goal.invariant-loop-place
invariant-loop-place g l =
    Taking (g.W.Walk.model l.self.walk.now) (g.G.Goal.stops l.self.goal.now) l.listing.marks.now l.listing.table.now l.initial.listing.table.now
    l.listing.count l.place l.tried
    × (l.moves ≡ (g.W.Walk.model l.self.walk.now).moves)
    × SameTables l.initial.listing l.listing
    × (l.witness ≡ l.initial.witness)

abbrev pub decreases-loop-place : goal.decreases-loop-place
decreases-loop-place g l = (g.W.Walk.model l.self.walk.now).states - l.place

-- The moves below `mv` were tried in the state at the place.
use Rattle.std.proofs.Common.{◌≡◌}
use Rattle.walk.specs.Search.{state_at}
use Rattle.walk.specs.Tables.{Trying}
use Rattle.walk.specs.Listings.{so_far, SameTables}
use Rattle.walk.proofs.tries.Search.try_moves.Given as goal

abbrev pub invariant-loop-mv : goal.invariant-loop-mv
invariant-loop-mv g l =
    Trying (g.W.Walk.model l.self.walk.now) (g.G.Goal.stops l.self.goal.now) l.listing.marks.now l.listing.table.now l.initial.listing.table.now
    l.initial.listing.count l.listing.count l.place l.mv
    × (l.state ≡ state_at (so_far l.listing) l.place)
    × SameTables l.initial.listing l.listing
    × (l.mv-end ≡ (g.W.Walk.model l.self.walk.now).moves)

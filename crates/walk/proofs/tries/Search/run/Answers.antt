-- What the search leaves in the listing is in the marks.
use Rattle.std.proofs.Common.{◌≡◌, length, length-set, rules}
use Rattle.std.proofs.lemmas.List.{length-replicate}
use Rattle.walk.specs.Walks.{Walk}
use Rattle.walk.proofs.Whole as whole
use Rattle.walk.proofs.tries.Search.run.Goals as goal

pub returns-clause-marks : goal.returns-clause-marks
returns-clause-marks g c =
    let walk : Walk = g.W.Walk.model c.args.self.now.walk.now in
    let size : length c.begin-listing.result.marks.now ≡ walk.states = search (rules, length-set, length-replicate) in
    let marks = whole.marks_end walk (g.G.Goal.stops c.args.self.now.goal.now) c.begin-listing.result c.take_states.new.listing c.take_states.ensures.tables size in
    search rules

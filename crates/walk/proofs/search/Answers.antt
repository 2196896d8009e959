-- The parts lent to the search come back in the whole tables.
use Rattle.std.proofs.Common.{ℕ, ◌<◌, ◌≤◌, Bool, length, ⊎_elim, arith}
use Rattle.walk.specs.Walks.{Walk}
use Rattle.walk.specs.Search.{search_from}
use Rattle.walk.specs.Results.{found_of}
use Rattle.walk.specs.Written.{tables, SomeShort}
use Rattle.walk.proofs.Whole.{marks_whole, found_whole}
use Rattle.walk.proofs.Seen.{visits_of}
use Rattle.walk.proofs.Law.{found_fits, means_of}
use Rattle.walk.proofs.search.Goals as goal

pub returns-clause-found : goal.returns-clause-found
returns-clause-found g c =
    let walk : Walk = g.W.Walk.model c.args.walk.now in
    let stop : ℕ → Bool = g.G.Goal.stops c.args.goal.now in
    let long : walk.states ≤ length c.args.found.now = omega arith in
    found_whole walk.states c.states-states.result c.args.found.now c.run.new.table (found_of (search_from walk stop))
    c.run.ensures.table c.states-states.ensures (found_fits walk (g.met.W.Walk.bounds c.args.walk.now) stop) long

pub returns-clause-means : goal.returns-clause-means
returns-clause-means g c =
    let walk : Walk = g.W.Walk.model c.args.walk.now in
    let stop : ℕ → Bool = g.G.Goal.stops c.args.goal.now in
    let bounds = g.met.W.Walk.bounds c.args.walk.now in
    let long : walk.states ≤ length c.args.found.now = omega arith in
    means_of walk bounds stop c.run.result c.args.found.now _ c.args.witness.now c.run.new.witness
    c.run.ensures.ending
    (found_whole walk.states c.states-states.result c.args.found.now c.run.new.table (found_of (search_from walk stop))
    c.run.ensures.table c.states-states.ensures (found_fits walk bounds stop) long)
    c.run.ensures.witness

pub returns-clause-visits : goal.returns-clause-visits
returns-clause-visits g c =
    let walk : Walk = g.W.Walk.model c.args.walk.now in
    let stop : ℕ → Bool = g.G.Goal.stops c.args.goal.now in
    let bounds = g.met.W.Walk.bounds c.args.walk.now in
    let long : walk.states ≤ length c.args.found.now = omega arith in
    let enough : ¬ SomeShort walk.states (tables c.args.marks.now c.args.found.now c.args.witness.now)
    = λ short. ⊎_elim (λ (h : length c.args.marks.now < walk.states). omega arith)
    (λ later. ⊎_elim (λ (h : length c.args.found.now < walk.states). omega arith) (λ (h : length c.args.witness.now < walk.states). omega arith) later) short in
    visits_of walk bounds stop (tables c.args.marks.now c.args.found.now c.args.witness.now) (tables _ _ c.run.new.witness) enough c.run.result
    c.run.ensures.ending
    (marks_whole walk.states c.states-states.result c.args.marks.now c.run.new.marks (found_of (search_from walk stop)) c.run.ensures.marks c.states-states.ensures)
    (found_whole walk.states c.states-states.result c.args.found.now c.run.new.table (found_of (search_from walk stop))
    c.run.ensures.table c.states-states.ensures (found_fits walk bounds stop) long)
    c.run.ensures.witness

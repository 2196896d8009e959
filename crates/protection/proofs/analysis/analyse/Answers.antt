-- What the search ensures is the safety promise, and tells what was visited for q.
use Rattle.std.proofs.Common.{◌≡◌, Some, Ok, Option, sym, subst, rules}
use Rattle.walk.specs.declared.records.Ending.{Ending}
use Rattle.walk.specs.Walks.{Walk}
use Rattle.walk.specs.Runs.{Means}
use Rattle.walk.specs.Visited.{Met}
use Rattle.walk.specs.Written.{Tables, tables, Visits}
use Rattle.protection.specs.declared.answers.Verdict.{Verdict}
use Rattle.protection.specs.Systems.{System, Labels, system_of}
use Rattle.protection.specs.Meaning.{meaning}
use Rattle.protection.specs.Analysis.{at_label}
use Rattle.protection.specs.Safety.{Promise}
use Rattle.protection.specs.Verdicts.{VisitsFor}
use Rattle.protection.proofs.Promised.{promised}
use Rattle.protection.proofs.Visiting.{visits_for}
use Rattle.protection.proofs.analysis.analyse.Goals as goal

pub returns-clause-safety : goal.returns-clause-safety
returns-clause-safety g c =
    let system : System = meaning g.S.Walk g.S.System c.args.system.now in
    let some : c.search.result ≡ Some c.in_ok-ending.ending = search rules in
    subst (λ (v : Verdict). Promise system c.args.q (Ok v) c.search.new.found c.search.new.witness) (sym c.into.ensures)
    (promised system (g.met.S.Walk.bounds c.args.system.now) c.args.q c.in_ok-ending.ending c.search.new.found c.search.new.witness
    (subst (λ (o : Option Ending). Means system.walk (at_label system c.args.q) o c.search.new.found c.search.new.witness) some c.search.ensures.means))

pub returns-clause-visits : goal.returns-clause-visits
returns-clause-visits g c =
    let walk : Walk = g.S.Walk.model c.args.system.now in
    let labels : Labels = g.S.System.labels c.args.system.now in
    let old : Tables = tables c.args.marks.now c.args.found.now c.args.witness.now in
    let new : Tables = tables c.search.new.marks c.search.new.found c.search.new.witness in
    let some : c.search.result ≡ Some c.in_ok-ending.ending = search rules in
    subst (λ (v : Verdict). VisitsFor walk labels c.args.q (Ok v) old new) (sym c.into.ensures)
    (visits_for walk labels c.args.q c.in_ok-ending.ending old new
    (subst (λ (o : Option Ending). Visits walk (Met (at_label (system_of walk labels) c.args.q)) o old new) some c.search.ensures.visits))

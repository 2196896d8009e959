-- What the search for a move labelled q has visited, said of labels.
use Rattle.std.proofs.Common.{◌≡◌, ℕ, true, false, List, length, take, Some, Ok, refl}
use Rattle.std.proofs.lemmas.Bool.{both_ways}
use Rattle.walk.specs.declared.records.Found.{Found}
use Rattle.walk.specs.declared.records.Ending.{Ending}
use Rattle.walk.specs.declared.records.Ending.TheVariants.{Stopped, Exhausted}
use Rattle.walk.specs.Walks.{Walk}
use Rattle.walk.specs.Visited.{Met, Visited, StoppedVisits, ExhaustedVisits}
use Rattle.walk.specs.Written.{Tables, Visits}
use Rattle.protection.specs.declared.permission.Permission.{Permission}
use Rattle.protection.specs.Systems.{Labels, system_of}
use Rattle.protection.specs.Answers.{verdict_of}
use Rattle.protection.specs.Analysis.{at_label}
use Rattle.protection.specs.Verdicts.{VisitsFor}
use Rattle.protection.proofs.Labelled.{has_label_true, has_label_itself}

-- what was visited for one goal was visited for another that the same moves meet
module _ (walk : Walk) (goal other : ℕ → Type 0) (there : (m : ℕ) → goal m → other m) (back : (m : ℕ) → other m → goal m) where
  same_list : (list : List Found) (p m : ℕ) → Visited walk goal list p m → Visited walk other list p m
  same_list list p m v = record {
    some = v.some;
    first = v.first;
    comes = v.comes;
    once = v.once;
    in_order = v.in_order;
    tried = v.tried;
    each_listed = v.each_listed;
    none_meets = λ r k t h b e met. v.none_meets r k t h b e (back k met);
  }

  pub same_stop : (list : List Found) (tried : ℕ) (witness : List ℕ) → StoppedVisits walk goal list tried witness → StoppedVisits walk other list tried witness
  same_stop list tried witness v = record {
    index = v.index;
    last = v.last;
    visited = same_list list v.index v.last v.visited;
    in_list = v.in_list;
    enabled = v.enabled;
    meets = there v.last v.meets;
    all_tried = v.all_tried;
    before = v.before;
    way = v.way;
    is_last = v.is_last;
  }

  pub same_end : (list : List Found) (tried : ℕ) → ExhaustedVisits walk goal list tried → ExhaustedVisits walk other list tried
  same_end list tried v = record { visited = same_list list (length list) 0 v.visited; all_tried = v.all_tried }

module _ (walk : Walk) (labels : Labels) (q : Permission) where
  abbrev At : ℕ → Type 0
  At m = Met (at_label (system_of walk labels) q) m

  abbrev Labelled : ℕ → Type 0
  Labelled m = labels.label m ≡ Some q

  labelled : (m : ℕ) → At m → Labelled m
  labelled m met = has_label_true (labels.label m) q met

  met_by : (m : ℕ) → Labelled m → At m
  met_by m e = has_label_itself (labels.label m) q e

  pub visits_for : (ending : Ending) (old new : Tables) → Visits walk (Met (at_label (system_of walk labels) q)) (Some ending) old new
      → VisitsFor walk labels q (Ok (verdict_of ending)) old new
  visits_for (Stopped count tried total) old new v = record {
    leak_visits = λ _. same_stop walk At Labelled labelled met_by (take count new.found) tried (take total new.witness) v.0;
    never_visits = λ no'. absurd (both_ways true no' refl);
    never_length = λ no'. absurd (both_ways true no' refl);
    writes = v.1;
  }
  visits_for (Exhausted count tried) old new v = record {
    leak_visits = λ yes'. absurd (both_ways false refl yes');
    never_visits = λ _. same_end walk At Labelled labelled met_by (take count new.found) tried v.0;
    never_length = λ _. refl;
    writes = v.1;
  }

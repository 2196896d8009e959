-- When an analysis is refused, and with which number; and what it has visited and written otherwise.
use Rattle.std.specs.Prelude.{◌≡◌, ◌≤◌, true, false, ◌⊎◌, ◌↔◌, take, Some, Ok, Err, Result}
use Rattle.walk.specs.Walks.{Walk}
use Rattle.walk.specs.Visited.{StoppedVisits, ExhaustedVisits}
use Rattle.walk.specs.Written.{Tables, SomeShort, Writes}
use Rattle.protection.specs.declared.permission.Permission.{Permission}
use Rattle.protection.specs.declared.answers.Verdict.{Verdict}
use Rattle.protection.specs.declared.answers.Refusal.{Refusal}
use Rattle.protection.specs.Systems.{Labels}
use Rattle.protection.specs.Refusals.{Refused, RefusedWith}
use Rattle.protection.specs.Answers.{Said, verdict_values}

-- the subject or the object of q is not below the count of objects, or its right is not below that of rights
abbrev pub BeyondCounts : Labels → Permission → Type 0
BeyondCounts labels q = (labels.objects ≤ q.subject) ⊎ ((labels.objects ≤ q.object) ⊎ (labels.rights ≤ q.right))

-- an analysis is refused with 30 exactly where q is beyond the counts, else with 31 exactly where a table is short
pub record Refuses (walk : Walk) (labels : Labels) (q : Permission) (answer : Result Said Refused) (lent : Tables) : Type 0 where
  pub beyond_counts : RefusedWith 30 answer ↔ BeyondCounts labels q
  pub short_table : RefusedWith 31 answer ↔ ((¬ BeyondCounts labels q) × SomeShort walk.states lent)
  pub otherwise : ¬ BeyondCounts labels q → ¬ SomeShort walk.states lent → (v : Said) × (answer ≡ Ok v)

-- the list goes up to the first try of an enabled move labelled q; under never there was none
pub record VisitsUpTo (walk : Walk) (labels : Labels) (q : Permission) (v : Said) (old new : Tables) : Type 0 where
  pub leak_visits : v.leaks ≡ true
      → StoppedVisits walk (λ m. labels.label m ≡ Some q) (take v.found new.found) v.tried (take v.length new.witness)
  pub never_visits : v.leaks ≡ false
      → ExhaustedVisits walk (λ m. labels.label m ≡ Some q) (take v.found new.found) v.tried
  pub never_length : v.leaks ≡ false → v.length ≡ 0
  pub writes : Writes walk.states v.found v.length old new

-- what an accepted analysis has visited; a refused one leaves the tables as they were
abbrev pub VisitsFor : Walk → Labels → Permission → Result Verdict Refusal → (old new : Tables) → Type 0
VisitsFor walk labels q (Ok v) old new = VisitsUpTo walk labels q (verdict_values v) old new
VisitsFor walk labels q (Err e) old new = new ≡ old

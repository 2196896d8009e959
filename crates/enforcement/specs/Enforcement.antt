-- Enforcement of a policy, computed: the state that it leads to, or none.
use Rattle.std.specs.Prelude.{ℕ, cond, List, None, Option, ◌==◌, slice_index_or, slice_set}
use Rattle.std.specs.Option.{option_map}
use Rattle.scheme.specs.declared.terms.Predicate.{Predicate}
use Rattle.scheme.specs.declared.terms.Action.{Action}
use Rattle.codes.specs.Objects.{ObjectState, absent, there}
use Rattle.enforcement.specs.Parties.{Parties}
use Rattle.enforcement.specs.Predicates.{all_hold}
use Rattle.enforcement.specs.Actions.{ran}

-- a state has one entry for each object, by its number
abbrev pub State : Type 0
State = List ObjectState

-- both are there, all predicates hold beforehand, and then the actions run
abbrev pub enforced_on : List ℕ → List Predicate → List Action → ObjectState → ObjectState → Option Parties
enforced_on ks qs xs absent y = None
enforced_on ks qs xs (there u) absent = None
enforced_on ks qs xs (there u) (there v) = cond (all_hold qs u v) (ran ks xs (record { subject = there u; object = there v })) None

-- the state with another subject and another object
abbrev pub placed : State → ℕ → ℕ → Parties → State
placed t s o p = slice_set (slice_set t s p.subject) o p.object

-- the policy with these predicates and actions, on two different objects of a state
abbrev pub enforced : List ℕ → List Predicate → List Action → ℕ → ℕ → State → Option State
enforced ks qs xs s o t = cond (s == o) None (option_map (placed t s o) (enforced_on ks qs xs (slice_index_or t s absent) (slice_index_or t o absent)))

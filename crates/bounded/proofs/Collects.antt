-- What `collect` makes of an iterator whose items are known.
use Rattle.std.proofs.Common.{◌≡◌, ℕ, ◌<◌, List, Ok, Result, Option, MatchResult, map, subst, sym, ap, ◌∙◌}
use Rattle.std.specs.Iterator.{DrainsIf}
use Rattle.std.specs.Iterator.Runs.{SomeRun, WholeRun}
use Rattle.std.proofs.lemmas.Iterator.{YieldsList, items_from_drains}
use Rattle.std.proofs.lemmas.List.{map-id}
use Rattle.std.proofs.lemmas.Result.{MatchResult-at_ok}
use Rattle.std.proofs.iter.runs.Made.{took}
use Rattle.bounded.specs.declared.Bounded.{Bounded}
use Rattle.bounded.specs.Items.{items}

-- where v reads each item
pub collected_by : {S A B E : Type 0} {steps : S → Option A → S → Type 0} {s : S} {ys : List B} (v : A → B) (N : ℕ) (r : Result (Bounded A N) E) (list : Bounded A N)
    → MatchResult r (λ l. WholeRun steps s (λ p. items l ≡ p.items)) (λ _. SomeRun steps s (λ p. N < p.len)) → r ≡ Ok list → YieldsList steps v s ys → map v (items list) ≡ ys
collected_by {steps = steps} {s = s} v N r list told is yields =
    let run = MatchResult-at_ok (λ l. WholeRun steps s (λ p. items l ≡ p.items)) _ list is told in
    let xs = run.0.items in
    let all = took run.0 in
    let drains : DrainsIf steps (Unit {0}) s xs = subst (λ from. DrainsIf steps (Unit {0}) from xs) run.1 (all.0, all.1, λ _. all.2 run.2) in
    ap (map v) run.3 ∙ items_from_drains xs drains yields

pub collected : {S A E : Type 0} {steps : S → Option A → S → Type 0} {s : S} {ys : List A} (N : ℕ) (r : Result (Bounded A N) E) (list : Bounded A N)
    → MatchResult r (λ l. WholeRun steps s (λ p. items l ≡ p.items)) (λ _. SomeRun steps s (λ p. N < p.len)) → r ≡ Ok list → YieldsList steps (λ x. x) s ys → items list ≡ ys
collected N r list told is yields = sym (map-id (items list)) ∙ collected_by (λ x. x) N r list told is yields

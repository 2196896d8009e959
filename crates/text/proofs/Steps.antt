-- What is known of a step, a test and a chain of checks that did not refuse.
use Rattle.std.proofs.Common.{◌≡◌, ℕ, ◌+◌, Bool, true, false, cond, List, [], ◌∷◌, Ok, Err, Result, sym, refl}
use Rattle.words.specs.Outcomes.{and_then, carried, in_turn}
use Rattle.text.proofs.Checked.{ok_err}
use Rattle.text.proofs.WritingLines.{Turns}

pub step_passed : {A B E : Type 0} (r : Result A E) (f : A → Result B E) (y : B) → and_then r f ≡ Ok y → (x : A) × ((r ≡ Ok x) × (f x ≡ Ok y))
step_passed (Ok x) f y h = (x, (refl, h))
step_passed (Err e) f y h = absurd (ok_err y e (sym h))

pub carried_passed : {A E F : Type 0} (g : E → F) (r : Result A E) (x : A) → carried g r ≡ Ok x → r ≡ Ok x
carried_passed g (Ok y) x h = let same : y ≡ x = cc in rw same refl
carried_passed g (Err e) x h = absurd (ok_err x (g e) (sym h))

pub test_passed : {A E : Type 0} (b : Bool) (r : Result A E) (e : E) (x : A) → cond b r (Err e) ≡ Ok x → (b ≡ true) × (r ≡ Ok x)
test_passed true r e x h = (refl, h)
test_passed false r e x h = absurd (ok_err x e (sym h))

pub turns_passed : {X E : Type 0} (check : ℕ → X → Result (Unit {0}) E) (i : ℕ) (xs : List X) → in_turn check i xs ≡ Ok tt → Turns check i xs
turns_passed check i [] h = tt
turns_passed check i (x ∷ xs) h =
    let (u, (first, rest)) = step_passed (check i x) (λ _. in_turn check (i + 1) xs) tt h in
    (first, turns_passed check (i + 1) xs rest)

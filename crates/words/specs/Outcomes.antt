-- Steps that may refuse, one after another.
use Rattle.std.specs.Prelude.{ℕ, ◌+◌, List, [], ◌∷◌, Ok, Err, Result}

abbrev pub and_then : {A B E : Type 0} → Result A E → (A → Result B E) → Result B E
and_then (Ok x) f = f x
and_then (Err e) f = Err e

-- a fault carried whole in another
abbrev pub carried : {A E F : Type 0} → (E → F) → Result A E → Result A F
carried g (Ok x) = Ok x
carried g (Err e) = Err (g e)

abbrev pub map_ok : {A B E : Type 0} → (A → B) → Result A E → Result B E
map_ok f (Ok x) = Ok (f x)
map_ok f (Err e) = Err e

-- what a call answers that changes something in place, with what it leaves
abbrev pub after : {S E : Type 0} → Result (Unit {0}) E → S → Result S E
after (Ok _) s = Ok s
after (Err e) s = Err e

-- a check of each item by its number, from i on: the first that refuses decides
abbrev pub in_turn : {X E : Type 0} → (ℕ → X → Result (Unit {0}) E) → ℕ → List X → Result (Unit {0}) E
in_turn check i [] = Ok tt
in_turn check i (x ∷ xs) = and_then (check i x) (λ _. in_turn check (i + 1) xs)

-- The names of entries that stand for others.
use Rattle.std.proofs.Common.{◌≡◌, ℕ, List, map, sym, ap, ◌∙◌}
use Rattle.std.proofs.lemmas.Simd.{map-map}

pub names_are : {X Y : Type 0} (f : X → Y) (name : Y → List ℕ) (xs : List X) (ys : List Y) → map f xs ≡ ys
    → map (λ x. name (f x)) xs ≡ map name ys
names_are f name xs ys same = sym (map-map name f xs) ∙ ap (map name) same

-- When a scheme has a start state, and labels within its counts.
use Rattle.std.specs.Prelude.{ℕ, Bool, true, false, ◌&&◌, List, [], ◌∷◌, length, Some, None, Option, nat_lt}
use Rattle.scheme.specs.Models.{ObjectModel, PolicyModel, SchemeModel}
use Rattle.scheme.specs.Sizes.{sizes_of}

-- an attribute of size k is null, or has a value below k
abbrev pub value_fits : ℕ → Option ℕ → Bool
value_fits k None = true
value_fits k (Some v) = nat_lt v k

-- there is a value or null for each attribute, and no more
abbrev pub values_fit : List ℕ → List (Option ℕ) → Bool
values_fit [] [] = true
values_fit [] (v ∷ vs) = false
values_fit (k ∷ ks) [] = false
values_fit (k ∷ ks) (v ∷ vs) = value_fits k v && values_fit ks vs

abbrev pub objects_fit : List ℕ → List ObjectModel → Bool
objects_fit ks [] = true
objects_fit ks (o ∷ os) = values_fit ks o.values && objects_fit ks os

-- each policy is for one of the rights
abbrev pub rights_fit : ℕ → List PolicyModel → Bool
rights_fit rights [] = true
rights_fit rights (p ∷ ps) = nat_lt p.right rights && rights_fit rights ps

abbrev pub well_formed : SchemeModel → Bool
well_formed m = objects_fit (sizes_of m) m.objects && rights_fit (length m.rights) m.policies

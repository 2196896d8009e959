-- The number that a name has among the names of its kind.
use Rattle.std.specs.Prelude.{ℕ, ◌+◌, cond, List, [], ◌∷◌, Some, None, Option}
use Rattle.std.specs.Str.{bytes_eq}

-- the number of the first of the names that is n, where they are numbered from i
abbrev pub index_from : ℕ → List ℕ → List (List ℕ) → Option ℕ
index_from i n [] = None
index_from i n (m ∷ ms) = cond (bytes_eq m n) (Some i) (index_from (i + 1) n ms)

abbrev pub index_of : List ℕ → List (List ℕ) → Option ℕ
index_of n names = index_from 0 n names

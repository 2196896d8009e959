-- Attributes by their sizes alone, and how many states of one object there are.
use Rattle.std.specs.Prelude.{ℕ, ◌+◌, ◌*◌, List, [], ◌∷◌, map}
use Rattle.scheme.specs.Models.{AttributeModel, SchemeModel}

-- the sizes of the attributes
abbrev pub sizes_of : SchemeModel → List ℕ
sizes_of m = map (λ (a : AttributeModel). a.size) m.attributes

-- an attribute of size k has k values, and null
abbrev pub size_combinations : List ℕ → ℕ
size_combinations [] = 1
size_combinations (k ∷ ks) = size_combinations ks * (k + 1)

-- an object is absent, or has one of the combinations
abbrev pub size_states : List ℕ → ℕ
size_states ks = 1 + size_combinations ks

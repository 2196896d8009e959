-- A word of six bytes, by its bytes.
use Rattle.std.proofs.Common.{◌≡◌, ℕ, ◌≤◌, ◌<◌, List, [], ◌∷◌, length, get_or, refl, arith}

pub six_bytes : (w : List ℕ) → 6 ≤ length w → length w < 7 → w ≡ get_or w 0 0 ∷ get_or w 1 0 ∷ get_or w 2 0 ∷ get_or w 3 0 ∷ get_or w 4 0 ∷ get_or w 5 0 ∷ []
six_bytes (a ∷ b ∷ c ∷ d ∷ e ∷ f ∷ []) least below = refl
six_bytes (a ∷ b ∷ c ∷ d ∷ e ∷ f ∷ g ∷ w) least below = absurd (omega arith)
six_bytes [] least below = absurd (omega arith)
six_bytes (a ∷ []) least below = absurd (omega arith)
six_bytes (a ∷ b ∷ []) least below = absurd (omega arith)
six_bytes (a ∷ b ∷ c ∷ []) least below = absurd (omega arith)
six_bytes (a ∷ b ∷ c ∷ d ∷ []) least below = absurd (omega arith)
six_bytes (a ∷ b ∷ c ∷ d ∷ e ∷ []) least below = absurd (omega arith)

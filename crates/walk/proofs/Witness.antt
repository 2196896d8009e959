-- The way from a place to the start, and the witness that is written along it.
use Rattle.std.proofs.Common.{◌≡◌, ℕ, zero, suc, ◌+◌, ◌-◌, ◌<◌, ◌≤◌, List, [], ◌∷◌, ◌++◌, length, drop, set, sym, ap, ◌∙◌, arith}
use Rattle.std.proofs.lemmas.List.{drop-set, append_assoc}
use Rattle.walk.specs.declared.records.Found.{Found}
use Rattle.walk.specs.Search.{parent_at, move_at, moves_to}
use Rattle.walk.specs.Kept.{Rooted}
use Rattle.walk.proofs.Paths.{depth_child, depth_le, moves_to_child}

module _ (found : List Found) (rooted : Rooted found) where
  pub moves_down : (p : ℕ) → 0 < p → p < length found → moves_to found p ≡ moves_to found (parent_at found p) ++ (move_at found p ∷ [])
  moves_down zero pos h = absurd (omega arith)
  moves_down (suc p) pos h = moves_to_child found rooted p h

  pub depth_down : (p : ℕ) → 0 < p → p < length found → length (moves_to found p) ≡ length (moves_to found (parent_at found p)) + 1
  depth_down zero pos h = absurd (omega arith)
  depth_down (suc p) pos h = depth_child found rooted p h

  pub depth_small : (p : ℕ) → p < length found → length (moves_to found p) ≤ p
  depth_small p h = depth_le found rooted p h

  -- one move more is written, from behind
  pub write_more : (w : List ℕ) (p left : ℕ) → 0 < p → p < length found → left ≡ length (moves_to found p) → left ≤ length w
      → moves_to found (parent_at found p) ++ drop (left - 1) (set w (left - 1) (move_at found p)) ≡ moves_to found p ++ drop left w
  write_more w p left pos h e fits =
      let d = depth_down p pos h in
      let k : ℕ = left - 1 in
      let l : k < length w = omega arith in
      let up : k + 1 ≡ left = omega arith in
      ap (λ (xs : List ℕ). moves_to found (parent_at found p) ++ xs) (drop-set w k (move_at found p) l)
      ∙ (sym (append_assoc (moves_to found (parent_at found p)) (move_at found p ∷ []) (drop (k + 1) w))
      ∙ (ap (λ (xs : List ℕ). xs ++ drop (k + 1) w) (sym (moves_down p pos h))
      ∙ ap (λ (n : ℕ). moves_to found p ++ drop n w) up))

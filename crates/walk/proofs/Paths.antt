-- The moves recorded along the parents: how they grow from parent to child, and how many there are.
use Rattle.std.proofs.Common.{◌≡◌, ℕ, zero, suc, ◌+◌, ◌<◌, ◌≤◌, Bool, List, [], ◌∷◌, ◌++◌, length, sym, refl, ap, ◌∙◌, arith}
use Rattle.std.proofs.lemmas.List.{length_push}
use Rattle.walk.specs.declared.records.Found.{Found}
use Rattle.walk.specs.Walks.{Walk}
use Rattle.walk.specs.Search.{parent_at, move_at, path, moves_to}
use Rattle.walk.specs.Kept.{Kept, Rooted}

path_start : (most : ℕ) (found : List Found) → path most found 0 ≡ []
path_start zero found = refl
path_start (suc most) found = refl

-- how many moves lead to a place
abbrev pub depth : List Found → ℕ → ℕ
depth found p = length (moves_to found p)

module _ (found : List Found) (rooted : Rooted found) where
  pub parent_before : (p : ℕ) → suc p < length found → parent_at found (suc p) ≤ p
  parent_before p h = omega (arith, rooted (suc p) (omega arith) h)

  path_same : (a b p : ℕ) → p ≤ a → p ≤ b → p < length found → path a found p ≡ path b found p
  path_same a b zero ha hb h = path_start a found ∙ sym (path_start b found)
  path_same zero b (suc p) ha hb h = absurd (omega arith)
  path_same (suc a) zero (suc p) ha hb h = absurd (omega arith)
  path_same (suc a) (suc b) (suc p) ha hb h =
      let w : parent_at found (suc p) ≤ p = parent_before p h in
      ap (λ (l : List ℕ). l ++ (move_at found (suc p) ∷ [])) (path_same a b (parent_at found (suc p)) (omega arith) (omega arith) (omega arith))

  pub moves_to_child : (p : ℕ) → suc p < length found
      → moves_to found (suc p) ≡ moves_to found (parent_at found (suc p)) ++ (move_at found (suc p) ∷ [])
  moves_to_child p h =
      let w : parent_at found (suc p) ≤ p = parent_before p h in
      ap (λ (l : List ℕ). l ++ (move_at found (suc p) ∷ []))
      (path_same p (parent_at found (suc p)) (parent_at found (suc p)) w (omega arith) (omega arith))

  pub depth_child : (p : ℕ) → suc p < length found → depth found (suc p) ≡ depth found (parent_at found (suc p)) + 1
  depth_child p h = ap (λ (l : List ℕ). length l) (moves_to_child p h) ∙ length_push (moves_to found (parent_at found (suc p))) (move_at found (suc p))

  path_short : (most p : ℕ) → p < length found → length (path most found p) ≤ p
  path_short zero p h = omega arith
  path_short (suc most) zero h = omega arith
  path_short (suc most) (suc p) h =
      let w : parent_at found (suc p) ≤ p = parent_before p h in
      omega (arith, length_push (path most found (parent_at found (suc p))) (move_at found (suc p)), path_short most (parent_at found (suc p)) (omega arith))

  -- a state is at most as deep as it is far down the list
  pub depth_le : (p : ℕ) → p < length found → depth found p ≤ p
  depth_le p h = path_short p p h

pub kept_rooted : (walk : Walk) (stop : ℕ → Bool) (found : List Found) (place m : ℕ) → Kept walk stop found place m → Rooted found
kept_rooted walk stop found place m kept i pos h = (kept.visited.comes i pos h).earlier

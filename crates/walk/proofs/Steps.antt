-- The search, turn by turn: what a loop needs to keep the search from where it is equal to the whole.
use Rattle.std.proofs.Common.{◌≡◌, ℕ, zero, suc, ◌+◌, ◌-◌, ◌<◌, ◌≤◌, Bool, true, false, ltb, List, [], ◌∷◌, ◌++◌, length, refl, ap, ◌∙◌, arith}
use Rattle.std.proofs.lemmas.Bool.{cond-true, cond-false, lt-ltb, le-ltb}
use Rattle.walk.specs.declared.records.Found.{Found}
use Rattle.walk.specs.Walks.{Walk}
use Rattle.walk.specs.Search.{Outcome, stopped, exhausted, entry, moves_to, ends, after_try, try_moves, take_states, search_from}
use Rattle.walk.specs.Tables.{from_place, from_move}

module _ (walk : Walk) (stop : ℕ → Bool) where
  pub search_starts : search_from walk stop ≡ from_place walk stop 0 (entry walk.start 0 0 ∷ []) 0
  search_starts =
      let e : walk.states ≡ walk.states - 0 = omega arith in
      ap (λ (n : ℕ). take_states walk stop n 0 (entry walk.start 0 0 ∷ []) 0) e

  take_done : (left place : ℕ) (found : List Found) (tried : ℕ) → length found ≤ place → take_states walk stop left place found tried ≡ exhausted found tried
  unfolding take_states
  take_done zero place found tried h = refl
  take_done (suc left) place found tried h = cond-false (ltb place (length found)) _ (exhausted found tried) (le-ltb place (length found) h)

  -- every listed state was taken
  pub place_done : (place : ℕ) (found : List Found) (tried : ℕ) → length found ≤ place → from_place walk stop place found tried ≡ exhausted found tried
  place_done place found tried h = take_done (walk.states - place) place found tried h

  take_more : (left place : ℕ) (found : List Found) (tried : ℕ) → place < length found
      → take_states walk stop (suc left) place found tried
      ≡ try_moves walk stop (λ found' tried'. take_states walk stop left (place + 1) found' tried') walk.moves place 0 found tried
  unfolding take_states
  take_more left place found tried h = cond-true (ltb place (length found)) _ (exhausted found tried) (lt-ltb place (length found) h)

  -- a listed state is taken
  pub place_more : (place : ℕ) (found : List Found) (tried : ℕ) → place < length found → length found ≤ walk.states
      → from_place walk stop place found tried ≡ from_move walk stop place 0 found tried
  place_more place found tried h fits =
      let e : walk.states - place ≡ suc (walk.states - (place + 1)) = omega arith in
      let d : walk.moves ≡ walk.moves - 0 = omega arith in
      ap (λ (n : ℕ). take_states walk stop n place found tried) e
      ∙ (take_more (walk.states - (place + 1)) place found tried h
      ∙ ap (λ (n : ℕ). try_moves walk stop (λ found' tried'. from_place walk stop (place + 1) found' tried') n place 0 found tried) d)

  try_ends : (then : List Found → ℕ → Outcome) (left place move : ℕ) (found : List Found) (tried : ℕ) → ends walk stop found place move ≡ true
      → try_moves walk stop then (suc left) place move found tried ≡ stopped found (tried + 1) (moves_to found place ++ (move ∷ []))
  unfolding try_moves
  try_ends then left place move found tried e = cond-true (ends walk stop found place move) _ _ e

  try_more : (then : List Found → ℕ → Outcome) (left place move : ℕ) (found : List Found) (tried : ℕ) → ends walk stop found place move ≡ false
      → try_moves walk stop then (suc left) place move found tried
      ≡ try_moves walk stop then left place (move + 1) (after_try walk found place move) (tried + 1)
  unfolding try_moves
  try_more then left place move found tried e = cond-false (ends walk stop found place move) _ _ e

  try_done : (then : List Found → ℕ → Outcome) (place move : ℕ) (found : List Found) (tried : ℕ) → try_moves walk stop then 0 place move found tried ≡ then found tried
  unfolding try_moves
  try_done then place move found tried = refl

  -- the move ends the search
  pub move_ends : (place move : ℕ) (found : List Found) (tried : ℕ) → move < walk.moves → ends walk stop found place move ≡ true
      → from_move walk stop place move found tried ≡ stopped found (tried + 1) (moves_to found place ++ (move ∷ []))
  move_ends place move found tried h e =
      let d : walk.moves - move ≡ suc (walk.moves - (move + 1)) = omega arith in
      ap (λ (n : ℕ). try_moves walk stop (λ found' tried'. from_place walk stop (place + 1) found' tried') n place move found tried) d
      ∙ try_ends (λ found' tried'. from_place walk stop (place + 1) found' tried') (walk.moves - (move + 1)) place move found tried e

  -- or does not
  pub move_more : (place move : ℕ) (found : List Found) (tried : ℕ) → move < walk.moves → ends walk stop found place move ≡ false
      → from_move walk stop place move found tried ≡ from_move walk stop place (move + 1) (after_try walk found place move) (tried + 1)
  move_more place move found tried h e =
      let d : walk.moves - move ≡ suc (walk.moves - (move + 1)) = omega arith in
      ap (λ (n : ℕ). try_moves walk stop (λ found' tried'. from_place walk stop (place + 1) found' tried') n place move found tried) d
      ∙ try_more (λ found' tried'. from_place walk stop (place + 1) found' tried') (walk.moves - (move + 1)) place move found tried e

  -- every move was tried
  pub move_done : (place move : ℕ) (found : List Found) (tried : ℕ) → walk.moves ≤ move
      → from_move walk stop place move found tried ≡ from_place walk stop (place + 1) found tried
  move_done place move found tried h =
      let d : walk.moves - move ≡ 0 = omega arith in
      ap (λ (n : ℕ). try_moves walk stop (λ found' tried'. from_place walk stop (place + 1) found' tried') n place move found tried) d
      ∙ try_done (λ found' tried'. from_place walk stop (place + 1) found' tried') place move found tried

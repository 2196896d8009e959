-- Every search is stopped or exhausted, and what holds of the found list as it goes on holds of it there.
use Rattle.std.proofs.Common.{◌≡◌, ℕ, zero, suc, ◌+◌, ◌*◌, ◌<◌, Bool, true, ltb, List, [], ◌∷◌, ◌++◌, length, ap, ◌∙◌, arith}
use Rattle.std.proofs.lemmas.Bool.{cond_both, ltb-true, ltb-false}
use Rattle.walk.specs.declared.records.Found.{Found}
use Rattle.walk.specs.Walks.{Walk, Bounds}
use Rattle.walk.specs.Search.{Outcome, stopped, exhausted, entry, moves_to, ends, after_try, try_moves, take_states, search_from}
use Rattle.walk.specs.Kept.{Kept}
use Rattle.walk.proofs.Invariant.{begins, size, next, turn, after_try_length}

module _ (walk : Walk) (bounded : Bounds walk) (stop : ℕ → Bool) (P : Outcome → Type 0)
    (at_stopped : (found : List Found) (place m tried : ℕ) → Kept walk stop found place m → place < length found
    → ends walk stop found place m ≡ true → tried ≡ place * walk.moves + m → P (stopped found (tried + 1) (moves_to found place ++ (m ∷ []))))
    (at_exhausted : (found : List Found) (tried : ℕ) → Kept walk stop found (length found) 0 → tried ≡ length found * walk.moves → P (exhausted found tried))
  where
    tries_end : (then : List Found → ℕ → Outcome) (left place m : ℕ) (found : List Found) (tried : ℕ)
        → left + m ≡ walk.moves → place < length found → tried ≡ place * walk.moves + m → Kept walk stop found place m
        → ((found' : List Found) (tried' : ℕ) → tried' ≡ (place + 1) * walk.moves → Kept walk stop found' (place + 1) 0 → P (then found' tried'))
        → P (try_moves walk stop then left place m found tried)
    unfolding try_moves
    tries_end then zero place m found tried all here count kept on =
        on found tried (omega arith) (next walk bounded stop found place m kept here (omega arith))
    tries_end then (suc left) place m found tried all here count kept on =
        cond_both (ends walk stop found place m) (stopped found (tried + 1) (moves_to found place ++ (m ∷ [])))
        (try_moves walk stop then left place (m + 1) (after_try walk found place m) (tried + 1)) P
        (λ e. at_stopped found place m tried kept here e count)
        (λ e. tries_end then left place (m + 1) (after_try walk found place m) (tried + 1) (omega arith) (omega (arith, after_try_length walk found place m)) (omega arith)
        (turn walk bounded stop found place m kept here e) on)

    states_end : (left place : ℕ) (found : List Found) (tried : ℕ)
        → left + place ≡ walk.states → tried ≡ place * walk.moves → Kept walk stop found place 0
        → P (take_states walk stop left place found tried)
    unfolding take_states
    states_end zero place found tried all count kept =
        let e : place ≡ length found = omega (arith, size walk bounded stop found place 0 kept, kept.within) in
        at_exhausted found tried (rw e at kept) (count ∙ ap (λ (n : ℕ). n * walk.moves) e)
    states_end (suc left) place found tried all count kept =
        cond_both (ltb place (length found)) _ _ P
        (λ e. tries_end (λ found' tried'. take_states walk stop left (place + 1) found' tried') walk.moves place 0 found tried
        (omega arith) (ltb-true place (length found) e) (omega arith) kept
        (λ found' tried' count' kept'. states_end left (place + 1) found' tried' (omega arith) count' kept'))
        (λ e.
        let d : place ≡ length found = omega (arith, ltb-false place (length found) e, kept.within) in
        at_exhausted found tried (rw d at kept) (count ∙ ap (λ (n : ℕ). n * walk.moves) d))

    pub search_ends : P (search_from walk stop)
    search_ends = states_end walk.states 0 (entry walk.start 0 0 ∷ []) 0 (omega arith) (omega arith) (begins walk bounded stop)

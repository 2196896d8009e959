-- The invariant of the found list: how a search begins with it, and how each try keeps it.
use Rattle.std.proofs.Common.{◌≡◌, ℕ, zero, suc, ◌+◌, ◌<◌, ◌≤◌, Bool, true, false, ◌⊎◌, List, [], ◌∷◌, ◌++◌, length, is_some, Some, None, Option, sym, refl, ap, ◌∙◌, subst, inl, inr, ⊎_elim, arith}
use Rattle.std.proofs.lemmas.Bool.{and_cases, cases_lt, both_ways, cond_both}
use Rattle.std.proofs.lemmas.List.{length_push, get_or_push, get_or_append_left}
use Rattle.walk.specs.declared.records.Found.{Found}
use Rattle.walk.specs.Walks.{Walk, Bounds}
use Rattle.walk.specs.Search.{entry, entry_at, state_at, parent_at, move_at, listed, ends, with_next, after_try}
use Rattle.walk.specs.Visited.{Before, Comes, ListedBy, Met}
use Rattle.walk.specs.Kept.{Kept}
use Rattle.walk.proofs.Basics.{listed_place, not_listed, pigeonhole}

-- the try of m itself is the only one more that comes before that of m + 1
before_last : (p k place m : ℕ) → Before p k place (m + 1) → Before p k place m ⊎ ((p ≡ place) × (k ≡ m))
before_last p k place m (inl h) = inl (inl h)
before_last p k place m (inr h) =
    ⊎_elim (λ l. inl (inr (h.0, l))) (λ l. inr (h.0, omega arith)) (cases_lt k m)

before_more : (p k place m : ℕ) → Before p k place m → Before p k place (m + 1)
before_more p k place m (inl h) = inl h
before_more p k place m (inr h) = inr (h.0, omega (arith, h.1))

before_next : (p k place m : ℕ) → Before p k place m → p < place + 1
before_next p k place m (inl h) = omega (arith, h)
before_next p k place m (inr h) = omega (arith, h.0)

-- no try comes before itself, or before one that comes before it
before_apart : (p k r m : ℕ) → Before p k r m → ¬ Before r m p k
before_apart p k r m (inl h) (inl l) = omega (arith, h, l)
before_apart p k r m (inl h) (inr l) = omega (arith, h, l.0)
before_apart p k r m (inr h) (inl l) = omega (arith, h.0, l)
before_apart p k r m (inr h) (inr l) = omega (arith, h.1, l.1)

pub before_same : (p k r m : ℕ) → p ≡ r → k ≡ m → ¬ Before p k r m
before_same p k r m e f (inl h) = omega (arith, h, e)
before_same p k r m e f (inr h) = omega (arith, h.1, f)

pub none_some : {A : Type 0} (o : Option A) (t : A) → o ≡ None → o ≡ Some t → ⊥
none_some o t a b = let z : true ≡ false = ap is_some (sym b ∙ a) in both_ways true z refl

module _ (walk : Walk) (bounded : Bounds walk) (stop : ℕ → Bool) where
  pub begins : Kept walk stop (entry walk.start 0 0 ∷ []) 0 0
  begins = record {
    visited = record {
      some = omega arith;
      first = refl;
      comes = λ i h k. absurd (omega arith);
      once = λ i j h k _. omega arith;
      in_order = λ i j h l k. absurd (omega arith);
      tried = λ i h k. absurd (omega arith);
      each_listed = λ p k t h w e. absurd (none_tried p k w);
      none_meets = λ p k t h w e _. none_tried p k w;
    };
    within = omega arith;
    below = λ i h. (let e : i ≡ 0 = omega arith in rw e bounded.start_below);
  }
    where
      none_tried : (p k : ℕ) → ¬ Before p k 0 0
      none_tried p k (inl h) = omega (arith, h)
      none_tried p k (inr h) = omega (arith, h.1)

  module _ (found : List Found) (place m : ℕ) (kept : Kept walk stop found place m) where
    -- no more states are listed than there are
    pub size : length found ≤ walk.states
    size = pigeonhole walk.states (length found) (state_at found) kept.below kept.visited.once

    first_parent : parent_at found 0 ≡ 0
    first_parent = ap (λ (x : Found). x.parent) kept.visited.first

    first_move : move_at found 0 ≡ 0
    first_move = ap (λ (x : Found). x.mv) kept.visited.first

    -- every entry was found by an earlier try
    not_later : (i : ℕ) → i < length found → ¬ Before place m (parent_at found i) (move_at found i)
    not_later zero h (inl l) = omega (arith, first_parent, l)
    not_later zero h (inr l) = omega (arith, first_move, l.1)
    not_later (suc i) h l = before_apart (parent_at found (suc i)) (move_at found (suc i)) place m (kept.visited.tried (suc i) (omega arith) h) l

    -- one more move was tried, and it is disabled or leads to a listed state
    pub tick : place < length found
        → ((t : ℕ) → walk.step (state_at found place) m ≡ Some t → (¬ Met stop m) × ListedBy found t place m)
        → Kept walk stop found place (m + 1)
    tick h new = record {
      visited = record {
        some = kept.visited.some;
        first = kept.visited.first;
        comes = kept.visited.comes;
        once = kept.visited.once;
        in_order = kept.visited.in_order;
        tried = λ i pos l. before_more (parent_at found i) (move_at found i) place m (kept.visited.tried i pos l);
        each_listed = λ p k t l w e. ⊎_elim (λ old. kept.visited.each_listed p k t l old e) (λ w'. listed_new p k t w' e) (before_last p k place m w);
        none_meets = λ p k t l w e. ⊎_elim (λ old. kept.visited.none_meets p k t l old e) (λ w'. unmet_new p k t w' e) (before_last p k place m w);
      };
      within = kept.within;
      below = kept.below;
    }
      where
        there : (p k t : ℕ) → (p ≡ place) × (k ≡ m) → walk.step (state_at found p) k ≡ Some t → walk.step (state_at found place) m ≡ Some t
        there p k t w e = subst (λ (x : ℕ). walk.step (state_at found place) x ≡ Some t) w.1 (subst (λ (x : ℕ). walk.step (state_at found x) k ≡ Some t) w.0 e)

        unmet_new : (p k t : ℕ) → (p ≡ place) × (k ≡ m) → walk.step (state_at found p) k ≡ Some t → ¬ Met stop k
        unmet_new p k t w e = rw w.1 (new t (there p k t w e)).0

        listed_new : (p k t : ℕ) → (p ≡ place) × (k ≡ m) → walk.step (state_at found p) k ≡ Some t → ListedBy found t p k
        listed_new p k t w e = rw (w.0, w.1) (new t (there p k t w e)).1

    -- every move was tried: on to the next place
    pub next : place < length found → m ≡ walk.moves → Kept walk stop found (place + 1) 0
    next h all = record {
      visited = record {
        some = kept.visited.some;
        first = kept.visited.first;
        comes = kept.visited.comes;
        once = kept.visited.once;
        in_order = kept.visited.in_order;
        tried = λ i pos l. inl (before_next (parent_at found i) (move_at found i) place m (kept.visited.tried i pos l));
        each_listed = λ p k t l w e. kept.visited.each_listed p k t l (earlier p k t w e) e;
        none_meets = λ p k t l w e. kept.visited.none_meets p k t l (earlier p k t w e) e;
      };
      within = omega arith;
      below = kept.below;
    }
      where
        earlier : (p k t : ℕ) → Before p k (place + 1) 0 → walk.step (state_at found p) k ≡ Some t → Before p k place m
        earlier p k t w e =
            ⊎_elim (λ l. inl l) (λ l. inr (omega arith, omega (arith, bounded.move_below (state_at found p) k t e))) (cases_lt p place)

    -- the list with a state more, found by the move m in the state at `place`
    module _ (t : ℕ) (here : place < length found) (new : listed found t ≡ false) (step : walk.step (state_at found place) m ≡ Some t) where
      more : List Found
      more = found ++ (entry t place m ∷ [])

      more_length : length more ≡ length found + 1
      unfolding more
      more_length = length_push found (entry t place m)

      old : (i : ℕ) → i < length found → entry_at more i ≡ entry_at found i
      unfolding more
      old i h = get_or_append_left found (entry t place m ∷ []) (entry 0 0 0) i h

      last : (i : ℕ) → i ≡ length found → entry_at more i ≡ entry t place m
      unfolding more
      last i e = get_or_push found (entry t place m) (entry 0 0 0) i (sym e)

      cases : (i : ℕ) → i < length more → (i < length found) ⊎ (i ≡ length found)
      cases i h = ⊎_elim (λ l. inl l) (λ l. inr (omega (arith, more_length))) (cases_lt i (length found))

      old_state : (i : ℕ) → i < length found → state_at more i ≡ state_at found i
      old_state i h = ap (λ (x : Found). x.state) (old i h)

      old_parent : (i : ℕ) → i < length found → parent_at more i ≡ parent_at found i
      old_parent i h = ap (λ (x : Found). x.parent) (old i h)

      old_move : (i : ℕ) → i < length found → move_at more i ≡ move_at found i
      old_move i h = ap (λ (x : Found). x.mv) (old i h)

      last_state : (i : ℕ) → i ≡ length found → state_at more i ≡ t
      last_state i e = ap (λ (x : Found). x.state) (last i e)

      last_parent : (i : ℕ) → i ≡ length found → parent_at more i ≡ place
      last_parent i e = ap (λ (x : Found). x.parent) (last i e)

      last_move : (i : ℕ) → i ≡ length found → move_at more i ≡ m
      last_move i e = ap (λ (x : Found). x.mv) (last i e)

      below_more : (i : ℕ) → i < length more → state_at more i < walk.states
      below_more i h =
          ⊎_elim (λ l. omega (arith, old_state i l, kept.below i l))
          (λ e. omega (arith, last_state i e, bounded.to_below (state_at found place) m t step))
          (cases i h)

      once_more : (i j : ℕ) → i < length more → j < length more → state_at more i ≡ state_at more j → i ≡ j
      once_more i j h k e =
          ⊎_elim
          (λ li. ⊎_elim
          (λ lj. kept.visited.once i j li lj (sym (old_state i li) ∙ (e ∙ old_state j lj)))
          (λ ej. absurd (not_listed found t new i li (sym (old_state i li) ∙ (e ∙ last_state j ej))))
          (cases j k))
          (λ ei. ⊎_elim
          (λ lj. absurd (not_listed found t new j lj (sym (old_state j lj) ∙ (sym e ∙ last_state i ei))))
          (λ ej. omega arith)
          (cases j k))
          (cases i h)

      -- a state that is not listed has room
      room_more : length found < walk.states
      room_more = omega (arith, more_length, pigeonhole walk.states (length more) (state_at more) below_more once_more)

      comes_more : (i : ℕ) → 0 < i → i < length more → Comes walk more i
      comes_more i pos h =
          ⊎_elim
          (λ l.
          let c : Comes walk found i = kept.visited.comes i pos l in
          let pl : parent_at found i < length found = omega (arith, c.earlier) in
          record {
            earlier = omega (arith, old_parent i l, c.earlier);
            by_step = rw (old_parent i l, old_move i l, old_state i l, old_state (parent_at found i) pl) c.by_step;
          })
          (λ e. record {
            earlier = omega (arith, last_parent i e);
            by_step = rw (last_parent i e, last_move i e, last_state i e, old_state place here) step;
          })
          (cases i h)

      -- the new entry was found by the last try, each other one before
      in_order_more : (i j : ℕ) → 0 < i → i < j → j < length more → Before (parent_at more i) (move_at more i) (parent_at more j) (move_at more j)
      in_order_more i j pos lt h =
          ⊎_elim
          (λ lj.
          let li : i < length found = omega arith in
          rw (old_parent i li, old_move i li, old_parent j lj, old_move j lj) (kept.visited.in_order i j pos lt lj))
          (λ ej.
          let li : i < length found = omega arith in
          rw (old_parent i li, old_move i li, last_parent j ej, last_move j ej) (kept.visited.tried i pos li))
          (cases j h)

      tried_more : (i : ℕ) → 0 < i → i < length more → Before (parent_at more i) (move_at more i) place (m + 1)
      tried_more i pos h =
          ⊎_elim
          (λ l. rw (old_parent i l, old_move i l) (before_more (parent_at found i) (move_at found i) place m (kept.visited.tried i pos l)))
          (λ e. inr (last_parent i e, omega (arith, last_move i e)))
          (cases i h)

      still_listed : (u p k : ℕ) → ListedBy found u p k → ListedBy more u p k
      still_listed u p k f = record {
        index = f.index;
        in_list = omega (arith, more_length, f.in_list);
        is_state = old_state f.index f.in_list ∙ f.is_state;
        no_later = rw (old_parent f.index f.in_list, old_move f.index f.in_list) f.no_later;
      }

      new_listed : (p k u : ℕ) → p ≡ place → k ≡ m → t ≡ u → ListedBy more u p k
      new_listed p k u ep ek same = record {
        index = length found;
        in_list = omega (arith, more_length);
        is_state = last_state (length found) refl ∙ same;
        no_later = before_same p k (parent_at more (length found)) (move_at more (length found))
            (ep ∙ sym (last_parent (length found) refl)) (ek ∙ sym (last_move (length found) refl));
      }

      -- a try before that of m + 1 was made in a state that was listed
      old_try : (p k : ℕ) → p < length more → Before p k place (m + 1) → p < length found
      old_try p k h (inl l) = omega (arith, here, l)
      old_try p k h (inr l) = omega (arith, here, l.0)

      old_step : (p k u : ℕ) → p < length found → walk.step (state_at more p) k ≡ Some u → walk.step (state_at found p) k ≡ Some u
      old_step p k u l e = rw (old_state p l) at e

      same_step : (p k u : ℕ) → p ≡ place → k ≡ m → walk.step (state_at found p) k ≡ Some u → t ≡ u
      same_step p k u ep ek e =
          let e' : walk.step (state_at found place) m ≡ Some u
          = subst (λ (x : ℕ). walk.step (state_at found place) x ≡ Some u) ek (subst (λ (x : ℕ). walk.step (state_at found x) k ≡ Some u) ep e) in
          some_same step e'
        where
          some_same : {u : ℕ} → walk.step (state_at found place) m ≡ Some t → walk.step (state_at found place) m ≡ Some u → t ≡ u
          some_same a b = cc

      each_listed_more : (p k u : ℕ) → p < length more → Before p k place (m + 1) → walk.step (state_at more p) k ≡ Some u → ListedBy more u p k
      each_listed_more p k u h w e =
          let l : p < length found = old_try p k h w in
          let s = old_step p k u l e in
          ⊎_elim
          (λ w'. still_listed u p k (kept.visited.each_listed p k u l w' s))
          (λ w'. new_listed p k u w'.0 w'.1 (same_step p k u w'.0 w'.1 s))
          (before_last p k place m w)

      grow : ¬ Met stop m → Kept walk stop more place (m + 1)
      grow unmet = record {
        visited = record {
          some = omega (arith, more_length);
          first = old 0 kept.visited.some ∙ kept.visited.first;
          comes = comes_more;
          once = once_more;
          in_order = in_order_more;
          tried = tried_more;
          each_listed = each_listed_more;
          none_meets = λ p k u h w e.
              let l : p < length found = old_try p k h w in
              ⊎_elim
              (λ w'. kept.visited.none_meets p k u l w' (old_step p k u l e))
              (λ w'. rw w'.1 unmet)
              (before_last p k place m w);
        };
        within = omega (arith, more_length);
        below = below_more;
      }

  -- a state that is not listed has room
  pub room : (found : List Found) (place m t : ℕ) → Kept walk stop found place m → place < length found
      → listed found t ≡ false → walk.step (state_at found place) m ≡ Some t → length found < walk.states
  room found place m t kept here new e = room_more found place m kept t here new e

  -- a try that does not end the search keeps what holds
  pub turn : (found : List Found) (place m : ℕ) → Kept walk stop found place m → place < length found
      → ends walk stop found place m ≡ false → Kept walk stop (after_try walk found place m) place (m + 1)
  unfolding more
  turn found place m kept here no_end = go (walk.step (state_at found place) m) refl
    where
      unmet : (t : ℕ) → walk.step (state_at found place) m ≡ Some t → ¬ Met stop m
      unmet t e met =
          ⊎_elim (λ (n : is_some (walk.step (state_at found place) m) ≡ false). both_ways (is_some (walk.step (state_at found place) m)) n (ap is_some e))
          (λ n. both_ways (stop m) n met)
          (and_cases (is_some (walk.step (state_at found place) m)) (stop m) no_end)

      go : (o : Option ℕ) → walk.step (state_at found place) m ≡ o → Kept walk stop (with_next found place m o) place (m + 1)
      go None e = tick found place m kept here (λ t e'. absurd (none_some (walk.step (state_at found place) m) t e e'))
      go (Some t) e =
          cond_both (listed found t) found (found ++ (entry t place m ∷ [])) (λ f. Kept walk stop f place (m + 1))
          (λ yes'. tick found place m kept here (λ u e'. (unmet u e', seen u yes' (some_same e e'))))
          (λ new. grow found place m kept t here new e (unmet t e))
        where
          some_same : {u : ℕ} → walk.step (state_at found place) m ≡ Some t → walk.step (state_at found place) m ≡ Some u → t ≡ u
          some_same a b = cc

          seen : (u : ℕ) → listed found t ≡ true → t ≡ u → ListedBy found u place m
          seen u yes' same =
              let r = listed_place found t yes' in
              record { index = r.0; in_list = r.1; is_state = r.2 ∙ same; no_later = not_later found place m kept r.0 r.1 }

with_next_length : (found : List Found) (place m : ℕ) (o : Option ℕ) → length found ≤ length (with_next found place m o)
with_next_length found place m None = omega arith
with_next_length found place m (Some t) =
    cond_both (listed found t) found (found ++ (entry t place m ∷ [])) (λ f. length found ≤ length f)
    (λ _. omega arith) (λ _. omega (arith, length_push found (entry t place m)))

-- a try takes nothing from the list
pub after_try_length : (walk : Walk) (found : List Found) (place m : ℕ) → length found ≤ length (after_try walk found place m)
after_try_length walk found place m = with_next_length found place m (walk.step (state_at found place) m)

-- Runs and the found list: the recorded moves lead to each listed state, and what runs reach is listed, no deeper than the run is long.
use Rattle.std.proofs.Common.{◌≡◌, ℕ, zero, suc, ◌+◌, ◌<◌, ◌≤◌, Bool, List, [], ◌∷◌, ◌++◌, length, Some, None, Option, sym, refl, ap, ◌∙◌, inl, inr, ⊎_elim, arith}
use Rattle.std.proofs.lemmas.Bool.{cases_lt}
use Rattle.walk.specs.declared.records.Found.{Found}
use Rattle.walk.specs.Walks.{Walk}
use Rattle.walk.specs.Search.{state_at, parent_at, move_at, path, moves_to}
use Rattle.walk.specs.Runs.{on_from, run_from, Leads}
use Rattle.walk.specs.Visited.{Before, ListedBy, Met}
use Rattle.walk.specs.Kept.{Kept, Rooted}
use Rattle.walk.proofs.Paths.{depth, parent_before, depth_child, kept_rooted}

-- a step was made, and the rest went on from it
pub on_some : (o : Option ℕ) (go : ℕ → Option ℕ) (t : ℕ) → on_from o go ≡ Some t → (u : ℕ) × (o ≡ Some u) × (go u ≡ Some t)
on_some None go t e = let z : ◌≡◌ {A = ℕ} 0 1 = cc in absurd (omega arith)
on_some (Some u) go t e = (u, refl, e)

on_itself : (o : Option ℕ) → on_from o Some ≡ o
on_itself None = refl
on_itself (Some t) = refl

-- one move more
pub run_last : (walk : Walk) (ms : List ℕ) (s m t : ℕ) → run_from walk s ms ≡ Some t → run_from walk s (ms ++ (m ∷ [])) ≡ walk.step t m
unfolding run_from
run_last walk [] s m t e = let same : s ≡ t = cc in on_itself (walk.step s m) ∙ ap (λ (x : ℕ). walk.step x m) same
run_last walk (k ∷ ks) s m t e =
    let r = on_some (walk.step s k) (λ x. run_from walk x ks) t e in
    ap (λ (o : Option ℕ). on_from o (λ x. run_from walk x (ks ++ (m ∷ [])))) r.1 ∙ run_last walk ks r.0 m t r.2

-- the state t is listed, at depth d at most
pub record Near (found : List Found) (t d : ℕ) : Type 0 where
  pub at : ℕ
  pub in_list : at < length found
  pub is_state : state_at found at ≡ t
  pub shallow : depth found at ≤ d

module _ (walk : Walk) (stop : ℕ → Bool) (found : List Found) (place m : ℕ) (kept : Kept walk stop found place m) where
  rooted : Rooted found
  rooted = kept_rooted walk stop found place m kept

  -- the list goes by parents
  parents_grow : (i j : ℕ) → i ≤ j → j < length found → parent_at found i ≤ parent_at found j
  parents_grow zero j h l = omega (arith, ap (λ (x : Found). x.parent) kept.visited.first)
  parents_grow (suc i) j h l =
      ⊎_elim
      (λ lt. by_try (kept.visited.in_order (suc i) j (omega arith) lt l))
      (λ (ge : j ≤ suc i). let e : suc i ≡ j = omega arith in rw e (omega arith))
      (cases_lt (suc i) j)
    where
      by_try : Before (parent_at found (suc i)) (move_at found (suc i)) (parent_at found j) (move_at found j) → parent_at found (suc i) ≤ parent_at found j
      by_try (inl b) = omega (arith, b)
      by_try (inr b) = omega (arith, b.0)

  mono : (n i j : ℕ) → j ≤ n → i ≤ j → j < length found → depth found i ≤ depth found j
  mono n zero j hn h l = omega arith
  mono n (suc i) zero hn h l = absurd (omega arith)
  mono zero (suc i) (suc j) hn h l = absurd (omega arith)
  mono (suc n) (suc i) (suc j) hn h l =
      let w : parent_at found (suc j) ≤ j = parent_before found rooted j l in
      omega (
        arith,
        depth_child found rooted i (omega arith),
        depth_child found rooted j l,
        mono n (parent_at found (suc i)) (parent_at found (suc j)) (omega arith) (parents_grow (suc i) (suc j) h l) (omega arith),
      )

  -- the list goes by depth
  pub depth_mono : (i j : ℕ) → i ≤ j → j < length found → depth found i ≤ depth found j
  depth_mono i j h l = mono j i j (omega arith) h l

  path_leads : (most p : ℕ) → p ≤ most → p < length found → Leads walk (path most found p) (state_at found p)
  unfolding run_from
  path_leads zero zero hm h = ap Some (sym (ap (λ (x : Found). x.state) kept.visited.first))
  path_leads (suc most) zero hm h = ap Some (sym (ap (λ (x : Found). x.state) kept.visited.first))
  path_leads zero (suc p) hm h = absurd (omega arith)
  path_leads (suc most) (suc p) hm h =
      let w : parent_at found (suc p) ≤ p = parent_before found rooted p h in
      run_last walk (path most found (parent_at found (suc p))) walk.start (move_at found (suc p)) (state_at found (parent_at found (suc p)))
      (path_leads most (parent_at found (suc p)) (omega arith) (omega arith))
      ∙ (kept.visited.comes (suc p) (omega arith) h).by_step

  -- the moves recorded along the parents lead to the listed state
  pub moves_lead : (p : ℕ) → p < length found → Leads walk (moves_to found p) (state_at found p)
  moves_lead p h = path_leads p p (omega arith) h

  -- as long as every state above the depth `limit` was taken
  module _ (limit : ℕ) (taken : (p : ℕ) → p < length found → depth found p < limit → p < place) where
    weaker : (s d e : ℕ) → Near found s d → d ≤ e → Near found s e
    weaker s d e near h = record { at = near.at; in_list = near.in_list; is_state = near.is_state; shallow = omega (arith, near.shallow) }

    near_step : (s d k t : ℕ) → Near found s d → d < limit → walk.step s k ≡ Some t → Near found t (d + 1)
    near_step s d k t near l e =
        let p : ℕ = near.at in
        let lp : p < length found = near.in_list in
        let done : p < place = taken p lp (omega (arith, near.shallow)) in
        let f : ListedBy found t p k = kept.visited.each_listed p k t lp (inl done) (rw near.is_state e) in
        record { at = f.index; in_list = f.in_list; is_state = f.is_state; shallow = not_deeper p f.index lp f.in_list (early p f) near.shallow }
      where
        early : (p : ℕ) → (f : ListedBy found t p k) → parent_at found f.index ≤ p
        early p f = ⊎_elim (λ h. absurd (f.no_later (inl h))) (λ h. h) (cases_lt p (parent_at found f.index))

        not_deeper : (p j : ℕ) → p < length found → j < length found → parent_at found j ≤ p → depth found p ≤ d → depth found j ≤ d + 1
        not_deeper p zero lp lj early sh = omega arith
        not_deeper p (suc j) lp lj early sh =
            omega (arith, depth_child found rooted j lj, depth_mono (parent_at found (suc j)) p early lp)

    near_from : (ms : List ℕ) (s d t : ℕ) → Near found s d → d + length ms ≤ limit → run_from walk s ms ≡ Some t → Near found t (d + length ms)
    unfolding run_from
    near_from [] s d t near l e = let same : s ≡ t = cc in rw (← same) (weaker s d _ near (omega arith))
    near_from (k ∷ ks) s d t near l e =
        let r = on_some (walk.step s k) (λ x. run_from walk x ks) t e in
        weaker t _ _ (near_from ks r.0 (d + 1) t (near_step s d k r.0 near (omega arith) r.1) (omega arith) r.2) (omega arith)

    -- a run leads to a listed state
    pub near_run : (ms : List ℕ) (t : ℕ) → length ms ≤ limit → Leads walk ms t → Near found t (length ms)
    near_run ms t l e = weaker t _ _ (near_from ms walk.start 0 t near_start (omega arith) e) (omega arith)
      where
        near_start : Near found walk.start 0
        near_start = record { at = 0; in_list = kept.visited.some; is_state = ap (λ (x : Found). x.state) kept.visited.first; shallow = omega arith }

    -- no enabled move meets the goal there
    pub near_unmet : (s d k t : ℕ) → Near found s d → d < limit → walk.step s k ≡ Some t → ¬ Met stop k
    near_unmet s d k t near l e =
        kept.visited.none_meets near.at k t near.in_list (inl (taken near.at near.in_list (omega (arith, near.shallow)))) (rw near.is_state e)

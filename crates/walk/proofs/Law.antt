-- What each outcome of a search says of the walk's runs.
use Rattle.std.proofs.Common.{◌≡◌, ℕ, ◌+◌, ◌*◌, ◌<◌, ◌≤◌, Bool, true, false, List, [], ◌∷◌, ◌++◌, length, drop, is_some, Some, None, Option, sym, refl, ap, ◌∙◌, subst, ⊎_elim, arith}
use Rattle.std.proofs.lemmas.Bool.{and_parts, both_ways, cases_lt}
use Rattle.std.proofs.lemmas.List.{length_push, length-append, take_all, take_at, get_or_append_left}
use Rattle.walk.specs.declared.records.Found.{Found}
use Rattle.walk.specs.declared.records.Ending.{Ending}
use Rattle.walk.specs.Walks.{Walk, Bounds}
use Rattle.walk.specs.Search.{Outcome, stopped, exhausted, entry, state_at, moves_to, ends, search_from}
use Rattle.walk.specs.Results.{ending_of, found_of, witness_of, over}
use Rattle.walk.specs.Runs.{Leads, Meets, StoppedMeans, ExhaustedMeans, Means}
use Rattle.walk.specs.Kept.{Kept}
use Rattle.walk.proofs.Invariant.{size}
use Rattle.walk.proofs.Outcomes.{search_ends}
use Rattle.walk.proofs.Paths.{depth}
use Rattle.walk.proofs.Reached.{Near, depth_mono, moves_lead, near_run, near_unmet}

pub some_of : {A : Type 0} (o : Option A) → is_some o ≡ true → (t : A) × (o ≡ Some t)
some_of None e = absurd (both_ways false refl e)
some_of (Some t) e = (t, refl)

-- what is shown of each outcome
abbrev Shown : Walk → (ℕ → Bool) → Outcome → Type 0
Shown walk stop (stopped found tried witness) = StoppedMeans walk stop (length witness) witness × (length found ≤ walk.states)
Shown walk stop (exhausted found tried) = ExhaustedMeans walk stop (length found) tried found × (length found ≤ walk.states)

-- what is shown of a list holds of the table that begins with it
stopped_over : (walk : Walk) (stop : ℕ → Bool) (w rest : List ℕ) → StoppedMeans walk stop (length w) w → StoppedMeans walk stop (length w) (w ++ rest)
stopped_over walk stop w rest s = record {
  fits = omega (arith, length-append w rest);
  meets = subst (Meets walk stop) (take_all (length w) w (omega arith) ∙ sym (take_at w rest (length w) refl)) s.meets;
  shortest = s.shortest;
}

exhausted_over : (walk : Walk) (stop : ℕ → Bool) (tried : ℕ) (f rest : List Found) → ExhaustedMeans walk stop (length f) tried f
    → ExhaustedMeans walk stop (length f) tried (f ++ rest)
exhausted_over walk stop tried f rest s = record {
  none = s.none;
  fits = omega (arith, length-append f rest);
  lists = record {
    reached = λ i h. ((s.lists.reached i h).0, (s.lists.reached i h).1 ∙ ap Some (sym (kept_at i h)));
    all = λ ms t e. (let r = s.lists.all ms t e in (r.0, r.1, kept_at r.0 r.1 ∙ r.2));
    once = λ i j h k e. s.lists.once i j h k (sym (kept_at i h) ∙ (e ∙ kept_at j k));
  };
  all_tried = s.all_tried;
}
  where
    kept_at : (i : ℕ) → i < length f → state_at (f ++ rest) i ≡ state_at f i
    kept_at i h = ap (λ (x : Found). x.state) (get_or_append_left f rest (entry 0 0 0) i h)

module _ (walk : Walk) (bounds : Bounds walk) (stop : ℕ → Bool) where
  stopped_shown : (found : List Found) (place m : ℕ) → Kept walk stop found place m → place < length found
      → ends walk stop found place m ≡ true
      → StoppedMeans walk stop (length (moves_to found place ++ (m ∷ []))) (moves_to found place ++ (m ∷ []))
  stopped_shown found place m kept here e = record {
    fits = omega arith;
    meets = subst (Meets walk stop) (sym (take_all (length way) way (omega arith))) (record {
      before = moves_to found place;
      last = m;
      is_last = refl;
      goal = parts.1;
      at = state_at found place;
      leads = moves_lead walk stop found place m kept place here;
      enabled = parts.0;
    });
    shortest = λ ms w. ⊎_elim
        (λ few. absurd (early w few))
        (λ enough. omega (arith, length_push (moves_to found place) m, ap (λ (l : List ℕ). length l) w.is_last, length_push w.before w.last))
        (cases_lt (length w.before) (depth found place));
  }
    where
      way : List ℕ
      way = moves_to found place ++ (m ∷ [])

      parts : (is_some (walk.step (state_at found place) m) ≡ true) × (stop m ≡ true)
      parts = and_parts (is_some (walk.step (state_at found place) m)) (stop m) e

      taken : (p : ℕ) → p < length found → depth found p < depth found place → p < place
      taken p l d = ⊎_elim (λ h. h) (λ h. absurd (omega (arith, depth_mono walk stop found place m kept place p h l))) (cases_lt p place)

      early : {ms : List ℕ} (w : Meets walk stop ms) → length w.before < depth found place → ⊥
      early w few =
          let near = near_run walk stop found place m kept (depth found place) taken w.before w.at (omega arith) w.leads in
          let t = some_of (walk.step w.at w.last) w.enabled in
          near_unmet walk stop found place m kept (depth found place) taken w.at (length w.before) w.last t.0 near few t.1 w.goal

  exhausted_shown : (found : List Found) (tried : ℕ) → Kept walk stop found (length found) 0 → tried ≡ length found * walk.moves
      → ExhaustedMeans walk stop (length found) tried found
  exhausted_shown found tried kept count = record {
    none = none;
    fits = omega arith;
    lists = record {
      reached = λ i h. (moves_to found i, moves_lead walk stop found (length found) 0 kept i h);
      all = λ ms t e. (let n = near ms t e in (n.at, n.in_list, n.is_state));
      once = kept.visited.once;
    };
    all_tried = count;
  }
    where
      near : (ms : List ℕ) (t : ℕ) → Leads walk ms t → Near found t (length ms)
      near ms t e = near_run walk stop found (length found) 0 kept (length ms) (λ p l d. l) ms t (omega arith) e

      none : (ms : List ℕ) → Meets walk stop ms → ⊥
      none ms w =
          let t = some_of (walk.step w.at w.last) w.enabled in
          near_unmet walk stop found (length found) 0 kept (length w.before + 1) (λ p l d. l) w.at (length w.before) w.last t.0
          (near w.before w.at w.leads) (omega arith) t.1 w.goal

  shown : Shown walk stop (search_from walk stop)
  shown =
      search_ends walk bounds stop (Shown walk stop)
      (λ found place m tried kept here e _. (stopped_shown found place m kept here e, size walk bounds stop found place m kept))
      (λ found tried kept count. (exhausted_shown found tried kept count, size walk bounds stop found (length found) 0 kept))

  -- no more states are listed than there are
  pub found_fits : length (found_of (search_from walk stop)) ≤ walk.states
  found_fits = go (search_from walk stop) shown
    where
      go : (o : Outcome) → Shown walk stop o → length (found_of o) ≤ walk.states
      go (stopped found tried witness) s = s.1
      go (exhausted found tried) s = s.1

  -- the answer and the tables mean what is shown of the outcome
  pub means_of : (e : Ending) (table table' : List Found) (witness witness' : List ℕ) → e ≡ ending_of (search_from walk stop)
      → table' ≡ over (found_of (search_from walk stop)) table → witness' ≡ over (witness_of (search_from walk stop)) witness
      → Means walk stop (Some e) table' witness'
  means_of e table table' witness witness' ee et ew =
      subst (λ (x : Ending). Means walk stop (Some x) table' witness') (sym ee) (go (search_from walk stop) shown et ew)
    where
      go : (o : Outcome) → Shown walk stop o → table' ≡ over (found_of o) table → witness' ≡ over (witness_of o) witness
          → Means walk stop (Some (ending_of o)) table' witness'
      go (stopped f t w) s et' ew' =
          subst (λ (l : List ℕ). StoppedMeans walk stop (length w) l) (sym ew') (stopped_over walk stop w (drop (length w) witness) s.0)
      go (exhausted f t) s et' ew' =
          subst (λ (l : List Found). ExhaustedMeans walk stop (length f) t l) (sym et') (exhausted_over walk stop t f (drop (length f) table) s.0)

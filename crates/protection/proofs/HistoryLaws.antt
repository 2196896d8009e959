-- Histories and runs: a history stands where a run of no more moves than it has grants leads, and every run is a history of `enforce`.
use Rattle.std.proofs.Common.{◌≡◌, ℕ, ◌+◌, ◌≤◌, Bool, true, false, cond, ltb, ◌⊎◌, List, [], ◌∷◌, ◌++◌, map, length, is_some, Some, None, Ok, Err, Option, unwrap_or, sym, refl, ap, ◌∙◌, inl, inr, ⊎_elim, arith}
use Rattle.std.proofs.lemmas.Bool.{and_parts, lt-ltb, cond-true}
use Rattle.std.proofs.lemmas.List.{append_assoc, length-append, length_push}
use Rattle.std.specs.Option.{ok_or as okOr, option_to_list}
use Rattle.std.specs.Result.{result_ok}
use Rattle.walk.specs.Walks.{Bounds}
use Rattle.walk.specs.Runs.{run_from, Leads}
use Rattle.walk.proofs.Reached.{run_last, on_some}
use Rattle.walk.proofs.Law.{some_of}
use Rattle.protection.specs.declared.permission.Permission.{Permission}
use Rattle.protection.specs.Systems.{System, labelled, within_counts}
use Rattle.protection.specs.Refusals.{Refused, refused}
use Rattle.protection.specs.Histories.{Call, enforce, request, may, state, restart, enabled, enabled_as, lowest_enabled, enforce_answer, request_answer, may_answer, granted, moved, after, leaves, grants, history_leaves, history_grants}
use Rattle.protection.proofs.LowestLaws.{lowest_first}

-- an accepted answer has passed its tests
ok_both : (a b : Bool) (k m : ℕ) (e f : Refused) → result_ok (cond a (cond b (Ok k) (Err e)) (Err f)) ≡ Some m → (b ≡ true) × (k ≡ m)
ok_both true true k m e f h = (refl, cc)
ok_both true false k m e f h = let z : ◌≡◌ {A = ℕ} 0 1 = cc in absurd (omega arith)
ok_both false b k m e f h = let z : ◌≡◌ {A = ℕ} 0 1 = cc in absurd (omega arith)

ok_or : (a : Bool) (o : Option ℕ) (m : ℕ) (e f : Refused) → result_ok (cond a (okOr o e) (Err f)) ≡ Some m → o ≡ Some m
ok_or true (Some k) m e f h = h
ok_or true None m e f h = let z : ◌≡◌ {A = ℕ} 0 1 = cc in absurd (omega arith)
ok_or false o m e f h = let z : ◌≡◌ {A = ℕ} 0 1 = cc in absurd (omega arith)

ok_yes : (a b : Bool) (e : Refused) → cond a (Ok b) (Err e) ≡ Ok true → b ≡ true
ok_yes true b e h = cc
ok_yes false b e h = let z : ◌≡◌ {A = ℕ} 0 1 = cc in absurd (omega arith)

module _ (system : System) where
  pub leaves_last : (xs : List Call) (c : Call) (s : ℕ) → leaves system s (xs ++ (c ∷ [])) ≡ after system (leaves system s xs) c
  unfolding leaves
  leaves_last [] c s = refl
  leaves_last (x ∷ xs) c s = leaves_last xs c (after system s x)

  grants_append : (xs ys : List Call) (s : ℕ) → grants system s (xs ++ ys) ≡ grants system s xs ++ grants system (leaves system s xs) ys
  unfolding leaves grants
  grants_append [] ys s = refl
  grants_append (c ∷ cs) ys s =
      ap (λ (l : List ℕ). option_to_list (granted system s c) ++ l) (grants_append cs ys (after system s c))
      ∙ sym (append_assoc (option_to_list (granted system s c)) (grants system (after system s c) cs) (grants system (leaves system (after system s c) cs) ys))

  pub grants_last : (xs : List Call) (c : Call) (s m : ℕ) → granted system (leaves system s xs) c ≡ Some m
      → grants system s (xs ++ (c ∷ [])) ≡ grants system s xs ++ (m ∷ [])
  unfolding grants
  grants_last xs c s m e =
      grants_append xs (c ∷ []) s ∙ ap (λ (o : Option ℕ). grants system s xs ++ (option_to_list o ++ [])) e

  -- the lowest enabled move labelled p is enabled and labelled p
  pub lowest_sound : (s : ℕ) (p : Permission) (m : ℕ) → lowest_enabled system s p ≡ Some m
      → (enabled system s m ≡ true) × (labelled system m p ≡ true)
  lowest_sound s p m e =
      and_parts (enabled system s m) (labelled system m p)
      (lowest_first (enabled_as system s p) system.walk.moves m e).passes

  -- a yes has found a move
  pub yes_finds : (s : ℕ) (p : Permission) → may_answer system s p ≡ Ok true → is_some (lowest_enabled system s p) ≡ true
  yes_finds s p e = ok_yes (within_counts system p) (is_some (lowest_enabled system s p)) (refused 62) e

  none_granted : (m : ℕ) → None ≡ Some m → ⊥
  none_granted m e = let z : ◌≡◌ {A = ℕ} 0 1 = cc in omega arith

  granted_enabled : (s : ℕ) (c : Call) (m : ℕ) → granted system s c ≡ Some m → enabled system s m ≡ true
  granted_enabled s (enforce k) m e =
      let h = ok_both (ltb k system.walk.moves) (enabled system s k) k m (refused 61) (refused 60) e in
      rw (← h.1) h.0
  granted_enabled s (request p) m e =
      (lowest_sound s p m (ok_or (within_counts system p) (lowest_enabled system s p) m (refused 61) (refused 62) e)).0
  granted_enabled s (may p) m e = absurd (none_granted m e)
  granted_enabled s state m e = absurd (none_granted m e)
  granted_enabled s restart m e = absurd (none_granted m e)

  -- `enforce` answers the move itself
  pub enforce_answers : (s m k : ℕ) → enforce_answer system s m ≡ Ok k → k ≡ m
  enforce_answers s m k e = sym (ok_both (ltb m system.walk.moves) (enabled system s m) m k (refused 61) (refused 60) (ap result_ok e)).1

  granted_after : (s : ℕ) (c : Call) (m : ℕ) → granted system s c ≡ Some m → after system s c ≡ unwrap_or (system.walk.step s m) s
  granted_after s (enforce k) m e = ap (moved system s) e
  granted_after s (request p) m e = ap (moved system s) e
  granted_after s (may p) m e = absurd (none_granted m e)
  granted_after s state m e = absurd (none_granted m e)
  granted_after s restart m e = absurd (none_granted m e)

  -- a grant makes the step of its move
  pub granted_step : (s : ℕ) (c : Call) (m : ℕ) → granted system s c ≡ Some m → system.walk.step s m ≡ Some (after system s c)
  granted_step s c m e =
      let t = some_of (system.walk.step s m) (granted_enabled s c m e) in
      let w : unwrap_or (system.walk.step s m) s ≡ t.0 = ap (λ (o : Option ℕ). unwrap_or o s) t.1 in
      t.1 ∙ ap Some (sym (granted_after s c m e ∙ w))

  -- a call that grants nothing leaves the state, or restarts
  ungranted_after : (s : ℕ) (c : Call) → granted system s c ≡ None → (after system s c ≡ s) ⊎ (after system s c ≡ system.walk.start)
  ungranted_after s (enforce k) e = inl (ap (moved system s) e)
  ungranted_after s (request p) e = inl (ap (moved system s) e)
  ungranted_after s (may p) e = inl refl
  ungranted_after s state e = inl refl
  ungranted_after s restart e = inr refl

  -- a run of at most n moves leads to the state s
  pub record RunTo (s n : ℕ) : Type 0 where
    pub moves : List ℕ
    pub leads : Leads system.walk moves s
    pub few : length moves ≤ n

  run_call : (c : Call) (s n : ℕ) → RunTo s n → RunTo (after system s c) (n + length (option_to_list (granted system s c)))
  unfolding run_from
  run_call c s n r = go (granted system s c) refl
    where
      go : (o : Option ℕ) → granted system s c ≡ o → RunTo (after system s c) (n + length (option_to_list (granted system s c)))
      go None e =
          ⊎_elim
          (λ w. rw w (record { moves = r.moves; leads = r.leads; few = omega (arith, r.few) }))
          (λ w. rw w (record { moves = []; leads = refl; few = omega arith }))
          (ungranted_after s c e)
      go (Some k) e =
          let one : length (option_to_list (granted system s c)) ≡ 1 = ap (λ (x : Option ℕ). length (option_to_list x)) e in
          record {
            moves = r.moves ++ (k ∷ []);
            leads = run_last system.walk r.moves system.walk.start k s r.leads ∙ granted_step s c k e;
            few = omega (arith, length_push r.moves k, r.few);
          }

  run_calls : (calls : List Call) (s n : ℕ) → RunTo s n → RunTo (leaves system s calls) (n + length (grants system s calls))
  unfolding leaves grants
  run_calls [] s n r = record { moves = r.moves; leads = r.leads; few = omega (arith, r.few) }
  run_calls (c ∷ cs) s n r =
      let later = run_calls cs (after system s c) (n + length (option_to_list (granted system s c))) (run_call c s n r) in
      record {
        moves = later.moves;
        leads = later.leads;
        few = omega (arith, later.few, length-append (option_to_list (granted system s c)) (grants system (after system s c) cs));
      }

  -- where a history leaves its monitor a run leads, of no more moves than the history has grants
  pub history_run : (calls : List Call) → RunTo (history_leaves system calls) (length (history_grants system calls))
  unfolding run_from
  history_run calls =
      let r = run_calls calls system.walk.start 0 (record { moves = []; leads = refl; few = omega arith }) in
      record { moves = r.moves; leads = r.leads; few = omega (arith, r.few) }

  module _ (bounds : Bounds system.walk) where
    -- an enabled move is granted to `enforce`
    pub enforce_accepted : (s m t : ℕ) → system.walk.step s m ≡ Some t → enforce_answer system s m ≡ Ok m
    enforce_accepted s m t e =
        let below : ltb m system.walk.moves ≡ true = lt-ltb m system.walk.moves (bounds.move_below s m t e) in
        let on : enabled system s m ≡ true = ap is_some e in
        simp (below, on)

    pub enforce_granted : (s m t : ℕ) → system.walk.step s m ≡ Some t → granted system s (enforce m) ≡ Some m
    enforce_granted s m t e = ap result_ok (enforce_accepted s m t e)

    -- a request is answered as an `enforce` of the lowest enabled move
    pub request_enforces : (s : ℕ) (p : Permission) (m : ℕ) → within_counts system p ≡ true → lowest_enabled system s p ≡ Some m
        → enforce_answer system s m ≡ request_answer system s p
    request_enforces s p m inside found =
        let t = some_of (system.walk.step s m) (lowest_sound s p m found).0 in
        enforce_accepted s m t.0 t.1
        ∙ sym (cond-true (within_counts system p) (okOr (lowest_enabled system s p) (refused 61)) (Err (refused 62)) inside
        ∙ ap (λ (o : Option ℕ). okOr o (refused 61)) found)

    enforce_after : (s m t : ℕ) → system.walk.step s m ≡ Some t → after system s (enforce m) ≡ t
    enforce_after s m t e =
        granted_after s (enforce m) m (enforce_granted s m t e) ∙ ap (λ (o : Option ℕ). unwrap_or o s) e

    -- a run is a history of `enforce`, each granted
    pub enforce_leaves : (ms : List ℕ) (s t : ℕ) → run_from system.walk s ms ≡ Some t → leaves system s (map enforce ms) ≡ t
    unfolding run_from leaves
    enforce_leaves [] s t e = cc
    enforce_leaves (m ∷ ms) s t e =
        let r = on_some (system.walk.step s m) (λ x. run_from system.walk x ms) t e in
        ap (λ (x : ℕ). leaves system x (map enforce ms)) (enforce_after s m r.0 r.1) ∙ enforce_leaves ms r.0 t r.2

    pub enforce_grants : (ms : List ℕ) (s t : ℕ) → run_from system.walk s ms ≡ Some t → grants system s (map enforce ms) ≡ ms
    unfolding run_from grants
    enforce_grants [] s t e = refl
    enforce_grants (m ∷ ms) s t e =
        let r = on_some (system.walk.step s m) (λ x. run_from system.walk x ms) t e in
        ap (λ (o : Option ℕ). option_to_list o ++ grants system (after system s (enforce m)) (map enforce ms)) (enforce_granted s m r.0 r.1)
        ∙ ap (λ (l : List ℕ). m ∷ l)
        (ap (λ (x : ℕ). grants system x (map enforce ms)) (enforce_after s m r.0 r.1) ∙ enforce_grants ms r.0 t r.2)

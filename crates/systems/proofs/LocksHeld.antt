-- Locks hold: a run of the system with locks is a run of the system below in which no locked move is made.
use Rattle.std.proofs.Common.{◌≡◌, ℕ, Bool, true, false, cond, List, [], ◌∷◌, is_some, Some, None, Option, Decides, sym, refl, ap, ◌∙◌, subst}
use Rattle.std.specs.List.{Contains as IsListed}
use Rattle.std.proofs.lemmas.Bool.{false_from_ne_true}
use Rattle.std.proofs.lemmas.List.Folds.{Any-from_list_any, list_any_at}
use Rattle.walk.specs.Walks.{Walk, Bounds}
use Rattle.walk.specs.Runs.{on_from, run_from, Meets}
use Rattle.walk.proofs.Reached.{on_some}
use Rattle.walk.proofs.Law.{some_of}
use Rattle.protection.specs.declared.permission.Permission.{Permission}
use Rattle.protection.specs.Permissions.{same}
use Rattle.protection.specs.Systems.{System, Labels, system_of}
use Rattle.protection.specs.Analysis.{at_label}
use Rattle.protection.specs.Histories.{Call, Contains, EndsInGrant}
use Rattle.protection.specs.Safety.{Replays}
use Rattle.protection.proofs.Labelled.{same_itself, has_label_true}
use Rattle.protection.proofs.Promised.{contains_meets, contains, replays}
use Rattle.systems.specs.Locks.{is_listed, is_locked, locked_walk, locked_step}
use Rattle.systems.specs.LockLaws.{unlocked_step}
use Rattle.systems.specs.LockPromise.{LacksLockedSteps, LocksHold}
use Rattle.systems.proofs.Listed.{listed_any}

-- the test of the list decides whether a permission is on it
pub listed_decides : (locks : List Permission) (p : Permission) → Decides (is_listed locks p) (IsListed locks p)
listed_decides locks p = (
  λ e.
      (let found = Any-from_list_any (λ (q : Permission). same q p) locks (listed_any locks p ∙ e) in
      let one : Some found.1 ≡ Some p = has_label_true (Some found.1) p found.4 in
      let is : found.1 ≡ p = cc in
      subst (IsListed locks) is (found.0, found.2, found.3)),
  λ (k, lt, at).
      sym (listed_any locks p)
      ∙ list_any_at (λ (q : Permission). same q p) locks k p lt (rw at (same_itself p)),
)

-- the system of a lock list
abbrev locked : List Permission → Walk → Labels → System
locked locks walk labels = system_of (locked_walk locks walk labels) labels

module _ (locks : List Permission) (walk : Walk) (labels : Labels) where
  -- a locked move has no step
  no_locked_step : (s m : ℕ) → is_locked locks (labels.label m) ≡ true → locked_step locks walk labels s m ≡ None
  no_locked_step s m lock = ap (λ (b : Bool). cond b None (walk.step s m)) lock

  -- a label that is not listed locks nothing
  not_locked : (o : Option Permission) → ((p : Permission) → o ≡ Some p → ¬ IsListed locks p) → is_locked locks o ≡ false
  not_locked None free = refl
  not_locked (Some p) free = false_from_ne_true (is_listed locks p) (λ e. free p refl ((listed_decides locks p).0 e))

  pub lacks_locked : LacksLockedSteps (system_of walk labels) locks (locked locks walk labels)
  lacks_locked = record {
    states_stay = refl;
    start_stays = refl;
    moves_stay = refl;
    objects_stay = refl;
    rights_stay = refl;
    labels_stay = λ m. refl;
    listed_has_no_step = λ s m p label listed.
        no_locked_step s m (ap (is_locked locks) label ∙ (listed_decides locks p).1 listed);
    others_keep_steps = λ s m free. ap (λ (b : Bool). cond b None (walk.step s m)) (not_locked (labels.label m) free);
  }

  run_below : (ms : List ℕ) (s t : ℕ) → run_from (locked_walk locks walk labels) s ms ≡ Some t → run_from walk s ms ≡ Some t
  unfolding run_from
  run_below [] s t e = e
  run_below (m ∷ ms) s t e =
      let r = on_some (locked_step locks walk labels s m) (λ x. run_from (locked_walk locks walk labels) x ms) t e in
      ap (λ o. on_from o (λ x. run_from walk x ms)) (unlocked_step locks walk labels s m r.0 r.1) ∙ run_below ms r.0 t r.2

  module _ (bounds : Bounds walk) (locked_bounds : Bounds (locked_walk locks walk labels)) (p : Permission) where
    -- what meets the goal with locks meets it below
    meets_below : (ms : List ℕ) → Meets (locked_walk locks walk labels) (at_label (locked locks walk labels) p) ms
        → Meets walk (at_label (system_of walk labels) p) ms
    meets_below ms w =
        let t = some_of (locked_step locks walk labels w.at w.last) w.enabled in
        record {
          before = w.before;
          last = w.last;
          is_last = w.is_last;
          goal = w.goal;
          at = w.at;
          leads = run_below w.before walk.start w.at w.leads;
          enabled = ap is_some (unlocked_step locks walk labels w.at w.last t.0 t.1);
        }

    never_granted : IsListed locks p → (calls : List Call) → ¬ Contains (locked locks walk labels) p calls
    never_granted listed calls has =
        let w = contains_meets (locked locks walk labels) locked_bounds p calls has in
        let t = some_of (locked_step locks walk labels w.1.at w.1.last) w.1.enabled in
        let label : labels.label w.1.last ≡ Some p = has_label_true (labels.label w.1.last) p w.1.goal in
        let gone : None ≡ Some t.0 = sym (lacks_locked.listed_has_no_step w.1.at w.1.last p label listed) ∙ t.1 in
        cc

    granted_below : (calls : List Call) → EndsInGrant (locked locks walk labels) p calls → (below : List Call) × EndsInGrant (system_of walk labels) p below
    granted_below calls ends =
        let w = contains_meets (locked locks walk labels) locked_bounds p calls (contains (locked locks walk labels) locked_bounds p calls ends) in
        let r : Replays (system_of walk labels) p w.0 = replays (system_of walk labels) bounds p w.0 (meets_below w.0 w.1) in
        (_, r.last_grants)

  pub locks_hold : Bounds walk → Bounds (locked_walk locks walk labels) → LocksHold (system_of walk labels) locks (locked locks walk labels)
  locks_hold b lb = record {
    others_stay = lacks_locked;
    locked_is_never_granted = λ p listed calls. never_granted b lb p listed calls;
    nothing_new_is_granted = λ p calls ends. granted_below b lb p calls ends;
  }

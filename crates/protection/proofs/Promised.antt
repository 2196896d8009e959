-- The safety promise, proved: what the search says of runs is said of histories.
use Rattle.std.proofs.Common.{◌≡◌, ℕ, ◌+◌, ◌≤◌, true, false, List, [], ◌∷◌, ◌++◌, map, length, take, is_some, Some, Ok, sym, refl, ap, ◌∙◌, subst, inl, inr, arith}
use Rattle.std.proofs.lemmas.Bool.{both_ways}
use Rattle.std.proofs.lemmas.List.{length_push, map_push}
use Rattle.walk.specs.declared.records.Found.{Found}
use Rattle.walk.specs.declared.records.Ending.{Ending}
use Rattle.walk.specs.declared.records.Ending.TheVariants.{Stopped, Exhausted}
use Rattle.walk.specs.Walks.{Bounds}
use Rattle.walk.specs.Search.{state_at}
use Rattle.walk.specs.Runs.{Leads, Meets, StoppedMeans, ExhaustedMeans, Means}
use Rattle.walk.proofs.Reached.{run_last}
use Rattle.walk.proofs.Law.{some_of}
use Rattle.protection.specs.declared.permission.Permission.{Permission}
use Rattle.protection.specs.Systems.{System, labelled}
use Rattle.protection.specs.Answers.{verdict_values, verdict_of}
use Rattle.protection.specs.Analysis.{at_label}
use Rattle.protection.specs.Histories.{Call, enforce, lowest_enabled, after, history_leaves, history_grants, Contains, EndsInGrant}
use Rattle.protection.specs.Safety.{Replays, Safety, Promise}
use Rattle.protection.proofs.Labelled.{has_label_true, has_label_itself}
use Rattle.protection.proofs.HistoryLaws.{grants_last, lowest_sound, yes_finds, granted_step, RunTo, history_run, enforce_granted, enforce_leaves, enforce_grants}

module _ (system : System) (bounds : Bounds system.walk) (q : Permission) where
  -- after a history, an enabled move labelled q makes a run that meets the goal
  meets_after : (calls : List Call) (k t : ℕ) → system.walk.step (history_leaves system calls) k ≡ Some t → labelled system k q ≡ true
      → Meets system.walk (at_label system q) ((history_run system calls).moves ++ (k ∷ []))
  meets_after calls k t e label = record {
    before = (history_run system calls).moves;
    last = k;
    is_last = refl;
    goal = label;
    at = history_leaves system calls;
    leads = (history_run system calls).leads;
    enabled = ap is_some e;
  }

  -- a history with a grant of q or a yes to q has such a run
  pub contains_meets : (calls : List Call) → Contains system q calls → (ms : List ℕ) × Meets system.walk (at_label system q) ms
  contains_meets calls (before, c, later, split, inl (k, g, label)) =
      (_, meets_after before k (after system (history_leaves system before) c) (granted_step system (history_leaves system before) c k g) (has_label_itself (system.label k) q label))
  contains_meets calls (before, c, later, split, inr (is-may, says)) =
      let s : ℕ = history_leaves system before in
      let k = some_of (lowest_enabled system s q) (yes_finds system s q says) in
      let sound = lowest_sound system s q k.0 k.1 in
      let t = some_of (system.walk.step s k.0) sound.0 in
      (_, meets_after before k.0 t.0 t.1 sound.1)

  -- a history that ends in a grant contains it
  pub contains : (calls : List Call) → EndsInGrant system q calls → Contains system q calls
  contains calls (before, c, split, grant) = (before, c, [], split, inl grant)

  -- a run that meets the goal is replayed
  pub replays : (ms : List ℕ) → Meets system.walk (at_label system q) ms → Replays system q ms
  replays ms w = record {
    granted_each = enforce_grants system bounds ms system.walk.start t.0 whole;
    last_grants = (
      map enforce w.before,
      enforce w.last,
      ap (map enforce) w.is_last ∙ map_push enforce w.before w.last,
      (w.last, rw there (enforce_granted system bounds w.at w.last t.0 t.1), has_label_true (system.label w.last) q w.goal),
    );
  }
    where
      t : (u : ℕ) × (system.walk.step w.at w.last ≡ Some u)
      t = some_of (system.walk.step w.at w.last) w.enabled

      whole : Leads system.walk ms t.0
      whole =
          subst (λ (l : List ℕ). Leads system.walk l t.0) (sym w.is_last)
          (run_last system.walk w.before system.walk.start w.last w.at w.leads ∙ t.1)

      there : history_leaves system (map enforce w.before) ≡ w.at
      there = enforce_leaves system bounds w.before system.walk.start w.at w.leads

  stopped_safe : (count tried total : ℕ) (found : List Found) (witness : List ℕ) → StoppedMeans system.walk (at_label system q) total witness
      → Safety system q (verdict_values (verdict_of (Stopped count tried total))) found witness
  stopped_safe count tried total found witness m = record {
    never_means_no_grant = (
      λ no'. absurd (both_ways true no' refl),
      λ none. absurd (none some_history (contains some_history replayed.last_grants)),
    );
    leak_means_a_grant = (λ _. (some_history, replayed.last_grants), λ _. refl);
    leak_is_written = λ _. m.fits;
    leak_is_replayed = λ _. replayed;
    leak_is_shortest = λ _ calls ends. shortest calls ends;
    never_is_listed = λ no'. absurd (both_ways true no' refl);
    never_lists_left = λ no'. absurd (both_ways true no' refl);
    never_tries_all = λ no'. absurd (both_ways true no' refl);
  }
    where
      replayed : Replays system q (take total witness)
      replayed = replays (take total witness) m.meets

      some_history : List Call
      some_history = map enforce (take total witness)

      shortest : (calls : List Call) → EndsInGrant system q calls → total ≤ length (history_grants system calls)
      shortest calls (before, c, split, (k, g, label)) =
          let many : length (history_grants system calls) ≡ length (history_grants system before) + 1
          = ap (λ (l : List Call). length (history_grants system l)) split
          ∙ (ap (λ (l : List ℕ). length l) (grants_last system before c system.walk.start k g) ∙ length_push (history_grants system before) k) in
          let run : RunTo system (history_leaves system before) (length (history_grants system before)) = history_run system before in
          let least : total ≤ length (run.moves ++ (k ∷ []))
          = m.shortest (run.moves ++ (k ∷ []))
          (meets_after before k (after system (history_leaves system before) c) (granted_step system (history_leaves system before) c k g) (has_label_itself (system.label k) q label)) in
          omega (arith, length_push run.moves k, run.few)

  exhausted_safe : (count tried : ℕ) (found : List Found) (witness : List ℕ) → ExhaustedMeans system.walk (at_label system q) count tried found
      → Safety system q (verdict_values (verdict_of (Exhausted count tried))) found witness
  exhausted_safe count tried found witness m = record {
    never_means_no_grant = (λ _. none, λ _. refl);
    leak_means_a_grant = (
      λ yes'. absurd (both_ways false refl yes'),
      λ (calls, ends). absurd (none calls (contains calls ends)),
    );
    leak_is_written = λ yes'. absurd (both_ways false refl yes');
    leak_is_replayed = λ yes'. absurd (both_ways false refl yes');
    leak_is_shortest = λ yes'. absurd (both_ways false refl yes');
    never_is_listed = λ _. m.fits;
    never_lists_left = λ _. record {
      left = λ i h.
          let r = m.lists.reached i h in
          (r.0, enforce_grants system bounds r.0 system.walk.start (state_at found i) r.1, enforce_leaves system bounds r.0 system.walk.start (state_at found i) r.1);
      all = λ calls. m.lists.all (history_run system calls).moves (history_leaves system calls) (history_run system calls).leads;
      once = m.lists.once;
    };
    never_tries_all = λ _. m.all_tried;
  }
    where
      none : (calls : List Call) → Contains system q calls → ⊥
      none calls has = let w = contains_meets calls has in m.none w.0 w.1

  -- what a search for q says of runs is the promise
  pub promised : (ending : Ending) (found : List Found) (witness : List ℕ) → Means system.walk (at_label system q) (Some ending) found witness
      → Promise system q (Ok (verdict_of ending)) found witness
  promised (Stopped count tried total) found witness m = stopped_safe count tried total found witness m
  promised (Exhausted count tried) found witness m = exhausted_safe count tried found witness m

-- The calls of a monitor, as they are computed, do what is said of them.
use Rattle.std.proofs.Common.{◌≡◌, ℕ, ◌<◌, Bool, true, false, cond, ltb, Some, None, Ok, Err, Option, Result, is_some, unwrap_or, sym, refl, ap, ◌∙◌, subst, arith}
use Rattle.std.specs.Option.{ok_or}
use Rattle.std.specs.Result.{result_ok}
use Rattle.std.proofs.lemmas.Bool.{both_ways, ltb-true, ltb-false, and_from, and_parts}
use Rattle.walk.specs.Walks.{Bounds}
use Rattle.walk.proofs.Law.{some_of}
use Rattle.protection.specs.declared.permission.Permission.{Permission}
use Rattle.protection.specs.Systems.{System, labelled, within_counts}
use Rattle.protection.specs.Refusals.{Refused, refused}
use Rattle.protection.specs.Histories.{enforce, request, enabled, enabled_as, lowest_enabled, enforce_answer, request_answer, may_answer, moved, after}
use Rattle.protection.proofs.Labelled.{has_label_true, has_label_itself}
use Rattle.protection.proofs.LowestLaws.{lowest_none, lowest_first}
use Rattle.protection.proofs.Refused.{other_number, not_refused}
use Rattle.protection.proofs.Within.{within_decides}
use Rattle.monitor.specs.Calls.{IsEnabledAs, MakesThatMove, MakesTheLowestMove, TellsWhetherEnabled}

none_some : (u : ℕ) (o : Option ℕ) → o ≡ None → o ≡ Some u → ⊥
none_some u o none some = cc

module _ (system : System) where
  -- `enforce`
  enforced : (s m : ℕ) (a : Bool) (o : Option ℕ) → ltb m system.walk.moves ≡ a → system.walk.step s m ≡ o
      → MakesThatMove system s m (cond a (cond (is_some o) (Ok m) (Err (refused 61))) (Err (refused 60)))
      (moved system s (result_ok (cond a (cond (is_some o) (Ok m) (Err (refused 61))) (Err (refused 60)))))
  enforced s m true (Some u) ea eo =
      let there : unwrap_or (system.walk.step s m) s ≡ u = ap (λ (o : Option ℕ). unwrap_or o s) eo in
      record {
        granted_is_made = λ k ok. (cc, ltb-true m system.walk.moves ea, eo ∙ ap Some (sym there));
        enabled_is_granted = λ v lt e. refl;
        refused_60 = (λ bad. absurd (not_refused m 60 bad), λ le. absurd (omega (arith, le, ltb-true m system.walk.moves ea)));
        refused_61 = (λ bad. absurd (not_refused m 61 bad), λ (lt, none). absurd (none_some u (system.walk.step s m) none eo));
        refused_stays = λ r bad. cc;
      }
  enforced s m true None ea eo = record {
    granted_is_made = λ k bad. cc;
    enabled_is_granted = λ v lt e. absurd (none_some v (system.walk.step s m) eo e);
    refused_60 = (λ bad. absurd (other_number 61 60 (λ e. omega (arith, e)) bad), λ le. absurd (omega (arith, le, ltb-true m system.walk.moves ea)));
    refused_61 = (λ _. (ltb-true m system.walk.moves ea, eo), λ _. refl);
    refused_stays = λ r e. refl;
  }
  enforced s m false o ea eo = record {
    granted_is_made = λ k bad. cc;
    enabled_is_granted = λ v lt e. absurd (omega (arith, lt, ltb-false m system.walk.moves ea));
    refused_60 = (λ _. ltb-false m system.walk.moves ea, λ _. refl);
    refused_61 = (λ bad. absurd (other_number 60 61 (λ e. omega (arith, e)) bad), λ (lt, none). absurd (omega (arith, lt, ltb-false m system.walk.moves ea)));
    refused_stays = λ r e. refl;
  }

  pub enforce_law : (s m : ℕ) (answer : Result ℕ Refused) (t : ℕ) → answer ≡ enforce_answer system s m → t ≡ after system s (enforce m)
      → MakesThatMove system s m answer t
  enforce_law s m answer t ea et =
      subst (λ (x : Result ℕ Refused). MakesThatMove system s m x t) (sym ea)
      (subst (MakesThatMove system s m (enforce_answer system s m)) (sym et)
      (enforced s m (ltb m system.walk.moves) (system.walk.step s m) refl refl))

  -- the test of one move
  enabled_fact : (s : ℕ) (p : Permission) (m : ℕ) → enabled_as system s p m ≡ true → IsEnabledAs system s p m
  enabled_fact s p m e =
      let a = and_parts (enabled system s m) (labelled system m p) e in
      let t = some_of (system.walk.step s m) a.0 in
      (t.0, t.1, has_label_true (system.label m) p a.1)

  enabled_test : (s : ℕ) (p : Permission) (m : ℕ) → IsEnabledAs system s p m → enabled_as system s p m ≡ true
  enabled_test s p m (t, step, label) =
      and_from (enabled system s m) (labelled system m p) (ap is_some step) (has_label_itself (system.label m) p label)

  module _ (bounds : Bounds system.walk) (known : (m : ℕ) (p : Permission) → system.label m ≡ Some p → within_counts system p ≡ true) where
    -- what the search for the lowest move finds, or that there is none
    none_enabled : (s : ℕ) (p : Permission) → lowest_enabled system s p ≡ None → (m : ℕ) → ¬ IsEnabledAs system s p m
    none_enabled s p none m (t, step, label) =
        both_ways (enabled_as system s p m) (lowest_none (enabled_as system s p) system.walk.moves m none (bounds.move_below s m t step))
        (enabled_test s p m (t, step, label))

    some_enabled : (s : ℕ) (p : Permission) (m : ℕ) → lowest_enabled system s p ≡ Some m → IsEnabledAs system s p m
    some_enabled s p m found = enabled_fact s p m (lowest_first (enabled_as system s p) system.walk.moves m found).passes

    none_lower : (s : ℕ) (p : Permission) (m k : ℕ) → lowest_enabled system s p ≡ Some m → k < m → ¬ IsEnabledAs system s p k
    none_lower s p m k found low is =
        both_ways (enabled_as system s p k) ((lowest_first (enabled_as system s p) system.walk.moves m found).least k low) (enabled_test s p k is)

    -- `request`
    requested : (s : ℕ) (p : Permission) (a : Bool) (o : Option ℕ) → within_counts system p ≡ a → lowest_enabled system s p ≡ o
        → MakesTheLowestMove system s p (cond a (ok_or o (refused 61)) (Err (refused 62)))
        (moved system s (result_ok (cond a (ok_or o (refused 61)) (Err (refused 62)))))
    requested s p true (Some m) ea eo =
        let is = some_enabled s p m eo in
        let there : unwrap_or (system.walk.step s m) s ≡ is.0 = ap (λ (x : Option ℕ). unwrap_or x s) is.1 in
        record {
          granted_is_made = λ k ok. (let same : k ≡ m = cc in rw same (is.2, is.1 ∙ ap Some (sym there)));
          none_lower_is_enabled = λ k j ok low. (let same : k ≡ m = cc in none_lower s p m j eo (omega (arith, low, same)));
          enabled_is_granted = λ k _. (m, refl);
          refused_62 = (λ bad. absurd (not_refused m 62 bad), λ out. absurd (out ((within_decides system p).0 ea)));
          refused_61 = (λ bad. absurd (not_refused m 61 bad), λ (_, none). absurd (none m is));
          refused_stays = λ r bad. cc;
        }
    requested s p true None ea eo = record {
      granted_is_made = λ k bad. cc;
      none_lower_is_enabled = λ k j bad. cc;
      enabled_is_granted = λ k is. absurd (none_enabled s p eo k is);
      refused_62 = (λ bad. absurd (other_number 61 62 (λ e. omega (arith, e)) bad), λ out. absurd (out ((within_decides system p).0 ea)));
      refused_61 = (λ _. ((within_decides system p).0 ea, none_enabled s p eo), λ _. refl);
      refused_stays = λ r e. refl;
    }
    requested s p false o ea eo = record {
      granted_is_made = λ k bad. cc;
      none_lower_is_enabled = λ k j bad. cc;
      enabled_is_granted = λ k is. absurd (both_ways (within_counts system p) ea (known k p is.2));
      refused_62 = (λ _ w. both_ways (within_counts system p) ea ((within_decides system p).1 w), λ _. refl);
      refused_61 = (λ bad. absurd (other_number 62 61 (λ e. omega (arith, e)) bad), λ (w, _). absurd (both_ways (within_counts system p) ea ((within_decides system p).1 w)));
      refused_stays = λ r e. refl;
    }

    pub request_law : (s : ℕ) (p : Permission) (answer : Result ℕ Refused) (t : ℕ) → answer ≡ request_answer system s p → t ≡ after system s (request p)
        → MakesTheLowestMove system s p answer t
    request_law s p answer t ea et =
        subst (λ (x : Result ℕ Refused). MakesTheLowestMove system s p x t) (sym ea)
        (subst (MakesTheLowestMove system s p (request_answer system s p)) (sym et)
        (requested s p (within_counts system p) (lowest_enabled system s p) refl refl))

    -- `may`
    told : (s : ℕ) (p : Permission) (a : Bool) (o : Option ℕ) → within_counts system p ≡ a → lowest_enabled system s p ≡ o
        → TellsWhetherEnabled system s p (cond a (Ok (is_some o)) (Err (refused 62)))
    told s p true (Some m) ea eo = record {
      yes = (λ _. (m, some_enabled s p m eo), λ _. refl);
      no = (λ bad. cc, λ (_, none). absurd (none m (some_enabled s p m eo)));
      refused_62 = (λ bad. absurd (not_refused true 62 bad), λ out. absurd (out ((within_decides system p).0 ea)));
    }
    told s p true None ea eo = record {
      yes = (λ bad. cc, λ (k, is). absurd (none_enabled s p eo k is));
      no = (λ _. ((within_decides system p).0 ea, none_enabled s p eo), λ _. refl);
      refused_62 = (λ bad. absurd (not_refused false 62 bad), λ out. absurd (out ((within_decides system p).0 ea)));
    }
    told s p false o ea eo = record {
      yes = (λ bad. cc, λ (k, is). absurd (both_ways (within_counts system p) ea (known k p is.2)));
      no = (λ bad. cc, λ (w, _). absurd (both_ways (within_counts system p) ea ((within_decides system p).1 w)));
      refused_62 = (λ _ w. both_ways (within_counts system p) ea ((within_decides system p).1 w), λ _. refl);
    }

    pub may_law : (s : ℕ) (p : Permission) (answer : Result Bool Refused) → answer ≡ may_answer system s p → TellsWhetherEnabled system s p answer
    may_law s p answer ea =
        subst (TellsWhetherEnabled system s p) (sym ea) (told s p (within_counts system p) (lowest_enabled system s p) refl refl)

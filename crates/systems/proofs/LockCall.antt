-- What `lock` is computed to answer and to leave is what is said of it.
use Rattle.std.proofs.Common.{◌≡◌, ℕ, ◌+◌, ◌<◌, ◌≤◌, Bool, true, false, cond, leb, ◌⊎◌, List, [], ◌∷◌, ◌++◌, length, Ok, Err, Result, sym, refl, ◌∙◌, subst, inl, inr, ⊎_elim, arith}
use Rattle.std.specs.List.{Contains as IsListed}
use Rattle.std.proofs.lemmas.Bool.{both_ways, leb-true, leb-false}
use Rattle.std.proofs.lemmas.List.{append-nil, length_push}
use Rattle.std.proofs.lemmas.List.Elements.{Contains-push, Contains-append_left, Contains-append_cases}
use Rattle.walk.specs.Walks.{Walk}
use Rattle.protection.specs.declared.permission.Permission.{Permission}
use Rattle.protection.specs.Systems.{System, Labels, WithinCounts, within_counts, system_of}
use Rattle.protection.specs.Refusals.{Refused, refused}
use Rattle.protection.proofs.Refused.{other_number, not_refused}
use Rattle.protection.proofs.Within.{within_decides}
use Rattle.systems.specs.Locks.{is_listed, lock_answer, locks_after}
use Rattle.systems.specs.LockPromise.{ListsThePermission}
use Rattle.systems.proofs.LocksHeld.{listed_decides}

module _ (below : System) (old : List Permission) (few : length old ≤ 16) (p : Permission) where
  known : within_counts below p ≡ true → WithinCounts below p
  known = (within_decides below p).0

  unknown : within_counts below p ≡ false → ¬ WithinCounts below p
  unknown out w = both_ways (within_counts below p) out ((within_decides below p).1 w)

  new_to : is_listed old p ≡ false → ¬ IsListed old p
  new_to none is = both_ways (is_listed old p) none ((listed_decides old p).1 is)

  -- the one that is pushed is the only new one
  pushed : (q : Permission) → IsListed (old ++ (p ∷ [])) q → IsListed old q ⊎ (q ≡ p)
  pushed q is =
      ⊎_elim (λ (before : IsListed old q). inl before)
      (λ (last : IsListed (p ∷ []) q). inr (one_only q last))
      (Contains-append_cases old (p ∷ []) q is)
    where
      one_only : (q : Permission) → IsListed (p ∷ []) q → q ≡ p
      one_only q (k, lt, at) = (let first : k ≡ 0 = omega arith in sym (rw first at at))

  by_tests : (a b c : Bool) → within_counts below p ≡ a → is_listed old p ≡ b → leb 16 (length old) ≡ c
      → ListsThePermission below old p
      (cond a (cond b (Ok (length old)) (cond c (Err (refused 50)) (Ok (length old + 1)))) (Err (refused 51)))
      (cond a (cond b old (cond c old (old ++ (p ∷ [])))) old)
  by_tests true true c ea eb ec =
      let is = (listed_decides old p).0 eb in
      record {
        listed_then = λ n ok q. (λ in_it. inl in_it, λ either. ⊎_elim (λ (in_it : IsListed old q). in_it) (λ (same : q ≡ p). rw same is) either);
        order_stays = λ n ok. ([], sym (append-nil old));
        counted = λ n ok. (let count : n ≡ length old = cc in (count, omega (arith, few, count)));
        listed_is_accepted = λ w i. (refl, refl);
        room_is_taken = λ w free room. absurd (free is);
        refused_51 = (λ bad. absurd (not_refused (length old) 51 bad), λ out. absurd (out (known ea)));
        refused_50 = (λ bad. absurd (not_refused (length old) 50 bad), λ (w, free, full). absurd (free is));
        refused_stays = λ r bad. refl;
      }
  by_tests true false true ea eb ec =
      let free = new_to eb in
      let full : length old ≡ 16 = omega (arith, few, leb-true 16 (length old) ec) in
      record {
        listed_then = λ n bad. cc;
        order_stays = λ n bad. cc;
        counted = λ n bad. cc;
        listed_is_accepted = λ w is. absurd (free is);
        room_is_taken = λ w f room. absurd (omega (arith, room, full));
        refused_51 = (λ bad. absurd (other_number 50 51 (λ e. omega (arith, e)) bad), λ out. absurd (out (known ea)));
        refused_50 = (λ _. (known ea, free, full), λ _. refl);
        refused_stays = λ r e. refl;
      }
  by_tests true false false ea eb ec =
      let free = new_to eb in
      let room : length old < 16 = leb-false 16 (length old) ec in
      record {
        listed_then = λ n ok q. (
          λ is. pushed q is,
          λ either. ⊎_elim (λ (is : IsListed old q). Contains-append_left old (p ∷ []) q is) (λ (same : q ≡ p). rw same (Contains-push old p)) either,
        );
        order_stays = λ n ok. (p ∷ [], refl);
        counted = λ n ok. (let count : n ≡ length old + 1 = cc in (count ∙ sym (length_push old p), omega (arith, count, room)));
        listed_is_accepted = λ w is. absurd (free is);
        room_is_taken = λ w f r. refl;
        refused_51 = (λ bad. absurd (not_refused (length old + 1) 51 bad), λ out. absurd (out (known ea)));
        refused_50 = (λ bad. absurd (not_refused (length old + 1) 50 bad), λ (w, f, full). absurd (omega (arith, room, full)));
        refused_stays = λ r bad. cc;
      }
  by_tests false b c ea eb ec =
      let out = unknown ea in
      record {
        listed_then = λ n bad. cc;
        order_stays = λ n bad. cc;
        counted = λ n bad. cc;
        listed_is_accepted = λ w is. absurd (out w);
        room_is_taken = λ w f r. absurd (out w);
        refused_51 = (λ _. out, λ _. refl);
        refused_50 = (λ bad. absurd (other_number 51 50 (λ e. omega (arith, e)) bad), λ (w, f, full). absurd (out w));
        refused_stays = λ r e. refl;
      }

pub lists_it : (walk : Walk) (labels : Labels) (old : List Permission) → length old ≤ 16 → (p : Permission) (answer : Result ℕ Refused) (new : List Permission)
    → answer ≡ lock_answer labels old p → new ≡ locks_after labels old p → ListsThePermission (system_of walk labels) old p answer new
lists_it walk labels old few p answer new ea en =
    subst (λ (x : Result ℕ Refused). ListsThePermission (system_of walk labels) old p x new) (sym ea)
    (subst (ListsThePermission (system_of walk labels) old p (lock_answer labels old p)) (sym en)
    (by_tests (system_of walk labels) old few p _ _ _ refl refl refl))

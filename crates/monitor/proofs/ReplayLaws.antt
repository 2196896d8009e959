-- A replay, turn by turn, and what it says of the calls of `enforce`.
use Rattle.std.proofs.Common.{◌≡◌, ℕ, suc, ◌+◌, ◌<◌, ◌≤◌, Bool, true, cond, List, [], ◌∷◌, ◌++◌, map, length, get_or, take, drop, is_ok, Some, None, Ok, Err, Option, Result, sym, refl, ap, ◌∙◌, subst, arith}
use Rattle.std.proofs.lemmas.List.{length-append, at_drop_more, at_drop_all}
use Rattle.std.specs.Result.{result_ok, result_and}
use Rattle.std.specs.Option.{option_to_list}
use Rattle.walk.specs.Runs.{on_from, run_from}
use Rattle.walk.specs.declared.records.Found.{Found}
use Rattle.protection.specs.declared.permission.Permission.{Permission}
use Rattle.protection.specs.declared.answers.Verdict.{Verdict}
use Rattle.protection.specs.declared.answers.Verdict.TheVariants.{Leak}
use Rattle.protection.specs.Systems.{System}
use Rattle.protection.specs.Answers.{verdict_values}
use Rattle.protection.specs.Safety.{Replays, Safety}
use Rattle.protection.specs.Refusals.{Refused}
use Rattle.protection.specs.Histories.{enforce, enforce_answer, granted, moved, after, leaves, grants}
use Rattle.protection.proofs.HistoryLaws.{enforce_answers, granted_step}
use Rattle.monitor.specs.Replays.{replay_answer, replay_leaves}
use Rattle.monitor.specs.Calls.{MakesMovesInTurn}
use Rattle.monitor.proofs.CallLaws.{enforce_law}

module _ (system : System) where
  -- what a replay of the moves from the place i on answers and leaves, in the state s
  pub record Rest (s : ℕ) (moves : List ℕ) (i : ℕ) (answer : Result Unit Refused) (t : ℕ) : Type 0 where
    pub answers : replay_answer system s (drop i moves) ≡ answer
    pub left : replay_leaves system s (drop i moves) ≡ t

  module _ (s : ℕ) (moves : List ℕ) (i : ℕ) (answer : Result Unit Refused) (t : ℕ) (r : Rest s moves i answer t) where
    pub rest_more : (k : ℕ) → i < length moves → Ok k ≡ enforce_answer system s (get_or moves i 0)
        → Rest (after system s (enforce (get_or moves i 0))) moves (i + 1) answer t
    unfolding replay_answer replay_leaves
    rest_more k h e =
        let next : ℕ = after system s (enforce (get_or moves i 0)) in
        record {
          answers = ap (λ (x : Result ℕ Refused). result_and x (replay_answer system next (drop (i + 1) moves))) e
              ∙ (sym (at_drop_more (replay_answer system s) moves i 0 h) ∙ r.answers);
          left = ap (λ (x : Result ℕ Refused). cond (is_ok x) (replay_leaves system next (drop (i + 1) moves)) s) e
              ∙ (sym (at_drop_more (replay_leaves system s) moves i 0 h) ∙ r.left);
        }

    pub rest_stops : (d : Refused) → i < length moves → Err d ≡ enforce_answer system s (get_or moves i 0) → (Err d ≡ answer) × (s ≡ t)
    unfolding replay_answer replay_leaves
    rest_stops d h e = (
      ap (λ (x : Result ℕ Refused). result_and x (replay_answer system (after system s (enforce (get_or moves i 0))) (drop (i + 1) moves))) e
          ∙ (sym (at_drop_more (replay_answer system s) moves i 0 h) ∙ r.answers),
      ap (λ (x : Result ℕ Refused). cond (is_ok x) (replay_leaves system (after system s (enforce (get_or moves i 0))) (drop (i + 1) moves)) s) e
          ∙ (sym (at_drop_more (replay_leaves system s) moves i 0 h) ∙ r.left),
    )

    pub rest_done : length moves ≤ i → (Ok tt ≡ answer) × (s ≡ t)
    unfolding replay_answer replay_leaves
    rest_done h = (
      sym (at_drop_all (replay_answer system s) moves i h) ∙ r.answers,
      sym (at_drop_all (replay_leaves system s) moves i h) ∙ r.left,
    )

  -- a refused `enforce` leaves the state
  pub refused_stays : (s m : ℕ) (d : Refused) → Err d ≡ enforce_answer system s m → after system s (enforce m) ≡ s
  refused_stays s m d e = ap (λ (x : Result ℕ Refused). moved system s (result_ok x)) (sym e)

  grants_few : (ms : List ℕ) (s : ℕ) → length (grants system s (map enforce ms)) ≤ length ms
  unfolding grants
  grants_few [] s = omega arith
  grants_few (m ∷ ms) s =
      omega (
        arith,
        length-append (option_to_list (granted system s (enforce m))) (grants system (after system s (enforce m)) (map enforce ms)),
        at_most_one (granted system s (enforce m)),
        grants_few ms (after system s (enforce m)),
      )
    where
      at_most_one : (o : Option ℕ) → length (option_to_list o) ≤ 1
      at_most_one o = elim o as (λ x. length (option_to_list x) ≤ 1) [ Some k ↦ omega arith | None ↦ omega arith ]

  -- what calls of `enforce` grant, move by move, a replay grants
  pub from_grants : (ms : List ℕ) (s : ℕ) → grants system s (map enforce ms) ≡ ms → replay_answer system s ms ≡ Ok tt
  unfolding replay_answer grants
  from_grants [] s e = refl
  from_grants (m ∷ ms) s e = go (enforce_answer system s m) refl (from_grants ms (after system s (enforce m)))
    where
      go : (x : Result ℕ Refused) → enforce_answer system s m ≡ x
          → (grants system (after system s (enforce m)) (map enforce ms) ≡ ms → replay_answer system (after system s (enforce m)) ms ≡ Ok tt)
          → result_and (enforce_answer system s m) (replay_answer system (after system s (enforce m)) ms) ≡ Ok tt
      go (Ok k) f on =
          let cut : k ∷ grants system (after system s (enforce m)) (map enforce ms) ≡ m ∷ ms
          = sym (ap (λ (x : Result ℕ Refused). option_to_list (result_ok x) ++ grants system (after system s (enforce m)) (map enforce ms)) f) ∙ e in
          let rest : grants system (after system s (enforce m)) (map enforce ms) ≡ ms = cc in
          ap (λ (x : Result ℕ Refused). result_and x (replay_answer system (after system s (enforce m)) ms)) f ∙ on rest
      go (Err d) f on =
          let cut : grants system (after system s (enforce m)) (map enforce ms) ≡ m ∷ ms
          = sym (ap (λ (x : Result ℕ Refused). option_to_list (result_ok x) ++ grants system (after system s (enforce m)) (map enforce ms)) f) ∙ e in
          absurd (omega (arith, grants_few ms (after system s (enforce m)), ap (λ (l : List ℕ). length l) cut))

  -- a replay makes the moves in turn, up to the first that is refused
  in_turn : (ms : List ℕ) (s : ℕ) → MakesMovesInTurn system s ms (replay_answer system s ms) (replay_leaves system s ms)
  unfolding replay_answer replay_leaves run_from grants leaves
  in_turn [] s = record {
    count = 0;
    not_more = omega arith;
    steps_lead_there = refl;
    granted_as_calls = refl;
    left_by_calls = refl;
    all_granted = (λ _. refl, λ _. refl);
    next_is_refused = λ r bad. cc;
  }
  in_turn (m ∷ ms) s = go (enforce_answer system s m) refl (in_turn ms (after system s (enforce m)))
    where
      go : (x : Result ℕ Refused) → enforce_answer system s m ≡ x
          → MakesMovesInTurn system (after system s (enforce m)) ms (replay_answer system (after system s (enforce m)) ms) (replay_leaves system (after system s (enforce m)) ms)
          → MakesMovesInTurn system s (m ∷ ms) (result_and x (replay_answer system (after system s (enforce m)) ms)) (cond (is_ok x) (replay_leaves system (after system s (enforce m)) ms) s)
      go (Ok k) f rest =
          let granted_here : granted system s (enforce m) ≡ Some m
          = ap (λ (x : Result ℕ Refused). result_ok x) f ∙ ap Some (enforce_answers system s m k f) in
          record {
            count = suc rest.count;
            not_more = omega (arith, rest.not_more);
            steps_lead_there =
                ap (λ (o : Option ℕ). on_from o (λ x. run_from system.walk x (take rest.count ms))) (granted_step system s (enforce m) m granted_here)
                ∙ rest.steps_lead_there;
            granted_as_calls =
                ap (λ (l : List ℕ). l ++ grants system (after system s (enforce m)) (map enforce (take rest.count ms))) (ap option_to_list granted_here)
                ∙ ap (λ (l : List ℕ). m ∷ l) rest.granted_as_calls;
            left_by_calls = rest.left_by_calls;
            all_granted = (λ ok. ap suc (rest.all_granted.0 ok), λ all. rest.all_granted.1 (omega (arith, all)));
            next_is_refused = rest.next_is_refused;
          }
      go (Err d) f rest = record {
        count = 0;
        not_more = omega arith;
        steps_lead_there = refl;
        granted_as_calls = refl;
        left_by_calls = refl;
        all_granted = (λ bad. cc, λ none. absurd (omega (arith, none)));
        next_is_refused = λ r e.
            (let same : d ≡ r = cc in
            let refused : Err r ≡ enforce_answer system s m = sym (f ∙ ap Err same) in
            enforce_law system s m (Err r) s refused (sym (refused_stays s m r refused)));
      }

  pub replay_law : (s : ℕ) (ms : List ℕ) (answer : Result Unit Refused) (t : ℕ) → answer ≡ replay_answer system s ms → t ≡ replay_leaves system s ms
      → MakesMovesInTurn system s ms answer t
  replay_law s ms answer t ea et =
      subst (λ (x : Result Unit Refused). MakesMovesInTurn system s ms x t) (sym ea)
      (subst (MakesMovesInTurn system s ms (replay_answer system s ms)) (sym et) (in_turn ms s))

-- what grants every witness grants that of a leak
pub witness_granted : (system : System) (q : Permission) (v : Verdict) (found : List Found) (witness : List ℕ) (count tried total : ℕ) (r : Bool)
    → v ≡ Leak count tried total → Safety system q (verdict_values v) found witness
    → ((p : Permission) → Replays system p (take total witness) → r ≡ true) → r ≡ true
witness_granted system q v found witness count tried total r e safe grants-all =
    grants-all q ((subst (λ (x : Verdict). Safety system q (verdict_values x) found witness) e safe).leak_is_replayed refl)

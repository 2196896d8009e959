-- The verdict of an analysis is legible, with the moves of its witness.
use Rattle.std.proofs.Common.{◌≡◌, ℕ, ◌*◌, ◌^◌, ◌<◌, ◌≤◌, Bool, true, ◌&&◌, ltb, List, [], ◌∷◌, ◌++◌, length, is_some, Some, All, refl, sym, ap, ◌∙◌, subst, append-nil, mul-le-mul, arith}
use Rattle.std.proofs.Math.Seq.{drop-nil}
use Rattle.std.proofs.lemmas.List.{take_all}
use Rattle.std.proofs.lemmas.List.Elements.{All-nil, All-cons, All-push}
use Rattle.std.proofs.lemmas.Bool.{and_parts, ltb-true}
use Rattle.scheme.specs.declared.entries.Query.{Query}
use Rattle.scheme.specs.Models.{SchemeModel}
use Rattle.scheme.specs.Counts.{move_count}
use Rattle.walk.specs.Walks.{Walk, Bounds}
use Rattle.walk.specs.Search.{Outcome, stopped, exhausted, state_at, search_from}
use Rattle.walk.specs.Results.{ending_of, found_of, witness_of, over}
use Rattle.walk.specs.Runs.{run_from, Meets, Means}
use Rattle.walk.proofs.Invariant.{size}
use Rattle.walk.proofs.Outcomes.{search_ends}
use Rattle.walk.proofs.Reached.{on_some}
use Rattle.walk.proofs.Law.{some_of, means_of}
use Rattle.protection.specs.Permissions.{within}
use Rattle.protection.specs.Answers.{Said, verdict_values, verdict_of}
use Rattle.record.specs.Systems.{permission_asked, walk_of}
use Rattle.text.specs.Writing.{QueryFits}
use Rattle.report.specs.Readings.{Legible}

abbrev pub said_of : Outcome → Said
said_of o = verdict_values (verdict_of (ending_of o))

record Counted (said : Said) : Type 0 where
  found : said.found < 2 ^ 64
  tried : said.tried < 2 ^ 64

module _ (walk : Walk) (bounds : Bounds walk) (stop : ℕ → Bool) where
  -- only moves of the walk have a step

  run_below : (ms : List ℕ) (s t : ℕ) → run_from walk s ms ≡ Some t → All (λ v. v < walk.moves) ms
  unfolding run_from
  run_below [] s t leads = All-nil (λ v. v < walk.moves)
  run_below (v ∷ ms) s t leads =
      let first = on_some (walk.step s v) (λ u. run_from walk u ms) t leads in
      All-cons (λ v. v < walk.moves) v ms (bounds.move_below s v first.0 first.1) (run_below ms first.0 t first.2)

  meets_below : (ms : List ℕ) → Meets walk stop ms → All (λ v. v < walk.moves) ms
  meets_below ms w =
      let step = some_of (walk.step w.at w.last) w.enabled in
      subst (All (λ v. v < walk.moves)) (sym w.is_last)
      (All-push (λ v. v < walk.moves) w.before w.last (run_below w.before walk.start w.at w.leads) (bounds.move_below w.at w.last step.0 step.1))

  -- no more states are listed than there are, and in each no more moves are tried
  product : (a : ℕ) → a ≤ walk.states → a * walk.moves ≤ 4294967296
  product a low =
      let few : a ≤ 1048576 = omega (arith, bounds.states_few) in
      let p : a * walk.moves ≤ 1048576 * 4096 = mul-le-mul few bounds.moves_few in
      omega arith

  counted : Counted (said_of (search_from walk stop))
  counted =
      search_ends walk bounds stop (λ o. Counted (said_of o))
      (λ found place v tried kept here meets count.
      let listed = size walk bounds stop found place v kept in
      let step = some_of (walk.step (state_at found place) v) (and_parts (is_some (walk.step (state_at found place) v)) (stop v) meets).0 in
      let low = bounds.move_below (state_at found place) v step.0 step.1 in
      record { found = omega (arith, bounds.states_few); tried = omega (arith, bounds.moves_few, product place (omega arith)) })
      (λ found tried kept count.
      let listed = size walk bounds stop found (length found) 0 kept in
      record { found = omega (arith, bounds.states_few); tried = omega (arith, product (length found) listed) })

-- what is written over no entries is all that there is
pub over_nothing : {X : Type 0} (xs : List X) → xs ≡ over xs []
over_nothing xs = sym (ap (λ l. xs ++ l) (drop-nil (length xs)) ∙ append-nil xs)

module _ (m : SchemeModel) (q : Query) (asked : within (length m.objects) (length m.rights) (permission_asked q) ≡ true) where
  pub query_fits : QueryFits (length m.objects) (length m.rights) q
  query_fits =
      let subject = and_parts (ltb q.subject (length m.objects)) (ltb q.object (length m.objects) && ltb q.right (length m.rights)) asked in
      let object = and_parts (ltb q.object (length m.objects)) (ltb q.right (length m.rights)) subject.1 in
      record { subject = ltb-true q.subject (length m.objects) subject.0; object = ltb-true q.object (length m.objects) object.0; right = ltb-true q.right (length m.rights) object.1 }

  outcome_legible : (bounds : Bounds (walk_of m)) (stop : ℕ → Bool) (o : Outcome) → Counted (said_of o)
      → Means (walk_of m) stop (Some (ending_of o)) (found_of o) (witness_of o) → Legible m q (said_of o) (witness_of o)
  outcome_legible bounds stop (stopped found tried witness) counts means = record {
    asked = query_fits;
    found = counts.found;
    tried = counts.tried;
    as_many = refl;
    of_scheme =
        subst (All (λ v. v < move_count m)) (take_all (length witness) witness (omega arith)) (meets_below (walk_of m) bounds stop _ means.meets);
  }
  outcome_legible bounds stop (exhausted found tried) counts means = record {
    asked = query_fits;
    found = counts.found;
    tried = counts.tried;
    as_many = refl;
    of_scheme = All-nil (λ v. v < move_count m);
  }

  pub legible : (bounds : Bounds (walk_of m)) (stop : ℕ → Bool) → let o = search_from (walk_of m) stop in Legible m q (said_of o) (witness_of o)
  legible bounds stop =
      let o = search_from (walk_of m) stop in
      outcome_legible bounds stop o (counted (walk_of m) bounds stop)
      (means_of (walk_of m) bounds stop (ending_of o) [] (found_of o) [] (witness_of o) refl (over_nothing (found_of o)) (over_nothing (witness_of o)))

-- What a search has visited at its end, and what its tables then hold.
use Rattle.std.proofs.Common.{◌≡◌, ℕ, ◌+◌, ◌*◌, ◌<◌, ◌≤◌, Bool, true, List, [], ◌∷◌, ◌++◌, length, take, drop, is_some, Some, sym, refl, ap, ◌∙◌, subst, inl, inr, ⊎_elim, arith}
use Rattle.std.proofs.Math.Seq.{take-append_seam, drop-append_seam}
use Rattle.std.proofs.lemmas.Bool.{and_parts, cases_lt}
use Rattle.std.proofs.lemmas.List.{length_push, length-append, length-drop}
use Rattle.std.proofs.lemmas.List.FromFn.{length-map-range_with_len}
use Rattle.walk.specs.declared.records.Found.{Found}
use Rattle.walk.specs.declared.records.Ending.{Ending}
use Rattle.walk.specs.Walks.{Walk, Bounds}
use Rattle.walk.specs.Search.{Outcome, stopped, exhausted, state_at, moves_to, ends, search_from}
use Rattle.walk.specs.Results.{mark, ending_of, found_of, witness_of, marks_of, over}
use Rattle.walk.specs.Visited.{Met, StoppedVisits, ExhaustedVisits}
use Rattle.walk.specs.Written.{Tables, SomeShort, MarksTell, WrittenUpTo, Writes, Visits}
use Rattle.walk.specs.Kept.{Kept}
use Rattle.walk.proofs.Invariant.{size}
use Rattle.walk.proofs.Outcomes.{search_ends}
use Rattle.walk.proofs.Paths.{depth_le, kept_rooted}
use Rattle.walk.proofs.Law.{some_of}
use Rattle.walk.proofs.Marks.{marks_tell}
use Rattle.walk.proofs.Ways.{way_to}

-- what was written over the first entries of a table leaves the rest
over_written : {X : Type 0} (xs table : List X) (n : ℕ) → length xs ≡ n → n ≤ length table → WrittenUpTo n table (over xs table)
over_written xs table n e fits = record {
  room = omega (arith, length-append xs (drop (length xs) table));
  as_long = omega (arith, length-append xs (drop (length xs) table), length-drop (length xs) table);
  rest = subst (λ (k : ℕ). drop k (over xs table) ≡ drop k table) e (drop-append_seam xs (drop (length xs) table));
}

module _ (walk : Walk) (bounds : Bounds walk) (stop : ℕ → Bool) where
  -- no more states are listed, and no more moves written, than there are states
  record Fits (list : List Found) (witness : List ℕ) : Type 0 where
    few_states : length list ≤ walk.states
    few_moves : length witness ≤ walk.states

  abbrev Seen : Outcome → Type 0
  Seen (stopped found tried witness) = StoppedVisits walk (Met stop) found tried witness × Fits found witness
  Seen (exhausted found tried) = ExhaustedVisits walk (Met stop) found tried × Fits found []

  stopped_seen : (found : List Found) (place m tried : ℕ) → Kept walk stop found place m → place < length found
      → ends walk stop found place m ≡ true → tried ≡ place * walk.moves + m → Seen (stopped found (tried + 1) (moves_to found place ++ (m ∷ [])))
  stopped_seen found place m tried kept here e count = (
    record {
      index = place;
      last = m;
      visited = kept.visited;
      in_list = here;
      enabled = some_of (walk.step (state_at found place) m) parts.0;
      meets = parts.1;
      all_tried = omega arith;
      before = moves_to found place;
      way = way_to found (kept_rooted walk stop found place m kept) place here;
      is_last = refl;
    },
    record {
      few_states = few;
      few_moves = omega (arith, few, length_push (moves_to found place) m, depth_le found (kept_rooted walk stop found place m kept) place here);
    },
  )
    where
      parts : (is_some (walk.step (state_at found place) m) ≡ true) × (stop m ≡ true)
      parts = and_parts (is_some (walk.step (state_at found place) m)) (stop m) e

      few : length found ≤ walk.states
      few = size walk bounds stop found place m kept

  seen : Seen (search_from walk stop)
  seen =
      search_ends walk bounds stop Seen stopped_seen
      (λ found tried kept count. (
        record { visited = kept.visited; all_tried = count },
        record { few_states = size walk bounds stop found (length found) 0 kept; few_moves = omega arith },
      ))

  module _ (old new : Tables) (enough : ¬ SomeShort walk.states old) where
    marks_enough : walk.states ≤ length old.marks
    marks_enough = ⊎_elim (λ l. absurd (enough (inl l))) (λ h. h) (cases_lt (length old.marks) walk.states)

    found_enough : walk.states ≤ length old.found
    found_enough = ⊎_elim (λ l. absurd (enough (inr (inl l)))) (λ h. h) (cases_lt (length old.found) walk.states)

    witness_enough : walk.states ≤ length old.witness
    witness_enough = ⊎_elim (λ l. absurd (enough (inr (inr l)))) (λ h. h) (cases_lt (length old.witness) walk.states)

    -- the tables hold a list, its marks and a witness
    record Hold (list : List Found) (witness : List ℕ) : Type 0 where
      marks_are : new.marks ≡ over (marks_of walk.states list) old.marks
      found_are : new.found ≡ over list old.found
      witness_is : new.witness ≡ over witness old.witness

    first_found : (list : List Found) (witness : List ℕ) → Hold list witness → take (length list) new.found ≡ list
    first_found list witness h = ap (take (length list)) h.found_are ∙ take-append_seam list (drop (length list) old.found)

    first_witness : (list : List Found) (witness : List ℕ) → Hold list witness → take (length witness) new.witness ≡ witness
    first_witness list witness h = ap (take (length witness)) h.witness_is ∙ take-append_seam witness (drop (length witness) old.witness)

    writes : (list : List Found) (witness : List ℕ) → Hold list witness → Fits list witness
        → ((i j : ℕ) → i < length list → j < length list → state_at list i ≡ state_at list j → i ≡ j)
        → Writes walk.states (length list) (length witness) old new
    writes list witness h fits once = record {
      tell = subst (λ (l : List Found). MarksTell walk.states l new.marks) (sym (first_found list witness h))
          (subst (λ (ms : List ℕ). MarksTell walk.states list ms) (sym h.marks_are)
          (marks_tell walk.states list (drop (length (marks_of walk.states list)) old.marks) once));
      marks = subst (λ (xs : List ℕ). WrittenUpTo walk.states old.marks xs) (sym h.marks_are)
          (over_written (marks_of walk.states list) old.marks walk.states (length-map-range_with_len (mark list) 0 walk.states) marks_enough);
      found = subst (λ (xs : List Found). WrittenUpTo (length list) old.found xs) (sym h.found_are)
          (over_written list old.found (length list) refl (omega (arith, fits.few_states, found_enough)));
      witness = subst (λ (xs : List ℕ). WrittenUpTo (length witness) old.witness xs) (sym h.witness_is)
          (over_written witness old.witness (length witness) refl (omega (arith, fits.few_moves, witness_enough)));
    }

    visits : (o : Outcome) → Seen o → Hold (found_of o) (witness_of o) → Visits walk (Met stop) (Some (ending_of o)) old new
    visits (stopped list tried witness) s h = (
      subst (λ (l : List Found). StoppedVisits walk (Met stop) l tried (take (length witness) new.witness)) (sym (first_found list witness h))
          (subst (λ (ms : List ℕ). StoppedVisits walk (Met stop) list tried ms) (sym (first_witness list witness h)) s.0),
      writes list witness h s.1 s.0.visited.once,
    )
    visits (exhausted list tried) s h = (
      subst (λ (l : List Found). ExhaustedVisits walk (Met stop) l tried) (sym (first_found list [] h)) s.0,
      writes list [] h s.1 s.0.visited.once,
    )

    -- the answer and the tables tell what was visited
    pub visits_of : (e : Ending) → e ≡ ending_of (search_from walk stop)
        → new.marks ≡ over (marks_of walk.states (found_of (search_from walk stop))) old.marks
        → new.found ≡ over (found_of (search_from walk stop)) old.found
        → new.witness ≡ over (witness_of (search_from walk stop)) old.witness
        → Visits walk (Met stop) (Some e) old new
    visits_of e ee em ef ew =
        subst (λ (x : Ending). Visits walk (Met stop) (Some x) old new) (sym ee)
        (visits (search_from walk stop) seen (record { marks_are = em; found_are = ef; witness_is = ew }))

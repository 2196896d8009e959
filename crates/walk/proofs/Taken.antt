-- One turn of the loop over the listed states.
use Rattle.std.proofs.Common.{◌≡◌, ℕ, ◌+◌, ◌<◌, ◌≤◌, Bool, List, [], ◌∷◌, ◌++◌, length, take, drop, sym, ap, ◌∙◌, subst, arith}
use Rattle.std.proofs.lemmas.List.{length-take-le}
use Rattle.walk.specs.declared.records.Found.{Found}
use Rattle.walk.specs.declared.records.Ending.{Ending}
use Rattle.walk.specs.declared.records.Ending.TheVariants.{Stopped, Exhausted}
use Rattle.walk.specs.Walks.{Walk}
use Rattle.walk.specs.Search.{Outcome, stopped, exhausted, moves_to, search_from}
use Rattle.walk.specs.Results.{ending_of, found_of, witness_of, over}
use Rattle.walk.proofs.Steps.{place_done, place_more, move_ends}
use Rattle.walk.specs.declared.listing.Listing.{Listing}
use Rattle.walk.specs.Tables.{from_move, Searching, Stopping, Passing, Taking}
use Rattle.walk.specs.Listings.{so_far, SameTables, Ends, Halted}
use Rattle.walk.proofs.Turns.{drop_later}
use Rattle.walk.proofs.Whole.{stopped_ending, exhausted_ending}

-- the move m in the state at `place` has ended the search
pub record StoppedAt (walk : Walk) (stop : ℕ → Bool) (marks : List ℕ) (table before : List Found) (count place m tried : ℕ) : Type 0 where
  pub searching : Searching walk stop marks table before count place m
  pub here : place < count
  pub outcome : search_from walk stop ≡ stopped (take count table) tried (moves_to (take count table) place ++ (m ∷ []))

-- every listed state was taken
pub record AllTaken (walk : Walk) (stop : ℕ → Bool) (marks : List ℕ) (table before : List Found) (count tried : ℕ) : Type 0 where
  pub searching : Searching walk stop marks table before count count 0
  pub outcome : search_from walk stop ≡ exhausted (take count table) tried

module _ (walk : Walk) (stop : ℕ → Bool) (marks : List ℕ) (table before : List Found) (count place tried : ℕ)
    (t : Taking walk stop marks table before count place tried) where
  list_length : length (take count table) ≡ count
  list_length = length-take-le count table t.searching.fits

  -- from the state at `place` on
  here : place < count → search_from walk stop ≡ from_move walk stop place 0 (take count table) tried
  here h = t.same ∙ place_more walk stop place (take count table) tried (omega (arith, list_length)) (omega (arith, list_length, t.searching.fits, t.searching.table_size))

  from_before : (marks' : List ℕ) (table' : List Found) (count' place' m : ℕ) → count ≤ count' → Searching walk stop marks' table' table count' place' m
      → Searching walk stop marks' table' before count' place' m
  from_before marks' table' count' place' m grows s = record {
    kept = s.kept;
    marks_size = s.marks_size;
    table_size = s.table_size;
    fits = s.fits;
    rest = s.rest ∙ drop_later count count' table before grows t.searching.rest;
  }

  pub take_more : (marks' : List ℕ) (table' : List Found) (count' : ℕ) → place < count → Passing walk stop marks' table' table count count' place
      → Taking walk stop marks' table' before count' (place + 1) (tried + walk.moves)
  take_more marks' table' count' h p = record {
    searching = from_before marks' table' count' (place + 1) 0 p.grows p.searching;
    begun = omega (arith, p.here);
    upto = omega (arith, p.here);
    count_tried = omega (arith, t.count_tried);
    same = here h ∙ p.same tried;
  }

  pub take_ends : (marks' : List ℕ) (table' : List Found) (count' m : ℕ) → place < count → Stopping walk stop marks' table' table count count' place m
      → StoppedAt walk stop marks' table' before count' place m (tried + m + 1)
  take_ends marks' table' count' m h e = record {
    searching = from_before marks' table' count' place m e.trying.grows e.trying.searching;
    here = e.trying.here;
    outcome = here h ∙ (e.trying.same tried ∙ move_ends walk stop place m (take count' table') (tried + m) e.enabled e.stops);
  }

  pub take_all : count ≤ place → AllTaken walk stop marks table before count tried
  take_all h =
      let e : place ≡ count = omega (arith, t.upto) in
      record {
        searching = subst (λ (p : ℕ). Searching walk stop marks table before count p 0) e t.searching;
        outcome = t.same ∙ place_done walk stop place (take count table) tried (omega (arith, list_length));
      }

-- the search that began with l is over: what it answers, the tables, and the witness
pub record Over (walk : Walk) (stop : ℕ → Bool) (l l' : Listing) (answer : Ending) (witness witness' : List ℕ) : Type 0 where
  pub ending : answer ≡ ending_of (search_from walk stop)
  pub tables : Halted walk stop l l'
  pub written : witness' ≡ over (witness_of (search_from walk stop)) witness

module _ (walk : Walk) (stop : ℕ → Bool) (first : Listing) where
  halted : (l : Listing) (place m : ℕ) → Searching walk stop l.marks.now l.table.now first.table.now l.count place m → SameTables first l
      → so_far l ≡ found_of (search_from walk stop) → Halted walk stop first l
  halted l place m s same list = record {
    list = list;
    size = same.marks_length;
    some = omega (arith, s.kept.visited.some, length-take-le l.count l.table.now s.fits);
    rest = s.rest;
  }

  -- the move m in the state at the place has ended it, and the witness was written
  pub over_by : (l l' : Listing) (place tried m : ℕ) → SameTables first l' → Taking walk stop l.marks.now l.table.now first.table.now l.count place tried
      → place < l.count → Ends walk stop l l' place m
      → (found : List Found) → found ≡ so_far l' → (total : ℕ) (witness witness' : List ℕ) → total ≡ length (moves_to found place ++ (m ∷ []))
      → witness' ≡ (moves_to found place ++ (m ∷ [])) ++ drop total witness
      → Over walk stop first l' (Stopped l'.count (tried + m + 1) total) witness witness'
  over_by l l' place tried m kept t here ends found same total witness witness' long written =
      let s : StoppedAt walk stop l'.marks.now l'.table.now first.table.now l'.count place m (tried + m + 1)
      = take_ends walk stop l.marks.now l.table.now first.table.now l.count place tried t l'.marks.now l'.table.now l'.count m here ends in
      let way : List ℕ = moves_to (so_far l') place ++ (m ∷ []) in
      let total_is : total ≡ length way = long ∙ ap (λ (f : List Found). length (moves_to f place ++ (m ∷ []))) same in
      record {
        ending = stopped_ending (search_from walk stop) (so_far l') way l'.count (tried + m + 1) total s.outcome
            (sym (length-take-le l'.count l'.table.now s.searching.fits)) total_is;
        tables = halted l' place m s.searching kept (sym (ap found_of s.outcome));
        written = written
            ∙ (ap (λ (f : List Found). (moves_to f place ++ (m ∷ [])) ++ drop total witness) same
            ∙ (ap (λ (n : ℕ). way ++ drop n witness) total_is ∙ ap (λ (x : Outcome). over (witness_of x) witness) (sym s.outcome)));
      }

  -- every listed state was taken
  pub over_all : (l : Listing) (place tried : ℕ) → SameTables first l → Taking walk stop l.marks.now l.table.now first.table.now l.count place tried
      → l.count ≤ place → (witness witness' : List ℕ) → witness' ≡ witness → Over walk stop first l (Exhausted l.count tried) witness witness'
  over_all l place tried kept t all witness witness' same =
      let s : AllTaken walk stop l.marks.now l.table.now first.table.now l.count tried
      = take_all walk stop l.marks.now l.table.now first.table.now l.count place tried t all in
      record {
        ending = exhausted_ending (search_from walk stop) (so_far l) l.count tried s.outcome (sym (length-take-le l.count l.table.now s.searching.fits));
        tables = halted l l.count 0 s.searching kept (sym (ap found_of s.outcome));
        written = same ∙ ap (λ (x : Outcome). over (witness_of x) witness) (sym s.outcome);
      }

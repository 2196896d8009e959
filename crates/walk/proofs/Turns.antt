-- One turn of the loop over the moves, on the tables.
use Rattle.std.proofs.Common.{◌≡◌, ℕ, ◌+◌, ◌-◌, ◌<◌, ◌≤◌, Bool, true, false, List, [], ◌∷◌, ◌++◌, length, take, drop, is_some, Some, None, Option, sym, refl, ap, ◌∙◌, arith}
use Rattle.std.proofs.lemmas.List.{length-take-le, drop-drop, get_or_append_left}
use Rattle.std.proofs.lemmas.Bool.{and_from, and_left, and_right, cond_both}
use Rattle.walk.specs.declared.records.Found.{Found}
use Rattle.walk.specs.Walks.{Walk, Bounds}
use Rattle.walk.specs.Search.{entry, state_at, listed, ends, with_next, after_try}
use Rattle.walk.proofs.Invariant.{room, turn, next}
use Rattle.walk.proofs.Steps.{move_more, move_done}
use Rattle.walk.specs.declared.listing.Listing.{Listing}
use Rattle.walk.specs.Listings.{SameTables}
use Rattle.walk.specs.Tables.{from_place, from_move, Trying, Stopping, Passing}

pub drop_later : {X : Type 0} (n k : ℕ) (xs ys : List X) → n ≤ k → drop n xs ≡ drop n ys → drop k xs ≡ drop k ys
drop_later n k xs ys h e =
    let d : k ≡ n + (k - n) = omega arith in
    rw d (sym (drop-drop (k - n) n xs) ∙ (ap (λ l. drop (k - n) l) e ∙ drop-drop (k - n) n ys))

-- the tables stay the same over two parts of a search
pub same_on : {a b c : Listing} → SameTables a b → SameTables b c → SameTables a c
same_on p q = record {
  marks = q.marks ∙ p.marks;
  table = q.table ∙ p.table;
  marks_length = q.marks_length ∙ p.marks_length;
  table_length = q.table_length ∙ p.table_length;
}

-- the state at a place is not changed by a try
with_next_state : (found : List Found) (place m : ℕ) (o : Option ℕ) (p : ℕ) → p < length found → state_at (with_next found place m o) p ≡ state_at found p
with_next_state found place m None p h = refl
with_next_state found place m (Some t) p h =
    cond_both (listed found t) found (found ++ (entry t place m ∷ [])) (λ f. state_at f p ≡ state_at found p)
    (λ _. refl)
    (λ _. ap (λ (x : Found). x.state) (get_or_append_left found (entry t place m ∷ []) (entry 0 0 0) p h))

module _ (walk : Walk) (bounded : Bounds walk) (stop : ℕ → Bool) (before : List Found) (listed' place : ℕ) where
  module _ (marks : List ℕ) (table : List Found) (count m : ℕ) (t : Trying walk stop marks table before listed' count place m) where
    list_length : length (take count table) ≡ count
    list_length = length-take-le count table t.searching.fits

    here_list : place < length (take count table)
    here_list = omega (arith, list_length, t.here)

    -- a state that is not listed has a free entry
    pub free : (u : ℕ) → walk.step (state_at (take count table) place) m ≡ Some u → listed (take count table) u ≡ false → count < length table
    free u e new =
        omega (
          arith,
          list_length,
          t.searching.table_size,
          room walk bounded stop (take count table) place m u t.searching.kept here_list new e,
        )

    pub try_more : (marks' : List ℕ) (table' : List Found) (count' : ℕ) → m < walk.moves → ends walk stop (take count table) place m ≡ false
        → take count' table' ≡ after_try walk (take count table) place m → drop count' table' ≡ drop count' table
        → length table' ≡ length table → length marks' ≡ length marks → count' ≤ length table' → count ≤ count'
        → Trying walk stop marks' table' before listed' count' place (m + 1)
    try_more marks' table' count' h goes list rest size-t size-m fits grows = record {
      searching = record {
        kept = rw list (turn walk bounded stop (take count table) place m t.searching.kept here_list goes);
        marks_size = size-m ∙ t.searching.marks_size;
        table_size = size-t ∙ t.searching.table_size;
        fits = fits;
        rest = rest ∙ drop_later count count' table before grows t.searching.rest;
      };
      grows = omega (arith, t.grows);
      here = omega (arith, t.here);
      below = omega arith;
      same = λ tried.
          let e : tried + m + 1 ≡ tried + (m + 1) = omega arith in
          t.same tried ∙ (move_more walk stop place m (take count table) (tried + m) h goes
          ∙ (ap (λ (n : ℕ). from_move walk stop place (m + 1) (after_try walk (take count table) place m) n) e
          ∙ ap (λ (l : List Found). from_move walk stop place (m + 1) l (tried + (m + 1))) (sym list)));
    }

    pub try_state : (table' : List Found) (count' : ℕ) → take count' table' ≡ after_try walk (take count table) place m
        → state_at (take count' table') place ≡ state_at (take count table) place
    try_state table' count' list =
        ap (λ (l : List Found). state_at l place) list ∙ with_next_state (take count table) place m (walk.step (state_at (take count table) place) m) place here_list

    -- a disabled move
    pub none_goes : walk.step (state_at (take count table) place) m ≡ None → ends walk stop (take count table) place m ≡ false
    none_goes e = and_left (is_some (walk.step (state_at (take count table) place) m)) (stop m) (ap is_some e)

    pub none_list : walk.step (state_at (take count table) place) m ≡ None → take count table ≡ after_try walk (take count table) place m
    none_list e = sym (ap (λ (o : Option ℕ). with_next (take count table) place m o) e)

    pub unstopped_goes : stop m ≡ false → ends walk stop (take count table) place m ≡ false
    unstopped_goes e = and_right (is_some (walk.step (state_at (take count table) place) m)) (stop m) e

    pub some_list : (u : ℕ) → walk.step (state_at (take count table) place) m ≡ Some u → with_next (take count table) place m (Some u) ≡ after_try walk (take count table) place m
    some_list u e = sym (ap (λ (o : Option ℕ). with_next (take count table) place m o) e)

    pub try_ends : (u : ℕ) → walk.step (state_at (take count table) place) m ≡ Some u → stop m ≡ true → m < walk.moves
        → Stopping walk stop marks table before listed' count place m
    try_ends u e s h = record {
      trying = t;
      enabled = h;
      stops = and_from (is_some (walk.step (state_at (take count table) place) m)) (stop m) (ap is_some e) s;
    }

    pub try_passes : m ≡ walk.moves → Passing walk stop marks table before listed' count place
    try_passes all = record {
      searching = record {
        kept = next walk bounded stop (take count table) place m t.searching.kept here_list all;
        marks_size = t.searching.marks_size;
        table_size = t.searching.table_size;
        fits = t.searching.fits;
        rest = t.searching.rest;
      };
      grows = t.grows;
      here = t.here;
      same = λ tried. t.same tried
          ∙ (move_done walk stop place m (take count table) (tried + m) (omega arith)
          ∙ ap (λ (n : ℕ). from_place walk stop (place + 1) (take count table) (tried + n)) all);
    }

    -- what a turn leaves: the loop's facts, one move on
    abbrev pub Turned : List ℕ → List Found → ℕ → Type 0
    Turned marks' table' count' =
        Trying walk stop marks' table' before listed' count' place (m + 1) × (state_at (take count table) place ≡ state_at (take count' table') place)

    pub none_turn : walk.step (state_at (take count table) place) m ≡ None → m < walk.moves → Turned marks table count
    none_turn e h = (try_more marks table count h (none_goes e) (none_list e) refl refl refl t.searching.fits (omega arith), refl)

    pub some_turn : (u : ℕ) → walk.step (state_at (take count table) place) m ≡ Some u → stop m ≡ false → m < walk.moves
        → (marks' : List ℕ) (table' : List Found) (count' : ℕ) → take count' table' ≡ with_next (take count table) place m (Some u)
        → drop count' table' ≡ drop count' table → length table' ≡ length table → length marks' ≡ length marks → count' ≤ length table' → count ≤ count'
        → Turned marks' table' count'
    some_turn u e s h marks' table' count' list rest size-t size-m fits grows = (
      try_more marks' table' count' h (unstopped_goes s) (list ∙ some_list u e) rest size-t size-m fits grows,
      sym (try_state table' count' (list ∙ some_list u e)),
    )

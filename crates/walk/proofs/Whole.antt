-- What the tables hold at the end.
use Rattle.std.proofs.Common.{◌≡◌, ℕ, ◌≤◌, Bool, List, ◌++◌, length, take, drop, sym, ap, ◌∙◌, arith}
use Rattle.std.proofs.lemmas.List.{length-take-le, take-append-drop, drop-append-le, append_assoc}
use Rattle.std.proofs.lemmas.List.FromFn.{fill_by_all, length-map-range_with_len}
use Rattle.walk.specs.declared.records.Found.{Found}
use Rattle.walk.specs.declared.listing.Listing.{Listing}
use Rattle.walk.specs.Walks.{Walk}
use Rattle.walk.specs.Search.{Outcome, stopped, exhausted, search_from}
use Rattle.walk.specs.declared.records.Ending.TheVariants.{Stopped, Exhausted}
use Rattle.walk.specs.Listings.{so_far, Halted}
use Rattle.walk.specs.Results.{mark, ending_of, found_of, marks_of, over}

module _ (walk : Walk) (stop : ℕ → Bool) (l l' : Listing) (h : Halted walk stop l l') where
  pub marks_end : length l.marks.now ≡ walk.states → l'.marks.now ≡ marks_of walk.states (found_of (search_from walk stop))
  marks_end size =
      fill_by_all (mark (so_far l')) l'.marks.now walk.states 0 (h.size ∙ size) (λ k below. l'.marked k (omega (arith, h.size)))
      ∙ ap (λ (xs : List Found). marks_of walk.states xs) h.list

pub stopped_ending : (o : Outcome) (found : List Found) (witness : List ℕ) (count tried total : ℕ) → o ≡ stopped found tried witness
    → count ≡ length found → total ≡ length witness → Stopped count tried total ≡ ending_of o
stopped_ending o found witness count tried total e c t = (λ i. Stopped (c i) tried (t i)) ∙ sym (ap ending_of e)

pub exhausted_ending : (o : Outcome) (found : List Found) (count tried : ℕ) → o ≡ exhausted found tried → count ≡ length found → Exhausted count tried ≡ ending_of o
exhausted_ending o found count tried e c = (λ i. Exhausted (c i) tried) ∙ sym (ap ending_of e)

-- a write over the first n entries is one over the table
pub over_part : {X : Type 0} (xs table : List X) (n : ℕ) → length xs ≤ n → n ≤ length table → over xs (take n table) ++ drop n table ≡ over xs table
over_part xs table n h fits =
    append_assoc xs (drop (length xs) (take n table)) (drop n table)
    ∙ ap (λ l. xs ++ l)
    (sym (drop-append-le (length xs) (take n table) (drop n table) (omega (arith, length-take-le n table fits)))
    ∙ ap (λ l. drop (length xs) l) (take-append-drop n table))

-- the caller's marks, of which the first n were lent
pub marks_whole : (n k : ℕ) (marks xs : List ℕ) (list : List Found) → xs ≡ marks_of n list → k ≡ n → xs ++ drop k marks ≡ over (marks_of n list) marks
marks_whole n k marks xs list e same =
    ap (λ (l : List ℕ). l ++ drop k marks) e
    ∙ ap (λ (j : ℕ). marks_of n list ++ drop j marks) (same ∙ sym (length-map-range_with_len (mark list) 0 n))

-- the caller's found table, of which the first n entries were lent
pub found_whole : (n k : ℕ) (table xs list : List Found) → xs ≡ over list (take k table) → k ≡ n → length list ≤ n → n ≤ length table
    → xs ++ drop k table ≡ over list table
found_whole n k table xs list e same fits long =
    ap (λ (l : List Found). l ++ drop k table) e ∙ over_part list table k (omega arith) (omega arith)

-- The tables of a search in progress, for the contracts of its own functions.
use Rattle.std.specs.Prelude.{◌≡◌, ℕ, ◌<◌, Bool, List, length, take, drop}
use Rattle.walk.specs.declared.records.Found.{Found}
use Rattle.walk.specs.declared.listing.Listing.{Listing}
use Rattle.walk.specs.Walks.{Walk}
use Rattle.walk.specs.Search.{search_from}
use Rattle.walk.specs.Results.{found_of}
use Rattle.walk.specs.Tables.{Searching, Stopping, Passing, Taking}

-- the states listed so far
abbrev pub so_far : Listing → List Found
so_far l = take l.count l.table.now

-- the same tables of the caller's, of the same lengths
pub record SameTables (l l' : Listing) : Type 0 where
  pub marks : l'.marks.ghost_name ≡ l.marks.ghost_name
  pub table : l'.table.ghost_name ≡ l.table.ghost_name
  pub marks_length : length l'.marks.now ≡ length l.marks.now
  pub table_length : length l'.table.now ≡ length l.table.now

-- the state at the place is to be taken
abbrev pub At : Walk → (ℕ → Bool) → Listing → ℕ → Type 0
At walk stop l place = Searching walk stop l.marks.now l.table.now l.table.now l.count place 0

-- the move m in the state at the place ends the search that has gone from l to l'
abbrev pub Ends : Walk → (ℕ → Bool) → (l l' : Listing) → (place m : ℕ) → Type 0
Ends walk stop l l' place m = Stopping walk stop l'.marks.now l'.table.now l.table.now l.count l'.count place m

-- no move in it does
abbrev pub Passes : Walk → (ℕ → Bool) → (l l' : Listing) → (place : ℕ) → Type 0
Passes walk stop l l' place = Passing walk stop l'.marks.now l'.table.now l.table.now l.count l'.count place

-- the start state alone is listed
abbrev pub Begun : Walk → (ℕ → Bool) → Listing → Type 0
Begun walk stop l = Taking walk stop l.marks.now l.table.now l.table.now l.count 0 0

-- the search that began with l is over: the states of its outcome are listed, and the rest of the found table is as it was
pub record Halted (walk : Walk) (stop : ℕ → Bool) (l l' : Listing) : Type 0 where
  pub list : so_far l' ≡ found_of (search_from walk stop)
  pub size : length l'.marks.now ≡ length l.marks.now
  pub some : 0 < l'.count
  pub rest : drop l'.count l'.table.now ≡ drop l'.count l.table.now

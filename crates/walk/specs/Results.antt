-- What a search answers, and what its tables hold afterwards.
use Rattle.std.specs.Prelude.{ℕ, ◌+◌, Bool, cond, ◌&&◌, List, [], ◌∷◌, ◌++◌, map, length, drop, Some, None, Option, ◌==◌, nat_le}
use Rattle.std.specs.List.{range_with_len}
use Rattle.walk.specs.declared.records.Found.{Found}
use Rattle.walk.specs.declared.records.Ending.{Ending}
use Rattle.walk.specs.declared.records.Ending.TheVariants.{Stopped, Exhausted}
use Rattle.walk.specs.Walks.{Walk}
use Rattle.walk.specs.Search.{Outcome, stopped, exhausted, search_from}

-- the answer carries the length of the found list, the count of tries, and where a move ended the search the length of the witness
abbrev pub ending_of : Outcome → Ending
ending_of (stopped found tried witness) = Stopped (length found) tried (length witness)
ending_of (exhausted found tried) = Exhausted (length found) tried

abbrev pub found_of : Outcome → List Found
found_of (stopped found tried witness) = found
found_of (exhausted found tried) = found

-- an exhausted search writes no witness
abbrev pub witness_of : Outcome → List ℕ
witness_of (stopped found tried witness) = witness
witness_of (exhausted found tried) = []

-- the place of a state plus 1, counted from k, and 0 where it is not listed
abbrev pub mark_from : ℕ → List Found → ℕ → ℕ
mark_from k [] s = 0
mark_from k (e ∷ es) s = cond (e.state == s) (k + 1) (mark_from (k + 1) es s)

abbrev pub mark : List Found → ℕ → ℕ
mark found s = mark_from 0 found s

-- the marks of all states
abbrev pub marks_of : ℕ → List Found → List ℕ
marks_of states found = map (mark found) (range_with_len 0 states)

-- a table whose first entries were written over
abbrev pub over : {X : Type 0} → List X → List X → List X
over xs table = xs ++ drop (length xs) table

-- each of the three tables has an entry for every state
abbrev pub large_enough : ℕ → ℕ → ℕ → ℕ → Bool
large_enough states marks found witness = nat_le states marks && (nat_le states found && nat_le states witness)

-- a search with tables of these lengths
abbrev pub search_answer : Walk → (ℕ → Bool) → ℕ → ℕ → ℕ → Option Ending
search_answer walk stop marks found witness =
    cond (large_enough walk.states marks found witness) (Some (ending_of (search_from walk stop))) None

-- the tables after the answer r: without one they are as they were
abbrev pub marks_after : Walk → (ℕ → Bool) → Option Ending → List ℕ → List ℕ
marks_after walk stop None marks = marks
marks_after walk stop (Some e) marks = over (marks_of walk.states (found_of (search_from walk stop))) marks

abbrev pub found_after : Walk → (ℕ → Bool) → Option Ending → List Found → List Found
found_after walk stop None found = found
found_after walk stop (Some e) found = over (found_of (search_from walk stop)) found

abbrev pub witness_after : Walk → (ℕ → Bool) → Option Ending → List ℕ → List ℕ
witness_after walk stop None witness = witness
witness_after walk stop (Some e) witness = over (witness_of (search_from walk stop)) witness

-- What the codes of a subject and an object stand for, and what becomes of them.
use Rattle.std.specs.Prelude.{ℕ, ◌-◌, List, Option}
use Rattle.codes.specs.Codes.{values_from}
use Rattle.codes.specs.Meanings.{sizes_in}
use Rattle.enforcement.specs.declared.pair.Pair.{Pair}
use Rattle.enforcement.specs.declared.parties.CodedPair.{CodedPair}
use Rattle.enforcement.specs.Parties.{Parties}
use Rattle.enforcement.specs.Coded.{parties_from, on_codes}

abbrev pub sizes_of : CodedPair → List ℕ
sizes_of p = sizes_in p.codes.now

abbrev pub parties_of : CodedPair → Parties
parties_of p = parties_from (sizes_of p) p.pair

abbrev pub after : CodedPair → (Parties → Option Parties) → Option Pair
after p f = on_codes (sizes_of p) f p.pair

-- the values of the subject, and of the object, if they are there
abbrev pub subject_values : CodedPair → List (Option ℕ)
subject_values p = values_from (sizes_of p) (p.pair.subject - 1)

abbrev pub object_values : CodedPair → List (Option ℕ)
object_values p = values_from (sizes_of p) (p.pair.object - 1)

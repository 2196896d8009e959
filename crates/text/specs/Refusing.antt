-- When a text is refused, and with which number, line and place, in the terms of the table of refusals: a
-- condition for each row, over a line, its words and what the lines above it declare.
use Rattle.std.specs.Prelude.{◌≡◌, ℕ, ◌+◌, ◌-◌, ◌<◌, ◌≤◌, false, true, ◌⊎◌, List, [], ◌∷◌, ◌++◌, length, is_some, Some, None, Ok, Err, Option, Result, slice_index}
use Rattle.scheme.specs.declared.kind.Kind.{Kind}
use Rattle.scheme.specs.declared.terms.Party.{Party}
use Rattle.scheme.specs.Names.{index_of}
use Rattle.scheme.specs.Models.{SchemeModel, attribute_names, names_of, room_for}
use Rattle.scheme.specs.Counts.{state_count}
use Rattle.words.specs.declared.fault.Report.{Report}
use Rattle.words.specs.Positions.{PlainLine, PlainWord, word_in}
use Rattle.words.specs.Cuts.{words_of, text_lines}
use Rattle.words.specs.Tokens.{Form, number, term, form_of}
use Rattle.lines.specs.declared.role.Instead.{Instead}
use Rattle.lines.specs.declared.role.Role.TheVariants as role
use Rattle.lines.specs.Kinds.{kind_in, in_order, count_allowed}
use Rattle.lines.specs.Roles.{role_at, fits}
use Rattle.text.specs.Naming.{size_at}
use Rattle.text.specs.Declaring.{declared}
use Rattle.text.specs.Reading.{Progress, start}

-- the rows of the table that speak of one line
pub data Row : Type 0 where
  bytes : Row
  lengths : Row
  kinds : Row
  counts : Row
  forms : Row
  most : Row
  used : Row
  undefined : Row
  ranges : Row

-- their numbers
abbrev pub number_of : Row → ℕ
number_of bytes = 1
number_of lengths = 2
number_of kinds = 10
number_of counts = 11
number_of forms = 12
number_of most = 23
number_of used = 20
number_of undefined = 21
number_of ranges = 22

-- their rank: the first that applies counts, and the last three together
abbrev pub rank : Row → ℕ
rank bytes = 0
rank lengths = 1
rank kinds = 2
rank counts = 3
rank forms = 4
rank most = 5
rank used = 6
rank undefined = 6
rank ranges = 6

abbrev pub word_at : PlainLine → ℕ → PlainWord
word_at l i = word_in (words_of l) i

-- the first word of a line names its kind
abbrev pub Opens : PlainLine → Kind → Type 0
Opens l k = (0 < length (words_of l)) × (kind_in (word_at l 0).bytes ≡ Some k)

-- an unknown first word, or a line out of order
abbrev pub Unplaced : Option Kind → PlainWord → Type 0
Unplaced last w = (kind_in w.bytes ≡ None) ⊎ ((k : Kind) × ((kind_in w.bytes ≡ Some k) × (in_order last k ≡ false)))

-- a name has a number among names, or none
abbrev pub Defined : List ℕ → List (List ℕ) → Type 0
Defined n ns = is_some (index_of n ns) ≡ true

abbrev pub Missed : List ℕ → List (List ℕ) → Type 0
Missed n ns = is_some (index_of n ns) ≡ false

-- the word at index i is a new name that its kind already has
abbrev pub Taken : SchemeModel → Kind → List PlainWord → ℕ → Type 0
Taken m k ws i = (role_at k ws i ≡ role.NewName) × Defined (word_in ws i).bytes (names_of k m)

-- it is to name an entry of some kind that has none of that name
abbrev pub Unknown : SchemeModel → Kind → List PlainWord → ℕ → Type 0
Unknown m k ws i = (of : Kind) × ((role_at k ws i ≡ role.Known of) × Missed (word_in ws i).bytes (names_of of m))

-- it has a form
abbrev pub HasForm : List PlainWord → ℕ → Form → Type 0
HasForm ws i f = form_of (word_in ws i).bytes ≡ f

-- it is a term whose attribute is not declared
abbrev pub Unattributed : SchemeModel → Kind → List PlainWord → ℕ → Type 0
Unattributed m k ws i =
    (o : Instead) × ((p : Party) × ((a : List ℕ) × ((role_at k ws i ≡ role.Term o) × HasForm ws i (term p a) × Missed a (attribute_names m))))

-- it is a size that is not 1 to 250
abbrev pub Oversized : Kind → List PlainWord → ℕ → Type 0
Oversized k ws i =
    (n : ℕ) × ((role_at k ws i ≡ role.Size) × HasForm ws i (number n) × ((n < 1) ⊎ (250 < n)))

-- it is an object's value, and not below the size of its attribute
abbrev pub Overvalued : SchemeModel → Kind → List PlainWord → ℕ → Type 0
Overvalued m k ws i =
    (n : ℕ) × ((role_at k ws i ≡ role.Value) × HasForm ws i (number n) × (size_at m (i - 2) ≤ n))

-- a line of a kind of which a condition holds; and a word of it behind the first
abbrev pub OfKind : PlainLine → (Kind → Type 0) → Type 0
OfKind l Condition = (k : Kind) × (Opens l k × Condition k)

abbrev pub Behind : PlainLine → ℕ → (Kind → Type 0) → Type 0
Behind l i Condition = (0 < i) × (i < length (words_of l)) × OfKind l Condition

-- the condition of a row applies at an index, that of a byte or a word
abbrev pub Applies : Progress → PlainLine → Row → ℕ → Type 0
Applies p l bytes i = (i < length l.bytes) × ((slice_index l.bytes i < 32) ⊎ (126 < slice_index l.bytes i))
Applies p l lengths i = (i < length (words_of l)) × (17 < length (word_at l i).bytes)
Applies p l kinds i = (i ≡ 0) × (0 < length (words_of l)) × Unplaced p.last (word_at l 0)
Applies p l counts i =
    (i ≡ 0) × OfKind l (λ k. count_allowed k (length p.scheme.attributes) (length (words_of l)) ≡ false)
Applies p l forms i = Behind l i (λ k. fits (role_at k (words_of l) i) (form_of (word_at l i).bytes) ≡ false)
Applies p l most i = (i ≡ 0) × OfKind l (λ k. room_for k p.scheme ≡ false)
Applies p l used i = Behind l i (λ k. Taken p.scheme k (words_of l) i)
Applies p l undefined i = Behind l i (λ k. Unknown p.scheme k (words_of l) i ⊎ Unattributed p.scheme k (words_of l) i)
Applies p l ranges i = Behind l i (λ k. Oversized k (words_of l) i ⊎ Overvalued p.scheme k (words_of l) i)

-- the place that a row reports: that of the byte, or of the word
abbrev pub place_in : PlainLine → Row → ℕ → ℕ
place_in l bytes i = i + 1
place_in l row i = (word_at l i).place

abbrev pub reported : PlainLine → Row → ℕ → Report
reported l row i = record { number = number_of row; line = l.number; place = place_in l row i }

-- this is reported of a line: of the first row by rank that applies to it, and there of the leftmost
pub record First (p : Progress) (l : PlainLine) (r : Report) : Type 0 where
  pub row : Row
  pub index : ℕ
  pub applies : Applies p l row index
  pub before : (other : Row) (i : ℕ) → Applies p l other i
      → (rank row < rank other) ⊎ ((rank row ≡ rank other) × (index ≤ i))
  pub report : r ≡ reported l row index

-- no condition applies
abbrev pub Faultless : Progress → PlainLine → Type 0
Faultless p l = (row : Row) (i : ℕ) → ¬ (Applies p l row i)

-- what is declared below a line without a fault; one with no word adds nothing
abbrev pub below : Progress → List PlainWord → Option Kind → Progress
below p ws None = p
below p ws (Some k) = record { scheme = declared k ws p.scheme; last = Some k }

abbrev pub first_kind : List PlainWord → Option Kind
first_kind [] = None
first_kind (w ∷ ws) = kind_in w.bytes

abbrev pub below_line : Progress → PlainLine → Progress
below_line p l = below p (words_of l) (first_kind (words_of l))

-- these lines have no fault, and leave q declared
abbrev pub Passed : Progress → List PlainLine → Progress → Type 0
Passed p [] q = p ≡ q
Passed p (l ∷ ls) q = Faultless p l × Passed (below_line p l) ls q

-- the first line that has a fault is refused with this report
pub record LineRefused (text : List ℕ) (r : Report) : Type 0 where
  pub before : List PlainLine
  pub line : PlainLine
  pub after : List PlainLine
  pub cut : text_lines text ≡ before ++ line ∷ after
  pub above : Progress
  pub passed : Passed start before above
  pub first : First above line r

-- the conditions at the end of a text; n is the line after the last
abbrev pub Incomplete : SchemeModel → Type 0
Incomplete m = (length m.attributes ≡ 0) ⊎ ((length m.rights ≡ 0) ⊎ (length m.objects ≡ 0))

abbrev pub EndFault : ℕ → SchemeModel → Report → Type 0
EndFault n m r =
    (Incomplete m × (r ≡ record { number = 24; line = n; place = 1 }))
    ⊎ (¬ (Incomplete m) × (1048576 < state_count m) × (r ≡ record { number = 25; line = n; place = 1 }))

-- no line has a fault, but the end of the text is refused with this report
pub record EndRefused (text : List ℕ) (r : Report) : Type 0 where
  pub all : Progress
  pub passed : Passed start (text_lines text) all
  pub fault : EndFault (1 + length (text_lines text)) all.scheme r

-- no condition applies anywhere, and the scheme is what the lines declare
pub record Accepted (text : List ℕ) (m : SchemeModel) : Type 0 where
  pub short : length text ≤ 65535
  pub all : Progress
  pub passed : Passed start (text_lines text) all
  pub complete : ¬ (Incomplete all.scheme)
  pub few : state_count all.scheme ≤ 1048576
  pub scheme : m ≡ all.scheme

-- what the table of refusals says of a text: a scheme, or a number, a line and a place
abbrev pub TableSays : List ℕ → Result SchemeModel Report → Type 0
TableSays text (Ok m) = Accepted text m
TableSays text (Err r) =
    ((65535 < length text) × (r ≡ record { number = 4; line = 0; place = 0 }))
    ⊎ ((length text ≤ 65535) × (LineRefused text r ⊎ EndRefused text r))

-- an answer is what the table says of the text, and the table says nothing else
pub record AsTheTableSays (text : List ℕ) (answer : Result SchemeModel Report) : Type 0 where
  pub said : TableSays text answer
  pub alone : (other : Result SchemeModel Report) → TableSays text other → other ≡ answer

-- What is joined is cut where it was joined, and every text and every line is joined of something.
use Rattle.std.proofs.Common.{◌≡◌, ◌≢◌, ℕ, zero, suc, ◌+◌, ◌<◌, ◌≤◌, Bool, true, false, cond, eqb, ◌⊎◌, inl, inr, List, [], ◌∷◌, ◌++◌, length, take, drop, replicate, Some, All, sym, refl, ap, ◌∙◌, subst, append_assoc, append-nil, add-zero, arith}
use Rattle.std.specs.List.{slice_get}
use Rattle.std.proofs.lemmas.Bool.{eq-eqb, ne_eqb, eqb-true, eqb-false}
use Rattle.std.proofs.lemmas.List.{length-append, length-replicate}
use Rattle.std.proofs.lemmas.List.Elements.{All-nil, All-cons, All-head, All-tail, All-drop}
use Rattle.std.proofs.lemmas.Option.{none-some, same_Some}
use Rattle.words.specs.Positions.{PlainLine, PlainWord}
use Rattle.words.specs.Cuts.{on_first, pieces, numbered, text_lines, placed, words_of}
use Rattle.words.proofs.Pieces.{pieces_few}
use Rattle.words.specs.Joining.{ended, Joined, with_rest, LinesAre, CutWhereJoined, SpacedWord, spaced, Spaced, WordsAre, CutWhereSpaced}

-- bytes without a separator, and the pieces that they are

abbrev Other : ℕ → ℕ → Type 0
Other separator b = b ≢ separator

abbrev pub Unbroken : ℕ → List ℕ → Type 0
Unbroken separator bytes = All (λ b. b ≢ separator) bytes

module _ (separator : ℕ) where
  abbrev at : Bool → ℕ → List ℕ → List (List ℕ)
  at t b bs = cond t ([] ∷ pieces separator bs) (on_first b (pieces separator bs))

  -- a piece that its separator ends
  pub piece_ended : (w rest : List ℕ) → Unbroken separator w → pieces separator (w ++ separator ∷ rest) ≡ w ∷ pieces separator rest
  piece_ended [] rest whole = ap (λ t. at t separator rest) (eq-eqb separator separator refl)
  piece_ended (b ∷ bs) rest whole =
      ap (λ t. at t b (bs ++ separator ∷ rest)) (ne_eqb b separator (All-head (Other separator) b bs whole))
      ∙ ap (on_first b) (piece_ended bs rest (All-tail (Other separator) b bs whole))

  -- the last piece, which lacks it
  pub piece_last : (b : ℕ) (bs : List ℕ) → Unbroken separator (b ∷ bs) → pieces separator (b ∷ bs) ≡ (b ∷ bs) ∷ []
  piece_last b [] whole = ap (λ t. at t b []) (ne_eqb b separator (All-head (Other separator) b [] whole))
  piece_last b (c ∷ cs) whole =
      ap (λ t. at t b (c ∷ cs)) (ne_eqb b separator (All-head (Other separator) b (c ∷ cs) whole))
      ∙ ap (on_first b) (piece_last c cs (All-tail (Other separator) b (c ∷ cs) whole))

-- the lines of a joined text

with_rest_cons : (l : List ℕ) (ls : List (List ℕ)) (rest : List ℕ) → l ∷ with_rest ls rest ≡ with_rest (l ∷ ls) rest
with_rest_cons l ls [] = refl
with_rest_cons l ls (b ∷ bs) = refl

joined_pieces : (lines : List (List ℕ)) (rest : List ℕ) → All (Unbroken 10) lines → Unbroken 10 rest → pieces 10 (ended lines ++ rest) ≡ with_rest lines rest
joined_pieces [] [] whole end = refl
joined_pieces [] (b ∷ bs) whole end = piece_last 10 b bs end
joined_pieces (l ∷ ls) rest whole end =
    ap (pieces 10) (append_assoc l (10 ∷ ended ls) rest)
    ∙ piece_ended 10 l (ended ls ++ rest) (All-head (Unbroken 10) l ls whole)
    ∙ ap (λ ps. l ∷ ps) (joined_pieces ls rest (All-tail (Unbroken 10) l ls whole) end)
    ∙ with_rest_cons l ls rest

numbered_length : (n : ℕ) (ls : List (List ℕ)) → length (numbered n ls) ≡ length ls
numbered_length n [] = refl
numbered_length n (l ∷ ls) = ap suc (numbered_length (n + 1) ls)

-- a text has no more lines than bytes
pub lines_few : (text : List ℕ) → length (text_lines text) ≤ length text
lines_few text = omega (arith, numbered_length 1 (pieces 10 text), pieces_few 10 text)

numbered_at : (n : ℕ) (ls : List (List ℕ)) (i : ℕ) (l : List ℕ) → slice_get ls i ≡ Some l → slice_get (numbered n ls) i ≡ Some (record { bytes = l; number = n + i })
numbered_at n [] i l is = absurd (none-some l is)
numbered_at n (x ∷ xs) zero l is =
    let here : n ≡ n + 0 = omega arith in
    ap (λ x. Some (record { bytes = x; number = n })) (same_Some x l is) ∙ ap (λ k. Some (record { bytes = l; number = k })) here
numbered_at n (x ∷ xs) (suc i) l is =
    let next : n + 1 + i ≡ n + suc i = omega arith in
    numbered_at (n + 1) xs i l is ∙ ap (λ k. Some (record { bytes = l; number = k })) next

lines_are : (ls : List (List ℕ)) → LinesAre (numbered 1 ls) ls
lines_are ls = record {
  as_many = numbered_length 1 ls;
  each = λ i l is. let at : 1 + i ≡ i + 1 = omega arith in numbered_at 1 ls i l is ∙ ap (λ k. Some (record { bytes = l; number = k })) at;
}

lines_cut : (text : List ℕ) (lines : List (List ℕ)) (rest : List ℕ) → Joined text lines rest → LinesAre (text_lines text) (with_rest lines rest)
lines_cut text lines rest j =
    let cut : with_rest lines rest ≡ pieces 10 text = sym (ap (pieces 10) j.made ∙ joined_pieces lines rest j.lines_unbroken j.rest_unbroken) in
    subst (λ ps. LinesAre (numbered 1 ps) (with_rest lines rest)) cut (lines_are (with_rest lines rest))

-- every text is joined of lines, byte by byte from its end

abbrev IsJoined : List ℕ → Type 0
IsJoined text = (lines : List (List ℕ)) × ((rest : List ℕ) × Joined text lines rest)

joined_on : (b : ℕ) (bs : List ℕ) (lines : List (List ℕ)) (rest : List ℕ) → b ≢ 10 → Joined bs lines rest → IsJoined (b ∷ bs)
joined_on b bs [] rest other j = (
  [],
  (
    b ∷ rest,
    record {
      lines_unbroken = j.lines_unbroken;
      rest_unbroken = All-cons (Other 10) b rest other j.rest_unbroken;
      made = ap (λ l. b ∷ l) j.made;
    },
  ),
)
joined_on b bs (l ∷ ls) rest other j = (
  (b ∷ l) ∷ ls,
  (
    rest,
    record {
      lines_unbroken = All-cons (Unbroken 10) (b ∷ l) ls (All-cons (Other 10) b l other (All-head (Unbroken 10) l ls j.lines_unbroken)) (All-tail (Unbroken 10) l ls j.lines_unbroken);
      rest_unbroken = j.rest_unbroken;
      made = ap (λ x. b ∷ x) j.made;
    },
  ),
)

joined_more : (t : Bool) (b : ℕ) (bs : List ℕ) → eqb b 10 ≡ t → IsJoined bs → IsJoined (b ∷ bs)
joined_more true b bs is (lines, (rest, j)) = (
  [] ∷ lines,
  (
    rest,
    record {
      lines_unbroken = All-cons (Unbroken 10) [] lines (All-nil (Other 10)) j.lines_unbroken;
      rest_unbroken = j.rest_unbroken;
      made = ap (λ x. x ∷ bs) (eqb-true b 10 is) ∙ ap (λ l. 10 ∷ l) j.made;
    },
  ),
)
joined_more false b bs is (lines, (rest, j)) = joined_on b bs lines rest (eqb-false b 10 is) j

every_text : (text : List ℕ) → IsJoined text
every_text [] = ([], ([], record { lines_unbroken = All-nil (Unbroken 10); rest_unbroken = All-nil (Other 10); made = refl }))
every_text (b ∷ bs) = joined_more (eqb b 10) b bs refl (every_text bs)

pub text_cut : (text : List ℕ) → CutWhereJoined text (text_lines text)
text_cut text = record { into_those_joined = lines_cut text; always_joined = every_text text }

-- the words of a line

abbrev gap : ℕ → List ℕ
gap k = replicate k 32

gap_length : (k : ℕ) → length (gap k) ≡ k
gap_length k = length-replicate k 32

-- a word is some bytes, none of them a space; and a space stands in front of it
abbrev Inked : SpacedWord → Type 0
Inked w = 0 < length w.bytes

abbrev Whole : SpacedWord → Type 0
Whole w = Unbroken 32 w.bytes

abbrev Led : SpacedWord → Type 0
Led w = 0 < w.spaces

module _ (n : ℕ) where
  -- spaces only move the place of what comes behind them
  after_spaces : (k p : ℕ) (xs : List ℕ) → placed n p (pieces 32 (replicate k 32 ++ xs)) ≡ placed n (p + k) (pieces 32 xs)
  after_spaces zero p xs = ap (λ q. placed n q (pieces 32 xs)) (sym (add-zero p))
  after_spaces (suc k) p xs =
      let next : suc p + k ≡ p + suc k = omega arith in
      after_spaces k (suc p) xs ∙ ap (λ q. placed n q (pieces 32 xs)) next

  -- what stands behind a word
  abbrev Behind : List ℕ → Type 0
  Behind rest = (rest ≡ []) ⊎ ((r : List ℕ) × (rest ≡ 32 ∷ r))

  spaces_behind : (k : ℕ) (xs : List ℕ) → 0 < k → Behind (replicate k 32 ++ xs)
  spaces_behind zero xs some = absurd (omega arith)
  spaces_behind (suc k) xs some = inr (replicate k 32 ++ xs, refl)

  end_behind : (k : ℕ) → Behind (replicate k 32)
  end_behind zero = inl refl
  end_behind (suc k) = inr (replicate k 32, refl)

  words_behind : (words : List SpacedWord) (end : ℕ) → All Led words → Behind (spaced words end)
  words_behind [] end parted = end_behind end
  words_behind (w ∷ ws) end parted = spaces_behind w.spaces (w.bytes ++ spaced ws end) (All-head Led w ws parted)

  -- a word, and what comes behind it
  abbrev then : ℕ → List ℕ → List PlainWord → List PlainWord
  then p w ws = record { bytes = w; line = n; place = p } ∷ ws

  word_placed : (p : ℕ) (w rest : List ℕ) → 0 < length w → Unbroken 32 w → Behind rest → placed n p (pieces 32 (w ++ rest)) ≡ then p w (placed n (p + length w) (pieces 32 rest))
  word_placed p [] rest some whole behind = absurd (omega arith)
  word_placed p (b ∷ w) rest some whole (inl is) =
      ap (λ x. placed n p (pieces 32 ((b ∷ w) ++ x))) is
      ∙ ap (λ x. placed n p (pieces 32 x)) (append-nil (b ∷ w))
      ∙ ap (placed n p) (piece_last 32 b w whole)
      ∙ sym (ap (λ x. then p (b ∷ w) (placed n (p + length (b ∷ w)) (pieces 32 x))) is)
  word_placed p (b ∷ w) rest some whole (inr (r, is)) =
      let next : p + suc (length (b ∷ w)) ≡ suc (p + length (b ∷ w)) = omega arith in
      ap (λ x. placed n p (pieces 32 ((b ∷ w) ++ x))) is
      ∙ ap (placed n p) (piece_ended 32 (b ∷ w) r whole)
      ∙ ap (λ q. then p (b ∷ w) (placed n q (pieces 32 r))) next
      ∙ sym (ap (λ x. then p (b ∷ w) (placed n (p + length (b ∷ w)) (pieces 32 x))) is)

  -- the words where they stand
  abbrev standing : ℕ → List SpacedWord → List PlainWord
  standing p [] = []
  standing p (w ∷ ws) = then (p + w.spaces) w.bytes (standing (p + w.spaces + length w.bytes) ws)

  words_placed : (p : ℕ) (words : List SpacedWord) (end : ℕ) → All Inked words → All Whole words → All Led (drop 1 words) → placed n p (pieces 32 (spaced words end)) ≡ standing p words
  words_placed p [] end some whole parted =
      ap (λ x. placed n p (pieces 32 x)) (sym (append-nil (replicate end 32))) ∙ after_spaces end p []
  words_placed p (w ∷ ws) end some whole parted =
      after_spaces w.spaces p (w.bytes ++ spaced ws end)
      ∙ word_placed (p + w.spaces) w.bytes (spaced ws end) (All-head Inked w ws some) (All-head Whole w ws whole) (words_behind ws end parted)
      ∙ ap (then (p + w.spaces) w.bytes) (words_placed (p + w.spaces + length w.bytes) ws end (All-tail Inked w ws some) (All-tail Whole w ws whole) (All-drop Led 1 ws parted))

  standing_length : (p : ℕ) (words : List SpacedWord) → length (standing p words) ≡ length words
  standing_length p [] = refl
  standing_length p (w ∷ ws) = ap suc (standing_length (p + w.spaces + length w.bytes) ws)

  standing_at : (p : ℕ) (words : List SpacedWord) (i : ℕ) (w : SpacedWord) → slice_get words i ≡ Some w
      → slice_get (standing p words) i ≡ Some (record { bytes = w.bytes; line = n; place = p + length (spaced (take i words) w.spaces) })
  standing_at p [] i w is = absurd (none-some w is)
  standing_at p (x ∷ xs) zero w is =
      let here : p + w.spaces ≡ p + length (gap w.spaces) = omega (arith, gap_length w.spaces) in
      ap (λ (x : SpacedWord). Some (record { bytes = x.bytes; line = n; place = p + x.spaces })) (same_Some x w is)
      ∙ ap (λ k. Some (record { bytes = w.bytes; line = n; place = k })) here
  standing_at p (x ∷ xs) (suc i) w is =
      let before = spaced (take i xs) w.spaces in
      let next : p + x.spaces + length x.bytes + length before ≡ p + length (gap x.spaces ++ (x.bytes ++ before)) = omega (arith, gap_length x.spaces, length-append (gap x.spaces) (x.bytes ++ before), length-append x.bytes before) in
      standing_at (p + x.spaces + length x.bytes) xs i w is ∙ ap (λ k. Some (record { bytes = w.bytes; line = n; place = k })) next

words_cut : (l : PlainLine) (words : List SpacedWord) (end : ℕ) → Spaced l.bytes words end → WordsAre (words_of l) l.number words
words_cut l words end s =
    let cut : standing l.number 1 words ≡ words_of l = sym (ap (λ x. placed l.number 1 (pieces 32 x)) s.made ∙ words_placed l.number 1 words end s.nonempty s.unbroken s.parted) in
    subst (λ ws. WordsAre ws l.number words) cut (record { as_many = standing_length l.number 1 words; each = standing_at l.number 1 words })

-- every line is made of words, byte by byte from its end

abbrev IsSpaced : List ℕ → Type 0
IsSpaced line = (words : List SpacedWord) × ((end : ℕ) × Spaced line words end)

-- a space more in front of a word
abbrev wider : SpacedWord → SpacedWord
wider w = record { spaces = suc w.spaces; bytes = w.bytes }

-- a word without a space in front of it
abbrev unled : List ℕ → SpacedWord
unled w = record { spaces = 0; bytes = w }

abbrev led : ℕ → List ℕ → SpacedWord
led k w = record { spaces = suc k; bytes = w }

-- a byte more is a space, the first byte of the first word, or a word of its own
space_more : (bs : List ℕ) (words : List SpacedWord) (end : ℕ) → Spaced bs words end → IsSpaced (32 ∷ bs)
space_more bs [] end s =
    ([], (suc end, record { nonempty = s.nonempty; unbroken = s.unbroken; parted = s.parted; made = ap (λ l. 32 ∷ l) s.made }))
space_more bs (w ∷ ws) end s = (
  wider w ∷ ws,
  (
    end,
    record {
      nonempty = All-cons Inked (wider w) ws (All-head Inked w ws s.nonempty) (All-tail Inked w ws s.nonempty);
      unbroken = All-cons Whole (wider w) ws (All-head Whole w ws s.unbroken) (All-tail Whole w ws s.unbroken);
      parted = s.parted;
      made = ap (λ l. 32 ∷ l) s.made;
    },
  ),
)

one_byte : (b : ℕ) → b ≢ 32 → Unbroken 32 (b ∷ [])
one_byte b other = All-cons (Other 32) b [] other (All-nil (Other 32))

byte_in_front : (k b : ℕ) (bs w : List ℕ) (ws : List SpacedWord) (end : ℕ) → b ≢ 32 → Spaced bs (record { spaces = k; bytes = w } ∷ ws) end → IsSpaced (b ∷ bs)
byte_in_front zero b bs w ws end other s = (
  unled (b ∷ w) ∷ ws,
  (
    end,
    record {
      nonempty = All-cons Inked (unled (b ∷ w)) ws (omega arith) (All-tail Inked (unled w) ws s.nonempty);
      unbroken = All-cons Whole (unled (b ∷ w)) ws (All-cons (Other 32) b w other (All-head Whole (unled w) ws s.unbroken)) (All-tail Whole (unled w) ws s.unbroken);
      parted = s.parted;
      made = ap (λ l. b ∷ l) s.made;
    },
  ),
)
byte_in_front (suc k) b bs w ws end other s = (
  unled (b ∷ []) ∷ led k w ∷ ws,
  (
    end,
    record {
      nonempty = All-cons Inked (unled (b ∷ [])) (led k w ∷ ws) (omega arith) s.nonempty;
      unbroken = All-cons Whole (unled (b ∷ [])) (led k w ∷ ws) (one_byte b other) s.unbroken;
      parted = All-cons Led (led k w) ws (omega arith) s.parted;
      made = ap (λ l. b ∷ l) s.made;
    },
  ),
)

byte_more : (b : ℕ) (bs : List ℕ) (words : List SpacedWord) (end : ℕ) → b ≢ 32 → Spaced bs words end → IsSpaced (b ∷ bs)
byte_more b bs [] end other s = (
  unled (b ∷ []) ∷ [],
  (
    end,
    record {
      nonempty = All-cons Inked (unled (b ∷ [])) [] (omega arith) s.nonempty;
      unbroken = All-cons Whole (unled (b ∷ [])) [] (one_byte b other) s.unbroken;
      parted = s.parted;
      made = ap (λ l. b ∷ l) s.made;
    },
  ),
)
byte_more b bs (w ∷ ws) end other s = byte_in_front w.spaces b bs w.bytes ws end other s

spaced_more : (t : Bool) (b : ℕ) (bs : List ℕ) → eqb b 32 ≡ t → IsSpaced bs → IsSpaced (b ∷ bs)
spaced_more true b bs is (words, (end, s)) = subst (λ x. IsSpaced (x ∷ bs)) (sym (eqb-true b 32 is)) (space_more bs words end s)
spaced_more false b bs is (words, (end, s)) = byte_more b bs words end (eqb-false b 32 is) s

every_line : (line : List ℕ) → IsSpaced line
every_line [] = ([], (0, record { nonempty = All-nil Inked; unbroken = All-nil Whole; parted = All-nil Led; made = refl }))
every_line (b ∷ bs) = spaced_more (eqb b 32) b bs refl (every_line bs)

pub line_cut : (line : PlainLine) → CutWhereSpaced line (words_of line)
line_cut line = record { into_those_spaced = words_cut line; always_spaced = every_line line.bytes }

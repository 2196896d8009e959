-- What cutting takes apart: a text joined of lines, a line made of words with spaces between.
use Rattle.std.specs.Prelude.{◌≡◌, ◌≢◌, ℕ, ◌+◌, ◌<◌, List, [], ◌∷◌, ◌++◌, length, take, drop, replicate, All, Some, slice_get}
use Rattle.words.specs.Positions.{PlainLine, PlainWord}

-- lines, each with byte 10 behind it
abbrev pub ended : List (List ℕ) → List ℕ
ended [] = []
ended (l ∷ ls) = l ++ 10 ∷ ended ls

-- a text is these lines, each with byte 10 behind it, and then a rest; it has no other byte 10
pub record Joined (text : List ℕ) (lines : List (List ℕ)) (rest : List ℕ) : Type 0 where
  pub lines_unbroken : All (λ l. All (λ b. b ≢ 10) l) lines
  pub rest_unbroken : All (λ b. b ≢ 10) rest
  pub made : text ≡ ended lines ++ rest

-- the rest is a line too, unless it is empty
abbrev pub with_rest : List (List ℕ) → List ℕ → List (List ℕ)
with_rest lines [] = lines
with_rest lines (b ∷ bs) = lines ++ (b ∷ bs) ∷ []

-- as many lines as these, each with its bytes and its number, from 1
pub record LinesAre (found : List PlainLine) (lines : List (List ℕ)) : Type 0 where
  pub as_many : length found ≡ length lines
  pub each : (i : ℕ) (l : List ℕ) → slice_get lines i ≡ Some l
      → slice_get found i ≡ Some (record { bytes = l; number = i + 1 })

-- a text is cut into whatever lines it is joined of, and is joined of some
pub record CutWhereJoined (text : List ℕ) (found : List PlainLine) : Type 0 where
  pub into_those_joined : (lines : List (List ℕ)) (rest : List ℕ) → Joined text lines rest
      → LinesAre found (with_rest lines rest)
  pub always_joined : (lines : List (List ℕ)) × ((rest : List ℕ) × Joined text lines rest)

-- a word and how many spaces stand in front of it
pub record SpacedWord : Type 0 where
  pub spaces : ℕ
  pub bytes : List ℕ

-- words, each behind its spaces, and so many spaces at the end
abbrev pub spaced : List SpacedWord → ℕ → List ℕ
spaced [] end = replicate end 32
spaced (w ∷ ws) end = replicate w.spaces 32 ++ (w.bytes ++ spaced ws end)

-- a line is these words: none is empty or has a space in it, and each but the first has a space in front
pub record Spaced (line : List ℕ) (words : List SpacedWord) (end : ℕ) : Type 0 where
  pub nonempty : All (λ (w : SpacedWord). 0 < length w.bytes) words
  pub unbroken : All (λ (w : SpacedWord). All (λ b. b ≢ 32) w.bytes) words
  pub parted : All (λ (w : SpacedWord). 0 < w.spaces) (drop 1 words)
  pub made : line ≡ spaced words end

-- the place of a word is 1 and the count of all bytes in front of it: the words before it, and the spaces
abbrev pub place_behind : List SpacedWord → SpacedWord → ℕ
place_behind before w = 1 + length (spaced before w.spaces)

-- as many words as these, each with its bytes, the number of the line, and its place
pub record WordsAre (found : List PlainWord) (number : ℕ) (words : List SpacedWord) : Type 0 where
  pub as_many : length found ≡ length words
  pub each : (i : ℕ) (w : SpacedWord) → slice_get words i ≡ Some w
      → slice_get found i ≡ Some (record { bytes = w.bytes; line = number; place = place_behind (take i words) w })

-- a line is cut into whatever words it is made of, and is made of some
pub record CutWhereSpaced (line : PlainLine) (found : List PlainWord) : Type 0 where
  pub into_those_spaced : (words : List SpacedWord) (end : ℕ) → Spaced line.bytes words end
      → WordsAre found line.number words
  pub always_spaced : (words : List SpacedWord) × ((end : ℕ) × Spaced line.bytes words end)

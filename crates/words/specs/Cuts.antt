-- The lines of a text and the words of a line.
use Rattle.std.specs.Prelude.{ℕ, suc, ◌+◌, cond, List, [], ◌∷◌, length, ◌==◌}
use Rattle.words.specs.declared.position.Line.{Line}
use Rattle.words.specs.declared.cut.Lines.{Lines}
use Rattle.words.specs.declared.cut.Words.{Words}
use Rattle.words.specs.Positions.{PlainLine, PlainWord, line_of}

-- one byte more in front of the first piece
abbrev pub on_first : ℕ → List (List ℕ) → List (List ℕ)
on_first b [] = (b ∷ []) ∷ []
on_first b (p ∷ ps) = (b ∷ p) ∷ ps

-- the pieces that a separator ends; the last may lack it
abbrev pub pieces : ℕ → List ℕ → List (List ℕ)
pieces separator [] = []
pieces separator (b ∷ bs) = cond (b == separator) ([] ∷ pieces separator bs) (on_first b (pieces separator bs))

abbrev pub numbered : ℕ → List (List ℕ) → List PlainLine
numbered n [] = []
numbered n (l ∷ ls) = record { bytes = l; number = n } ∷ numbered (n + 1) ls

-- byte 10 ends a line
abbrev pub text_lines : List ℕ → List PlainLine
text_lines text = numbered 1 (pieces 10 text)

-- the words among the pieces of line n, of which the first begins at place p
abbrev pub placed : ℕ → ℕ → List (List ℕ) → List PlainWord
placed n p [] = []
placed n p ([] ∷ ps) = placed n (suc p) ps
placed n p ((b ∷ w) ∷ ps) = record { bytes = b ∷ w; line = n; place = p } ∷ placed n (p + suc (length (b ∷ w))) ps

-- words are parted by spaces
abbrev pub words_of : PlainLine → List PlainWord
words_of l = placed l.number 1 (pieces 32 l.bytes)

abbrev pub line_words : Line → List PlainWord
line_words l = words_of (line_of l)

-- the lines and the words that are still to come
abbrev pub coming_lines : Lines → List PlainLine
coming_lines ls = numbered ls.number (pieces 10 ls.rest.now)

abbrev pub coming_words : Words → List PlainWord
coming_words ws = placed ws.spot.line ws.spot.place (pieces 32 ws.rest.now)

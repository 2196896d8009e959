-- A line of words, as bytes.
use Rattle.std.specs.Prelude.{ℕ, List, [], ◌∷◌, ◌++◌, map, decimal}
use Rattle.std.specs.List.{flat_map}
use Rattle.render.specs.declared.words.Word.{Word}
use Rattle.render.specs.declared.words.Word.TheVariants.{Text, Number}

-- one space and a word
abbrev pub spaced : List ℕ → List ℕ
spaced w = 32 ∷ w

-- a first word, then each further word after one space, then the end of the line
abbrev pub line : List ℕ → List (List ℕ) → List ℕ
line head ws = head ++ (flat_map spaced ws ++ (10 ∷ []))

-- a name, or a number in decimal without leading zeros
abbrev pub word_of : Word → List ℕ
word_of (Text name) = name.now
word_of (Number n) = decimal n

abbrev pub line_of : List ℕ → List Word → List ℕ
line_of head ws = line head (map word_of ws)

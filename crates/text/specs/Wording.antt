-- What a text says, apart from how it is spaced: the words of its lines.
use Rattle.std.specs.Prelude.{◌≡◌, ℕ, ◌≤◌, Bool, true, false, ◌⊎◌, ◌↔◌, List, [], ◌∷◌, map, length, Ok, Result, All, filter}
use Rattle.scheme.specs.Models.{SchemeModel}
use Rattle.words.specs.Positions.{PlainLine, PlainWord}
use Rattle.words.specs.Cuts.{words_of, text_lines}
use Rattle.text.specs.declared.fault.SchemeFault.{SchemeFault}
use Rattle.text.specs.Writing.{written_lines, Writable}

-- words without their places
abbrev pub bytes_of : List PlainWord → List (List ℕ)
bytes_of ws = map (λ (w : PlainWord). w.bytes) ws

-- the words of a line, in order
abbrev pub worded : PlainLine → List (List ℕ)
worded l = bytes_of (words_of l)

abbrev pub has_word : List (List ℕ) → Bool
has_word [] = false
has_word (w ∷ ws) = true

-- the lines of a text that have a word, each by its words
abbrev pub worded_lines : List ℕ → List (List (List ℕ))
worded_lines text = filter has_word (map worded (text_lines text))

-- they are, word by word, the lines that the scheme is written in
abbrev pub Says : List ℕ → SchemeModel → Type 0
Says text m = worded_lines text ≡ written_lines m

-- what may stand in a text: a line end, or a printable character of ASCII
abbrev pub MayStand : ℕ → Type 0
MayStand b = (b ≡ 10) ⊎ ((32 ≤ b) × (b ≤ 126))

-- a text declares m: it is not too long, of bytes that may stand in a text, and says just m; and m is within the limits
pub record Declares (text : List ℕ) (m : SchemeModel) : Type 0 where
  pub short : length text ≤ 65535
  pub bytes : All MayStand text
  pub says : Says text m
  pub within : Writable m

-- an answer, with the scheme that it leaves: a text is accepted with m exactly if it declares m
abbrev pub AcceptedExactly : List ℕ → Result SchemeModel SchemeFault → Type 0
AcceptedExactly text answer = (m : SchemeModel) → (answer ≡ Ok m) ↔ Declares text m

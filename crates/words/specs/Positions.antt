-- Lines and words without their places in memory.
use Rattle.std.specs.Prelude.{ℕ, List, [], slice_index_or}
use Rattle.words.specs.declared.position.Line.{Line}
use Rattle.words.specs.declared.position.Word.{Word}
use Rattle.words.specs.declared.position.Spot.{Spot}

pub record PlainLine : Type 0 where
  pub bytes : List ℕ
  pub number : ℕ

pub record PlainWord : Type 0 where
  pub bytes : List ℕ
  pub line : ℕ
  pub place : ℕ

abbrev pub line_of : Line → PlainLine
line_of l = record { bytes = l.bytes.now; number = l.number }

abbrev pub word_of : Word → PlainWord
word_of w = record { bytes = w.bytes.now; line = w.spot.line; place = w.spot.place }

-- where a word stands
abbrev pub spot_of : PlainWord → Spot
spot_of w = record { line = w.line; place = w.place }

abbrev pub no_word : PlainWord
no_word = record { bytes = []; line = 0; place = 0 }

-- the word at index i
abbrev pub word_in : List PlainWord → ℕ → PlainWord
word_in ws i = slice_index_or ws i no_word

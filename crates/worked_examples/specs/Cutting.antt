-- Worked examples of cutting: the lines of a text with their numbers, the words of a line with
-- their places, and which bytes and words a line may have at all.
use Rattle.std.specs.Prelude.{◌≡◌, ℕ, true, false, List, [], ◌∷◌, map, filter, codes, Ok, Err}
use Rattle.std.specs.List.{range_with_len}
use Rattle.words.specs.declared.fault.WordFault.TheVariants.{Byte, LongWord}
use Rattle.words.specs.Positions.{PlainLine, PlainWord}
use Rattle.words.specs.Cuts.{text_lines, words_of}
use Rattle.words.specs.Plain.{printable, plain_line}

-- line n with these bytes
abbrev pub line : ℕ → List ℕ → PlainLine
line n bytes = record { bytes = bytes; number = n }

-- the word of line n at this place
abbrev pub word : ℕ → ℕ → List ℕ → PlainWord
word n place bytes = record { bytes = bytes; line = n; place = place }

pub record Cutting : Type 0 where
  -- a blank line counts, and the last line may lack its end
  pub three_lines : text_lines (codes "attr a 2\n\n  right  r")
      ≡ line 1 (codes "attr a 2") ∷ line 2 [] ∷ line 3 (codes "  right  r") ∷ []
  pub last_line_ended : text_lines (codes "attr a 2\nright r\n")
      ≡ line 1 (codes "attr a 2") ∷ line 2 (codes "right r") ∷ []
  pub empty_text : text_lines [] ≡ []
  pub single_line_end : text_lines (codes "\n") ≡ line 1 [] ∷ []
  pub two_line_ends : text_lines (codes "\n\n") ≡ line 1 [] ∷ line 2 [] ∷ []
  pub space_at_the_end : text_lines (codes "a\n ") ≡ line 1 (codes "a") ∷ line 2 (codes " ") ∷ []
  -- byte 13 ends no line
  pub carriage_return : text_lines (codes "a\rb\n") ≡ line 1 (codes "a\rb") ∷ []
  -- the place of a word is that of its first byte, from 1
  pub two_words : words_of (line 3 (codes "right r"))
      ≡ word 3 1 (codes "right") ∷ word 3 7 (codes "r") ∷ []
  pub more_spaces : words_of (line 3 (codes "  right  r "))
      ≡ word 3 3 (codes "right") ∷ word 3 10 (codes "r") ∷ []
  pub three_words : words_of (line 7 (codes "a bc  def"))
      ≡ word 7 1 (codes "a") ∷ word 7 3 (codes "bc") ∷ word 7 7 (codes "def") ∷ []
  pub words_of_a_text :
      map words_of (text_lines (codes "attr a 2\n\n  right  r"))
      ≡ (word 1 1 (codes "attr") ∷ word 1 6 (codes "a") ∷ word 1 8 (codes "2") ∷ [])
      ∷ []
      ∷ (word 3 3 (codes "right") ∷ word 3 10 (codes "r") ∷ [])
      ∷ []
  pub no_word : words_of (line 2 []) ≡ []
  pub spaces_alone : words_of (line 2 (codes "   ")) ≡ []
  -- byte 9 parts no words
  pub tab : words_of (line 1 (codes "a\tb")) ≡ word 1 1 (codes "a\tb") ∷ []
  -- of all bytes a line may have those from 32 on, 95 of them; so not 9, 10, 13, 31, 127 and 255
  pub allowed_bytes : filter printable (range_with_len 0 256) ≡ range_with_len 32 95
  pub bytes_at_the_limits : map printable (31 ∷ 32 ∷ 126 ∷ 127 ∷ [])
      ≡ false ∷ true ∷ true ∷ false ∷ []
  -- a byte is at fault at its place, and the leftmost one counts
  pub byte_fault : plain_line (line 4 (codes "attr\ta 2"))
      ≡ Err (Byte (record { line = 4; place = 5 }))
  pub leftmost_byte : plain_line (line 4 (codes "ab \u{7f}\t"))
      ≡ Err (Byte (record { line = 4; place = 4 }))
  -- a word has at most 17 bytes
  pub word_of_17 : plain_line (line 4 (codes " abcdefghijklmnopq")) ≡ Ok tt
  pub word_of_18 : plain_line (line 4 (codes " abcdefghijklmnopqr"))
      ≡ Err (LongWord (record { line = 4; place = 2 }))
  pub leftmost_word : plain_line (line 4 (codes "a 0123456789abcdefgh 0123456789abcdefghi"))
      ≡ Err (LongWord (record { line = 4; place = 3 }))
  -- every byte comes before every word
  pub byte_before_word : plain_line (line 4 (codes "abcdefghijklmnopqr \t"))
      ≡ Err (Byte (record { line = 4; place = 20 }))

-- What a text must be before its lines are looked at, and the words of a line before anything else is asked.
use Rattle.std.specs.Prelude.{ℕ, ◌+◌, Bool, cond, ◌&&◌, List, length, Ok, Err, Result, nat_le}
use Rattle.words.specs.declared.fault.WordFault.{WordFault}
use Rattle.words.specs.declared.fault.WordFault.TheVariants.{LongText, Byte, LongWord}
use Rattle.words.specs.Outcomes.{and_then, in_turn}
use Rattle.words.specs.Positions.{PlainLine, PlainWord, spot_of}
use Rattle.words.specs.Cuts.{words_of}

-- a text has at most 65,535 bytes
abbrev pub short_text : List ℕ → Result (Unit {0}) WordFault
short_text text = cond (nat_le (length text) 65535) (Ok tt) (Err LongText)

abbrev pub printable : ℕ → Bool
printable b = nat_le 32 b && nat_le b 126

abbrev pub short_word : PlainWord → Bool
short_word w = nat_le (length w.bytes) 17

abbrev pub byte_check : ℕ → ℕ → ℕ → Result (Unit {0}) WordFault
byte_check n i b = cond (printable b) (Ok tt) (Err (Byte (record { line = n; place = i + 1 })))

abbrev pub length_check : ℕ → PlainWord → Result (Unit {0}) WordFault
length_check i w = cond (short_word w) (Ok tt) (Err (LongWord (spot_of w)))

abbrev pub plain_bytes : PlainLine → Result (Unit {0}) WordFault
plain_bytes l = in_turn (byte_check l.number) 0 l.bytes

abbrev pub short_words : PlainLine → Result (Unit {0}) WordFault
short_words l = in_turn length_check 0 (words_of l)

-- every byte comes before every word
abbrev pub plain_line : PlainLine → Result (Unit {0}) WordFault
plain_line l = and_then (plain_bytes l) (λ _. short_words l)

-- What `from_utf8` and `parse` make of a word that begins with 1 or a greater byte.
use Rattle.std.proofs.Common.{◌≡◌, ℕ, ◌<◌, ◌≤◌, ◌^◌, List, [], ◌∷◌, length, get_or, sym, None, Result, Ok, Err, arith}
use Rattle.std.specs.Result.{result_ok, OkIff}
use Rattle.std.specs.Str.{IsUtf8}
use Rattle.std.specs.Str.Parse.{AllDigits, digits_value, ParsesUnsigned}
use Rattle.std.proofs.lemmas.Bool.Decides.{nat_tests}
use Rattle.std.proofs.lemmas.Fmt.{IsAscii-from_digits}
use Rattle.std.proofs.lemmas.Str.{IsUtf8-from_ascii, digit_value_digit}
use Rattle.std.proofs.lemmas.Str.Parse.{digit_from_value, digits_value-take-le, parse_plain, numerals_by_value, tells_digits}
use Rattle.words.specs.Forms.{number_in}

-- digits that write a number below 256
abbrev WritesByte : List ℕ → Type 0
WritesByte w = AllDigits 10 w × (0 < length w) × (digits_value 10 w < 2 ^ 8)

number_by_digits : {E : Type 0} (w : List ℕ) (r : Result ℕ E) → OkIff r (WritesByte w) (digits_value 10 w) → 49 ≤ get_or w 0 0 → result_ok r ≡ number_in w
number_by_digits [] r h low = absurd (omega arith)
number_by_digits (a ∷ []) r h low = grind (arith, nat_tests, digit_from_value)
number_by_digits (a ∷ b ∷ []) r h low = grind (arith, nat_tests, digit_from_value)
number_by_digits (a ∷ b ∷ c ∷ []) (Ok n) h low = grind (arith, nat_tests, digit_from_value)
number_by_digits (a ∷ b ∷ c ∷ []) (Err e) h low = grind (arith, nat_tests, digit_from_value)
number_by_digits (a ∷ b ∷ c ∷ d ∷ ds) r h low = grind (arith, digit_from_value, digit_value_digit, digits_value-take-le 10 (a ∷ b ∷ c ∷ d ∷ ds) 4 (omega arith))

pub number_parsed : {E : Type 0} (w : List ℕ) (r : Result ℕ E) → ParsesUnsigned 8 10 w r → 49 ≤ get_or w 0 0 → result_ok r ≡ number_in w
number_parsed w r h low = number_by_digits w r (parse_plain (numerals_by_value _ tells_digits) 8 w r h (omega arith)) low

pub number_no_text : (w : List ℕ) → ¬ (IsUtf8 w) → 49 ≤ get_or w 0 0 → number_in w ≡ None
number_no_text w no_text low = sym (number_by_digits {E = ℕ} w (Err 0) (λ p. no_text (IsUtf8-from_ascii w (IsAscii-from_digits w p.0))) low)

-- Texts one after another, each behind its length: the length in decimal, one byte, the text, and one byte more.
use Rattle.std.specs.Prelude.{ℕ, zero, suc, ◌+◌, ◌-◌, ◌*◌, ◌^◌, min, not, List, [], ◌∷◌, length, take, drop, Option, Some, None, if◌then◌else◌, nat_lt, position}
use Rattle.std.specs.Char.{is_ascii_digit}
use Rattle.std.specs.List.{fold}
use Rattle.std.specs.Option.{option_and_then, option_map_or}
use Rattle.input.specs.declared.texts.Texts.{Texts}

-- the number that digits write
abbrev pub number : List ℕ → ℕ
number = fold (λ n d. 10 * n + (d - 48)) 0

-- the same, where it is not above the greatest length that there can be
abbrev pub capped_number : List ℕ → ℕ
capped_number = fold (λ n d. min (min (n * 10) (2 ^ 64 - 1) + (d - 48)) (2 ^ 64 - 1)) 0

-- the first `len` bytes, and what follows the byte behind them; none where no byte stands behind them
abbrev pub cut : ℕ → List ℕ → Option (List ℕ × List ℕ)
cut len bytes = if nat_lt len (length bytes) then Some (take len bytes, drop (len + 1) bytes) else None

-- the text in front, and what follows; none where no whole text stands in front
abbrev pub split_text : List ℕ → Option (List ℕ × List ℕ)
split_text bytes =
    option_and_then (λ digits. cut (number (take digits bytes)) (drop (digits + 1) bytes)) (position (λ b. not (is_ascii_digit b)) bytes)

-- the first n texts, one after another; fewer where no more stand there
abbrev pub first_texts : ℕ → List ℕ → List (List ℕ)
first_texts zero bytes = []
first_texts (suc n) bytes = option_map_or (λ (text, rest). text ∷ first_texts n rest) (split_text bytes) []

-- all of them: each takes a byte or more, so there are no more texts than bytes
abbrev pub texts_in : List ℕ → List (List ℕ)
texts_in bytes = first_texts (length bytes) bytes

-- the texts that are still to come
abbrev pub coming_texts : Texts → List (List ℕ)
coming_texts ts = texts_in ts.rest.now

-- The forms of words, by their bytes.
use Rattle.std.specs.Prelude.{ℕ, ◌+◌, ◌-◌, ◌*◌, Bool, false, cond, ◌&&◌, ◌||◌, List, [], ◌∷◌, length, Some, None, Option, ◌==◌, nat_le, nat_lt}
use Rattle.std.specs.List.{list_all}
use Rattle.scheme.specs.declared.terms.Party.{Party}
use Rattle.scheme.specs.declared.terms.Party.TheVariants.{Subject, Object}
use Rattle.scheme.specs.declared.terms.Comparison.TheVariants.{Equal, NotEqual, Less, AtMost, Greater, AtLeast}
use Rattle.words.specs.declared.token.Operator.{Operator}
use Rattle.words.specs.declared.token.Operator.TheVariants.{Compare, Dash}

-- a to z
abbrev pub lower : ℕ → Bool
lower b = nat_le 97 b && nat_le b 122

-- 0 to 9
abbrev pub digit : ℕ → Bool
digit b = nat_le 48 b && nat_le b 57

-- what may stand in a name after its first byte: a letter, a digit or _
abbrev pub name_byte : ℕ → Bool
name_byte b = lower b || (digit b || b == 95)

-- a letter, then letters, digits or _, at most 15 bytes
abbrev pub is_name : List ℕ → Bool
is_name [] = false
is_name (b ∷ bs) = lower b && (nat_le (length bs) 14 && list_all name_byte bs)

-- 0 to 255 in digits, without leading zeros
abbrev pub number_in : List ℕ → Option ℕ
number_in [] = None
number_in (a ∷ []) = cond (digit a) (Some (a - 48)) None
number_in (a ∷ b ∷ []) = cond (nat_lt 48 a && (digit a && digit b)) (Some (10 * (a - 48) + (b - 48))) None
number_in (a ∷ b ∷ c ∷ []) = cond ((nat_lt 48 a && (digit a && (digit b && digit c))) && nat_lt (100 * (a - 48) + 10 * (b - 48) + (c - 48)) 256) (Some (100 * (a - 48) + 10 * (b - 48) + (c - 48))) None
number_in (a ∷ b ∷ c ∷ d ∷ ds) = None

-- `s.` or `o.` and a name
abbrev pub term_in : List ℕ → Option (Party × List ℕ)
term_in [] = None
term_in (p ∷ []) = None
term_in (p ∷ q ∷ w) = cond (q == 46 && is_name w) (cond (p == 115) (Some (Subject, w)) (cond (p == 111) (Some (Object, w)) None)) None

-- a comparison: `=`, `!=`, `<`, `<=`, `>` or `>=`; or `-`, a form of its own in the format
abbrev pub operator_in : List ℕ → Option Operator
operator_in [] = None
operator_in (a ∷ []) = cond (a == 61) (Some (Compare Equal)) (cond (a == 60) (Some (Compare Less)) (cond (a == 62) (Some (Compare Greater)) (cond (a == 45) (Some Dash) None)))
operator_in (a ∷ b ∷ []) = cond (b == 61) (cond (a == 33) (Some (Compare NotEqual)) (cond (a == 60) (Some (Compare AtMost)) (cond (a == 62) (Some (Compare AtLeast)) None))) None
operator_in (a ∷ b ∷ c ∷ d) = None

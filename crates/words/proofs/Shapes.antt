-- The forms of a word by its parts, as a slice pattern reads them.
use Rattle.std.proofs.Common.{◌≡◌, ℕ, ◌-◌, ◌<◌, ◌≤◌, Bool, cond, ◌&&◌, eqb, leb, List, [], ◌∷◌, length, get_or, take, drop, Some, None, Option, sym, ap, arith}
use Rattle.std.specs.List.{list_all}
use Rattle.std.proofs.lemmas.List.{take_rest}
use Rattle.scheme.specs.declared.terms.Party.{Party}
use Rattle.scheme.specs.declared.terms.Party.TheVariants.{Subject, Object}
use Rattle.words.specs.Forms.{lower, name_byte, is_name, term_in}

abbrev name_parts : ℕ → List ℕ → Bool
name_parts b bs = lower b && (leb (length bs) 14 && list_all name_byte bs)

pub is_name_at : (w : List ℕ) → 0 < length w → is_name w ≡ name_parts (get_or w 0 0) (take (length w - 1) (drop 1 w))
is_name_at [] h = absurd (omega arith)
is_name_at (b ∷ bs) h = ap (name_parts b) (sym (take_rest (b ∷ bs) 1))

abbrev term_parts : ℕ → ℕ → List ℕ → Option (Party × List ℕ)
term_parts p q w = cond (eqb q 46 && is_name w) (cond (eqb p 115) (Some (Subject, w)) (cond (eqb p 111) (Some (Object, w)) None)) None

pub term_in_at : (w : List ℕ) → 2 ≤ length w → term_in w ≡ term_parts (get_or w 0 0) (get_or w 1 0) (take (length w - 2) (drop 2 w))
term_in_at [] h = absurd (omega arith)
term_in_at (p ∷ []) h = absurd (omega arith)
term_in_at (p ∷ q ∷ w) h = ap (term_parts p q) (sym (take_rest (p ∷ q ∷ w) 2))

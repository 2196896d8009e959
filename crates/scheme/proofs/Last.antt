-- The last policy of a table.
use Rattle.std.proofs.Common.{◌≡◌, ℕ, zero, suc, ◌+◌, ◌-◌, ◌≤◌, Bool, true, false, cond, List, [], ◌∷◌, map, length, Some, None, Option, get_or, take, set, slice_get, MatchOption, Bor, sym, ap, ◌∙◌, arith}
use Rattle.std.specs.Option.{option_copied}
use Rattle.std.proofs.Math.Seq.{take-set-lt}
use Rattle.std.proofs.lemmas.Option.{slice_get-get_or}
use Rattle.std.proofs.lemmas.List.{length-take-le, get_or-take}
use Rattle.scheme.specs.declared.terms.Clause.{Clause}
use Rattle.scheme.specs.declared.entries.Policy.{Policy}
use Rattle.scheme.specs.Models.{PolicyModel, policy_of, filled, last_room, last_filled}

pub last_room_at : (room : PolicyModel → Bool) (xs : List Policy) (n : ℕ) (x : Policy) → n + 1 ≡ length xs → slice_get xs n ≡ Some x → last_room room (map policy_of xs) ≡ room (policy_of x)
last_room_at room [] n x long is = cc
last_room_at room (y ∷ []) zero x long is = cc
last_room_at room (y ∷ []) (suc n) x long is = absurd (omega arith)
last_room_at room (y ∷ z ∷ ys) zero x long is = absurd (omega arith)
last_room_at room (y ∷ z ∷ ys) (suc n) x long is = last_room_at room (z ∷ ys) n x (omega arith) is

pub last_set : (clause : Clause) (r : Bool) (xs : List Policy) (n : ℕ) (x y : Policy) → n + 1 ≡ length xs → slice_get xs n ≡ Some x → policy_of y ≡ cond r (filled clause (policy_of x)) (policy_of x)
    → map policy_of (set xs n y) ≡ cond r (last_filled clause (map policy_of xs)) (map policy_of xs)
last_set clause r [] n x y long is changed = cc
last_set clause true (z ∷ []) zero x y long is changed = cc
last_set clause false (z ∷ []) zero x y long is changed = cc
last_set clause r (z ∷ []) (suc n) x y long is changed = absurd (omega arith)
last_set clause r (z ∷ w ∷ zs) zero x y long is changed = absurd (omega arith)
last_set clause true (z ∷ w ∷ zs) (suc n) x y long is changed = ap (λ l. policy_of z ∷ l) (last_set clause true (w ∷ zs) n x y (omega arith) is changed)
last_set clause false (z ∷ w ∷ zs) (suc n) x y long is changed = ap (λ l. policy_of z ∷ l) (last_set clause false (w ∷ zs) n x y (omega arith) is changed)

-- what `last` gives of a slice, asked for its room
pub last_asked : (room : PolicyModel → Bool) (xs : List Policy) (o : Option (Bor Policy)) (r : Bool) → option_copied o ≡ slice_get xs (length xs - 1) → MatchOption o (r ≡ false) (λ p. r ≡ room (policy_of p.now)) → r ≡ last_room room (map policy_of xs)
last_asked room [] None r is told = told
last_asked room [] (Some p) r is told = cc
last_asked room (y ∷ ys) None r is told = let found = slice_get-get_or (y ∷ ys) (length (y ∷ ys) - 1) y (omega arith) in cc
last_asked room (y ∷ ys) (Some p) r is told = told ∙ sym (last_room_at room (y ∷ ys) (length (y ∷ ys) - 1) p.now (omega arith) (sym is))

-- the last of the first n rows is the last policy, and what is put in its place
module _ (rows : List Policy) (n last : ℕ) (d : Policy) (within : n ≤ length rows) (is_last : last + 1 ≡ n) where
  long : last + 1 ≡ length (take n rows)
  long = omega (arith, length-take-le n rows within)

  lent : slice_get (take n rows) last ≡ Some (get_or rows last d)
  lent =
      slice_get-get_or (take n rows) last d (omega (arith, long))
      ∙ ap Some (get_or-take n rows last d (omega arith))

  pub last_asked_in : (room : PolicyModel → Bool)
      → last_room room (map policy_of (take n rows)) ≡ room (policy_of (get_or rows last d))
  last_asked_in room = last_room_at room (take n rows) last (get_or rows last d) long lent

  pub last_filled_in : (clause : Clause) (y : Policy) (r : Bool)
      → policy_of y ≡ cond r (filled clause (policy_of (get_or rows last d))) (policy_of (get_or rows last d))
      → map policy_of (take n (set rows last y))
      ≡ cond r (last_filled clause (map policy_of (take n rows))) (map policy_of (take n rows))
  last_filled_in clause y r told =
      ap (map policy_of) (take-set-lt n rows last y (omega arith))
      ∙ last_set clause r (take n rows) last (get_or rows last d) y long lent told

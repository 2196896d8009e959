-- The first piece of some bytes, the first line of a text and the first word of a line.
use Rattle.std.proofs.Common.{◌≡◌, ℕ, zero, suc, ◌+◌, ◌-◌, ◌<◌, ◌≤◌, min, Bool, true, false, cond, not, eqb, List, [], ◌∷◌, length, get_or, take, drop, sym, refl, ap, ◌∙◌, ⊎_elim, arith}
use Rattle.std.specs.List.{position_or_len}
use Rattle.std.proofs.lemmas.List.{take_rest, drop_more, drop_all, length-take-le}
use Rattle.std.proofs.lemmas.List.Sums.{prefix_len-le-length, prefix_len_stops}
use Rattle.std.proofs.lemmas.Bool.{cases_lt, not-false, not-true, eqb-true, eq-eqb}
use Rattle.words.specs.Positions.{word_in}
use Rattle.words.specs.Cuts.{on_first, pieces, numbered, placed}

-- how many bytes stand before the first separator, and how many spaces before the first word
abbrev pub end : ℕ → List ℕ → ℕ
end separator xs = position_or_len (λ b. eqb b separator) xs

abbrev pub start : List ℕ → ℕ
start xs = position_or_len (λ b. not (eqb b 32)) xs

module _ (separator : ℕ) where
  first_at : (t : Bool) (b : ℕ) (bs : List ℕ) → (0 < length bs → pieces separator bs ≡ take (end separator bs) bs ∷ pieces separator (drop (suc (end separator bs)) bs)) → cond t ([] ∷ pieces separator bs) (on_first b (pieces separator bs)) ≡ take (cond (not t) (1 + end separator bs) 0) (b ∷ bs) ∷ pieces separator (drop (suc (cond (not t) (1 + end separator bs) 0)) (b ∷ bs))
  first_at true b bs rest = refl
  first_at false b [] rest = refl
  first_at false b (c ∷ cs) rest =
      let next : suc (end separator (c ∷ cs)) ≡ 1 + end separator (c ∷ cs) = omega arith in
      ap (on_first b) (rest (omega arith)) ∙ ap (λ k. take k (b ∷ c ∷ cs) ∷ pieces separator (drop (suc k) (b ∷ c ∷ cs))) next

  pub piece_first : (xs : List ℕ) → 0 < length xs → pieces separator xs ≡ take (end separator xs) xs ∷ pieces separator (drop (suc (end separator xs)) xs)
  piece_first [] some = absurd (omega arith)
  piece_first (b ∷ bs) some = first_at (eqb b separator) b bs (piece_first bs)

  pub end_within : (xs : List ℕ) → end separator xs ≤ length xs
  end_within xs = prefix_len-le-length (λ b. not (eqb b separator)) xs

  pub end_stops : (xs : List ℕ) → end separator xs < length xs → get_or xs (end separator xs) 0 ≡ separator
  end_stops xs within = eqb-true _ separator (not-false _ (prefix_len_stops (λ b. not (eqb b separator)) xs 0 within))

-- what is cut off behind the first line is the rest of the text
pub line_first : (n : ℕ) (xs : List ℕ) (e behind : ℕ) → 0 < length xs → e ≡ end 10 xs → behind ≡ min (length xs) (length (take e xs) + 1) → numbered n (pieces 10 xs) ≡ record { bytes = take e xs; number = n } ∷ numbered (n + 1) (pieces 10 (take (length xs - behind) (drop behind xs)))
line_first n xs e behind some ends is =
    let within : e ≤ length xs = omega (arith, end_within 10 xs) in
    let long = length-take-le e xs within in
    let rest : drop (suc e) xs ≡ drop behind xs =
    ⊎_elim
    (λ (more : e < length xs). let same : suc e ≡ behind = omega arith in ap (λ k. drop k xs) same)
    (λ (all : length xs ≤ e). drop_all (suc e) xs (omega arith) ∙ sym (drop_all behind xs (omega arith)))
    (cases_lt e (length xs)) in
    ap (numbered n) (piece_first 10 xs some ∙ ap (λ k. take k xs ∷ pieces 10 (drop (suc k) xs)) (sym ends))
    ∙ ap (λ l. record { bytes = take e xs; number = n } ∷ numbered (n + 1) (pieces 10 l)) (rest ∙ sym (take_rest xs behind))

module _ (n : ℕ) where
  skipped_at : (t : Bool) (p b : ℕ) (bs : List ℕ) → placed n (suc p) (pieces 32 bs) ≡ placed n (suc p + start bs) (pieces 32 (drop (start bs) bs)) → eqb b 32 ≡ t → placed n p (pieces 32 (b ∷ bs)) ≡ placed n (p + cond (not (not t)) (1 + start bs) 0) (pieces 32 (drop (cond (not (not t)) (1 + start bs) 0) (b ∷ bs)))
  skipped_at true p b bs rest is =
      let next : suc p + start bs ≡ p + (1 + start bs) = omega arith in
      let one : suc (start bs) ≡ 1 + start bs = omega arith in
      ap (λ t. placed n p (cond t ([] ∷ pieces 32 bs) (on_first b (pieces 32 bs)))) is
      ∙ rest
      ∙ ap (λ k. placed n k (pieces 32 (drop (start bs) bs))) next
      ∙ ap (λ k. placed n (p + (1 + start bs)) (pieces 32 (drop k (b ∷ bs)))) one
  skipped_at false p b bs rest is =
      let here : p ≡ p + 0 = omega arith in
      ap (λ k. placed n k (pieces 32 (b ∷ bs))) here

  -- spaces before a word only move its place
  skipped : (p : ℕ) (xs : List ℕ) → placed n p (pieces 32 xs) ≡ placed n (p + start xs) (pieces 32 (drop (start xs) xs))
  skipped p [] = refl
  skipped p (b ∷ bs) = skipped_at (eqb b 32) p b bs (skipped (suc p) bs) refl

  -- only spaces are left
  pub words_none : (p : ℕ) (xs : List ℕ) → length xs ≤ start xs → placed n p (pieces 32 xs) ≡ []
  words_none p xs none = skipped p xs ∙ ap (λ l. placed n (p + start xs) (pieces 32 l)) (drop_all (start xs) xs none)

  placed_first : (p : ℕ) (w : List ℕ) (ps : List (List ℕ)) → 0 < length w → placed n p (w ∷ ps) ≡ record { bytes = w; line = n; place = p } ∷ placed n (suc (p + length w)) ps
  placed_first p [] ps some = absurd (omega arith)
  placed_first p (b ∷ w) ps some =
      let next : p + suc (length (b ∷ w)) ≡ suc (p + length (b ∷ w)) = omega arith in
      ap (λ k. record { bytes = b ∷ w; line = n; place = p } ∷ placed n k ps) next

  -- a word ends at a space or at the end of the line, where the search for the next one goes on
  resumed : (p : ℕ) (xs : List ℕ) → placed n (suc p) (pieces 32 (drop (suc (end 32 xs)) xs)) ≡ placed n p (pieces 32 (drop (end 32 xs) xs))
  resumed p xs =
      let e = end 32 xs in
      let next : suc e ≡ e + 1 = omega arith in
      ⊎_elim
      (λ (more : e < length xs).
      ap (λ k. placed n (suc p) (pieces 32 (drop k xs))) next
      ∙ sym (ap (λ t. placed n p (cond t ([] ∷ pieces 32 (drop (e + 1) xs)) (on_first (get_or xs e 0) (pieces 32 (drop (e + 1) xs))))) (eq-eqb _ 32 (end_stops 32 xs more)))
      ∙ sym (ap (λ l. placed n p (pieces 32 l)) (drop_more xs e 0 more)))
      (λ (all : length xs ≤ e). ap (λ l. placed n (suc p) (pieces 32 l)) (drop_all (suc e) xs (omega arith)) ∙ sym (ap (λ l. placed n p (pieces 32 l)) (drop_all e xs all)))
      (cases_lt e (length xs))

  -- a word begins where the spaces end
  word_at : (p : ℕ) (xs : List ℕ) → 0 < end 32 xs → placed n p (pieces 32 xs) ≡ record { bytes = take (end 32 xs) xs; line = n; place = p } ∷ placed n (p + length (take (end 32 xs) xs)) (pieces 32 (drop (end 32 xs) xs))
  word_at p xs some =
      let w = take (end 32 xs) xs in
      let within = end_within 32 xs in
      let long : length w ≡ end 32 xs = length-take-le (end 32 xs) xs within in
      ap (placed n p) (piece_first 32 xs (omega arith))
      ∙ placed_first p w (pieces 32 (drop (suc (end 32 xs)) xs)) (omega arith)
      ∙ ap (λ ws. record { bytes = w; line = n; place = p } ∷ ws) (resumed (p + length w) xs)

  begins : (x : ℕ) (xs : List ℕ) → eqb x 32 ≡ false → 0 < end 32 (x ∷ xs)
  begins x xs other = rw (other, end) (omega arith)

  some_word : (xs : List ℕ) → start xs < length xs → 0 < end 32 (drop (start xs) xs)
  some_word xs some =
      let x = get_or xs (start xs) 0 in
      let other : eqb x 32 ≡ false = not-true _ (not-false _ (prefix_len_stops (λ b. not (not (eqb b 32))) xs 0 some)) in
      rw (drop_more xs (start xs) 0 some) (begins x (drop (start xs + 1) xs) other)

  pub words_first : (p : ℕ) (xs : List ℕ) (k : ℕ) (from word rest : List ℕ) (e : ℕ) → start xs < length xs → start xs ≡ k → from ≡ drop k xs → e ≡ end 32 from → word ≡ take e from → rest ≡ drop e from → placed n p (pieces 32 xs) ≡ record { bytes = word; line = n; place = p + k } ∷ placed n (p + k + length word) (pieces 32 rest)
  words_first p xs k from word rest e some at is ends front back = skipped p xs ∙ rw (front, back, ends, is, ← at) (word_at (p + start xs) (drop (start xs) xs) (some_word xs some))

  -- every word is on the line that it is cut from
  pub on_its_line : (p : ℕ) (ps : List (List ℕ)) (i : ℕ) → i < length (placed n p ps) → (word_in (placed n p ps) i).line ≡ n
  on_its_line p [] i within = absurd (omega arith)
  on_its_line p ([] ∷ ps) i within = on_its_line (suc p) ps i within
  on_its_line p ((b ∷ w) ∷ ps) zero within = refl
  on_its_line p ((b ∷ w) ∷ ps) (suc i) within = on_its_line (p + suc (length (b ∷ w))) ps i (omega arith)

-- there are no more pieces than bytes
first_few : (b : ℕ) (ps : List (List ℕ)) → length (on_first b ps) ≤ 1 + length ps
first_few b [] = omega arith
first_few b (p ∷ ps) = omega arith

on_few : (separator : ℕ) (t : Bool) (b : ℕ) (bs : List ℕ) → length (pieces separator bs) ≤ length bs
    → length (cond t ([] ∷ pieces separator bs) (on_first b (pieces separator bs))) ≤ suc (length bs)
on_few separator true b bs h = omega arith
on_few separator false b bs h = omega (arith, first_few b (pieces separator bs))

pub pieces_few : (separator : ℕ) (xs : List ℕ) → length (pieces separator xs) ≤ length xs
pieces_few separator [] = omega arith
pieces_few separator (b ∷ bs) = on_few separator (eqb b separator) b bs (pieces_few separator bs)

-- Bytes are cut into lines and words in one way only, where words have no spaces and no line ends.
use Rattle.std.proofs.Common.{◌≡◌, ℕ, ◌<◌, ◌≤◌, List, [], ◌∷◌, ◌++◌, sym, refl, ap, ap₂, ◌∙◌, append_assoc, arith}
use Rattle.std.specs.List.{AllByRecursion, flat_map}
use Rattle.render.specs.Lines.{spaced, line}

-- every byte comes after the space and the line end
abbrev pub Solid : List ℕ → Type 0
Solid w = AllByRecursion (λ b. 32 < b) w

-- a word ends before the first byte that is none of its own
word_apart : (v w r s : List ℕ) (c d : ℕ) → Solid v → Solid w → c ≤ 32 → d ≤ 32 → v ++ c ∷ r ≡ w ++ d ∷ s → (v ≡ w) × ((c ≡ d) × (r ≡ s))
word_apart [] [] r s c d solid solid' low low' same = (refl, (cc, cc))
word_apart [] (b ∷ w) r s c d solid solid' low low' same = let first : c ≡ b = cc in absurd (omega (arith, solid'.0))
word_apart (a ∷ v) [] r s c d solid solid' low low' same = let first : a ≡ d = cc in absurd (omega (arith, solid.0))
word_apart (a ∷ v) (b ∷ w) r s c d solid solid' low low' same =
    let first : a ≡ b = cc in
    let parts = word_apart v w r s c d solid.1 solid'.1 low low' cc in
    (ap₂ (λ x l. x ∷ l) first parts.0, parts.1)

-- the further words of a line, and what stands below it
further : List (List ℕ) → List ℕ → List ℕ
further [] below = 10 ∷ below
further (w ∷ ws) below = 32 ∷ (w ++ further ws below)

further_words : (ws : List (List ℕ)) (below : List ℕ) → (flat_map spaced ws ++ (10 ∷ [])) ++ below ≡ further ws below
unfolding further
further_words [] below = refl
further_words (w ∷ ws) below =
    ap (λ l. 32 ∷ l)
    (ap (λ (l : List ℕ). l ++ below) (append_assoc w (flat_map spaced ws) (10 ∷ []))
    ∙ append_assoc w (flat_map spaced ws ++ (10 ∷ [])) below
    ∙ ap (λ (l : List ℕ). w ++ l) (further_words ws below))

words_apart : (v w : List ℕ) (vs ws : List (List ℕ)) (r s : List ℕ) → Solid v → Solid w → AllByRecursion Solid vs → AllByRecursion Solid ws
    → v ++ further vs r ≡ w ++ further ws s → (v ≡ w) × ((vs ≡ ws) × (r ≡ s))
unfolding further
words_apart v w [] [] r s solid solid' all all' same =
    let parts = word_apart v w r s 10 10 solid solid' (omega arith) (omega arith) same in
    (parts.0, (refl, parts.1.1))
words_apart v w [] (y ∷ ws) r s solid solid' all all' same =
    let parts = word_apart v w r (y ++ further ws s) 10 32 solid solid' (omega arith) (omega arith) same in
    absurd (omega (arith, parts.1.0))
words_apart v w (x ∷ vs) [] r s solid solid' all all' same =
    let parts = word_apart v w (x ++ further vs r) s 32 10 solid solid' (omega arith) (omega arith) same in
    absurd (omega (arith, parts.1.0))
words_apart v w (x ∷ vs) (y ∷ ws) r s solid solid' all all' same =
    let parts = word_apart v w (x ++ further vs r) (y ++ further ws s) 32 32 solid solid' (omega arith) (omega arith) same in
    let rest = words_apart x y vs ws r s all.0 all'.0 all.1 all'.1 parts.1.1 in
    (parts.0, (ap₂ (λ z l. z ∷ l) rest.0 rest.1.0, rest.1.1))

-- two lines with what stands below them
pub lines_apart : (v w : List ℕ) (vs ws : List (List ℕ)) (r s : List ℕ) → AllByRecursion Solid (v ∷ vs) → AllByRecursion Solid (w ∷ ws)
    → line v vs ++ r ≡ line w ws ++ s → (v ≡ w) × ((vs ≡ ws) × (r ≡ s))
lines_apart v w vs ws r s all all' same =
    words_apart v w vs ws r s all.0 all'.0 all.1 all'.1 (sym (opened v vs r) ∙ same ∙ opened w ws s)
  where
    opened : (v : List ℕ) (vs : List (List ℕ)) (r : List ℕ) → line v vs ++ r ≡ v ++ further vs r
    opened v vs r = append_assoc v (flat_map spaced vs ++ (10 ∷ [])) r ∙ ap (λ (l : List ℕ). v ++ l) (further_words vs r)

-- A written text is cut into the lines and the words that it was written from; and what a line of given words passes.
use Rattle.std.proofs.Common.{◌≡◌, ◌≢◌, ℕ, suc, ◌+◌, ◌*◌, ◌<◌, ◌≤◌, Bool, true, ◌&&◌, ltb, leb, List, [], ◌∷◌, ◌++◌, length, Ok, Result, refl, ap, ◌∙◌, arith}
use Rattle.std.specs.List.{list_all, AllByRecursion}
use Rattle.std.proofs.lemmas.List.{length-append}
use Rattle.std.proofs.lemmas.List.Sums.{AllPass-from_list_all}
use Rattle.std.proofs.lemmas.List.Elements.{All-weaker}
use Rattle.std.proofs.lemmas.Bool.{and_parts, and_from, cond-true, leb-true, ltb-true, le-leb}
use Rattle.words.specs.Outcomes.{and_then, in_turn}
use Rattle.words.specs.declared.position.Spot.{Spot}
use Rattle.words.specs.Positions.{PlainLine, PlainWord, spot_of, word_in}
use Rattle.words.specs.Cuts.{pieces, placed, words_of}
use Rattle.words.specs.Plain.{printable, byte_check, length_check, short_words, plain_line}
use Rattle.words.proofs.Joins.{Unbroken, piece_ended, piece_last}
use Rattle.text.specs.Writing.{parted}
use Rattle.text.specs.Wording.{bytes_of, worded, has_word}

-- a step that does not refuse
pub passes : {A B E : Type 0} (r : Result A E) (x : A) (f : A → Result B E) → r ≡ Ok x → and_then r f ≡ f x
passes r x f h = ap (λ s. and_then s f) h

-- bytes that pass a test which the separator does not pass
unbroken : (separator : ℕ) (test : ℕ → Bool) → ((b : ℕ) → test b ≡ true → b ≢ separator) → (w : List ℕ) → list_all test w ≡ true → Unbroken separator w
unbroken separator test away w h = All-weaker (λ b. test b ≡ true) (λ b. b ≢ separator) away w (AllPass-from_list_all test w h)

-- what the words of a written text are made of: neither spaces nor line ends
abbrev pub inked : ℕ → Bool
inked b = ltb 32 b && leb b 126

pub record Inked (w : List ℕ) : Type 0 where
  pub some : 0 < length w
  pub short : length w ≤ 17
  pub bytes : list_all inked w ≡ true

-- the same as a test, for words that are written out
abbrev pub inked_word : List ℕ → Bool
inked_word w = ltb 0 (length w) && (leb (length w) 17 && list_all inked w)

pub spelled : (w : List ℕ) → inked_word w ≡ true → Inked w
spelled w h =
    let some = and_parts (ltb 0 (length w)) (leb (length w) 17 && list_all inked w) h in
    let short = and_parts (leb (length w) 17) (list_all inked w) some.1 in
    record { some = ltb-true 0 (length w) some.0; short = leb-true (length w) 17 short.0; bytes = short.1 }

inked_parts : (b : ℕ) → inked b ≡ true → (32 < b) × (b ≤ 126)
inked_parts b h = let parts = and_parts (ltb 32 b) (leb b 126) h in (ltb-true 32 b parts.0, leb-true b 126 parts.1)

no_space : (w : List ℕ) → list_all inked w ≡ true → Unbroken 32 w
no_space = unbroken 32 inked (λ b h e. let parts = inked_parts b h in omega arith)

no_end : (w : List ℕ) → list_all printable w ≡ true → Unbroken 10 w
no_end = unbroken 10 printable (λ b h e. let parts = and_parts (leb 32 b) (leb b 126) h in omega (arith, leb-true 32 b parts.0))

inked_printable : (w : List ℕ) → list_all inked w ≡ true → list_all printable w ≡ true
inked_printable [] h = refl
inked_printable (b ∷ bs) h =
    let parts = and_parts (inked b) (list_all inked bs) h in
    let range = inked_parts b parts.0 in
    and_from (printable b) (list_all printable bs) (and_from (leb 32 b) (leb b 126) (le-leb 32 b (omega arith)) (le-leb b 126 range.1)) (inked_printable bs parts.1)

printable_joined : (w rest : List ℕ) → list_all printable w ≡ true → list_all printable rest ≡ true → list_all printable (w ++ rest) ≡ true
printable_joined [] rest h k = k
printable_joined (b ∷ bs) rest h k =
    let parts = and_parts (printable b) (list_all printable bs) h in
    and_from (printable b) (list_all printable (bs ++ rest)) parts.0 (printable_joined bs rest parts.1 k)

pub parted_printable : (ws : List (List ℕ)) → AllByRecursion Inked ws → list_all printable (parted ws) ≡ true
parted_printable [] all = refl
parted_printable (w ∷ []) all = inked_printable w all.0.bytes
parted_printable (w ∷ v ∷ ws) all = printable_joined w (32 ∷ parted (v ∷ ws)) (inked_printable w all.0.bytes) (parted_printable (v ∷ ws) all.1)

pub parted_length : (ws : List (List ℕ)) → AllByRecursion Inked ws → length (parted ws) ≤ 18 * length ws
parted_length [] all = omega arith
parted_length (w ∷ []) all = let short = all.0.short in omega arith
parted_length (w ∷ v ∷ ws) all =
    let short = all.0.short in
    let rest = parted_length (v ∷ ws) all.1 in
    omega (arith, length-append w (32 ∷ parted (v ∷ ws)))

parted_pieces : (ws : List (List ℕ)) → AllByRecursion Inked ws → pieces 32 (parted ws) ≡ ws
parted_pieces [] all = refl
parted_pieces ([] ∷ []) all = let some = all.0.some in absurd (omega arith)
parted_pieces ((b ∷ w) ∷ []) all = piece_last 32 b w (no_space (b ∷ w) all.0.bytes)
parted_pieces (w ∷ v ∷ ws) all = piece_ended 32 w (parted (v ∷ ws)) (no_space w all.0.bytes) ∙ ap (λ l. w ∷ l) (parted_pieces (v ∷ ws) all.1)

placed_bytes : (n p : ℕ) (ws : List (List ℕ)) → AllByRecursion Inked ws → bytes_of (placed n p ws) ≡ ws
placed_bytes n p [] all = refl
placed_bytes n p ([] ∷ ws) all = let some = all.0.some in absurd (omega arith)
placed_bytes n p ((b ∷ w) ∷ ws) all = ap (λ l. (b ∷ w) ∷ l) (placed_bytes n (p + suc (length (b ∷ w))) ws all.1)

module _ (ws : List (List ℕ)) (all : AllByRecursion Inked ws) where
  pub words_again : (n : ℕ) → worded (record { bytes = parted ws; number = n }) ≡ ws
  words_again n = ap (λ ps. bytes_of (placed n 1 ps)) (parted_pieces ws all) ∙ placed_bytes n 1 ws all

  pub line_again : (rest : List ℕ) → pieces 10 (parted ws ++ 10 ∷ rest) ≡ parted ws ∷ pieces 10 rest
  line_again rest = piece_ended 10 (parted ws) rest (no_end (parted ws) (parted_printable ws all))

pub some_word : (ws : List (List ℕ)) → 0 < length ws → has_word ws ≡ true
some_word [] some = absurd (omega arith)
some_word (w ∷ ws) some = refl

-- a line of printable bytes, whose words are short

abbrev pub PrintableLine : PlainLine → Type 0
PrintableLine l = list_all printable l.bytes ≡ true

bytes_pass : (n i : ℕ) (bs : List ℕ) → list_all printable bs ≡ true → in_turn (byte_check n) i bs ≡ Ok tt
bytes_pass n i [] h = refl
bytes_pass n i (b ∷ bs) h =
    let parts = and_parts (printable b) (list_all printable bs) h in
    passes (byte_check n i b) tt (λ _. in_turn (byte_check n) (i + 1) bs) (cond-true (printable b) _ _ parts.0) ∙ bytes_pass n (i + 1) bs parts.1

lengths_pass : (i : ℕ) (vs : List PlainWord) → AllByRecursion Inked (bytes_of vs) → in_turn length_check i vs ≡ Ok tt
lengths_pass i [] all = refl
lengths_pass i (v ∷ vs) all =
    passes (length_check i v) tt (λ _. in_turn length_check (i + 1) vs) (cond-true (leb (length v.bytes) 17) _ _ (le-leb (length v.bytes) 17 all.0.short))
    ∙ lengths_pass (i + 1) vs all.1

pub line_plain : (l : PlainLine) → PrintableLine l → AllByRecursion Inked (worded l) → plain_line l ≡ Ok tt
line_plain l plain all = ap (λ r. and_then r (λ _. short_words l)) (bytes_pass l.number 0 l.bytes plain) ∙ lengths_pass 0 (words_of l) all

-- words with their bytes, each where it stands

abbrev pub standing : (ℕ → Spot) → List (List ℕ) → List PlainWord
standing at [] = []
standing at (w ∷ ws) = record { bytes = w; line = (at 0).line; place = (at 0).place } ∷ standing (λ i. at (suc i)) ws

abbrev pub spots : PlainLine → ℕ → Spot
spots l i = spot_of (word_in (words_of l) i)

all_stand : (vs : List PlainWord) → vs ≡ standing (λ i. spot_of (word_in vs i)) (bytes_of vs)
all_stand [] = refl
all_stand (v ∷ vs) = ap (λ l. v ∷ l) (all_stand vs)

pub words_stand : (l : PlainLine) (ws : List (List ℕ)) → worded l ≡ ws → words_of l ≡ standing (spots l) ws
words_stand l ws says = all_stand (words_of l) ∙ ap (standing (spots l)) says

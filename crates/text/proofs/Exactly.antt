-- A text is read as m exactly if it is short, of bytes that may stand in a text, and says just the lines of m.
use Rattle.std.proofs.Common.{◌≡◌, ℕ, ◌+◌, true, false, eqb, leb, ◌↔◌, List, [], ◌∷◌, length, Ok, Result, All, sym, refl, ◌∙◌, inl, inr}
use Rattle.std.specs.List.{list_all, AllByRecursion}
use Rattle.std.proofs.lemmas.List.Elements.{All-nil, All-cons, All-head, All-tail}
use Rattle.std.proofs.lemmas.Bool.{and_parts, and_from, cond_both, eqb-true, eqb-false, le-leb, leb-true}
use Rattle.scheme.specs.Models.{SchemeModel}
use Rattle.words.specs.Outcomes.{in_turn}
use Rattle.words.specs.Positions.{PlainLine}
use Rattle.words.specs.Cuts.{on_first, pieces, numbered, text_lines}
use Rattle.words.specs.Plain.{printable, byte_check, plain_bytes, short_words}
use Rattle.text.specs.declared.fault.SchemeFault.{SchemeFault}
use Rattle.text.specs.Reading.{Progress, start, read_line, read_lines, reading}
use Rattle.text.specs.Wording.{MayStand, Declares}
use Rattle.text.proofs.Limits.{reading_writable}
use Rattle.text.proofs.Named.{range_means}
use Rattle.text.proofs.WritingCut.{PrintableLine}
use Rattle.text.proofs.WritingWhole.{reads_words}
use Rattle.text.proofs.Steps.{step_passed, test_passed}
use Rattle.text.proofs.Wording.{line_passed, says_what_it_declares}

abbrev PrintablePiece : List ℕ → Type 0
PrintablePiece w = list_all printable w ≡ true

-- bytes and the lines that they are cut into

on_first_printable : (b : ℕ) (ps : List (List ℕ)) → printable b ≡ true → AllByRecursion PrintablePiece ps → AllByRecursion PrintablePiece (on_first b ps)
on_first_printable b [] h all = (and_from (printable b) true h refl, tt)
on_first_printable b (p ∷ ps) h all = (and_from (printable b) (list_all printable p) h all.0, all.1)

first_printable : (b : ℕ) (ps : List (List ℕ)) → AllByRecursion PrintablePiece (on_first b ps) → (printable b ≡ true) × AllByRecursion PrintablePiece ps
first_printable b [] all = ((and_parts (printable b) true all.0).0, tt)
first_printable b (p ∷ ps) all = let parts = and_parts (printable b) (list_all printable p) all.0 in (parts.0, (parts.1, all.1))

in_line : (b : ℕ) → eqb b 10 ≡ false → MayStand b → printable b ≡ true
in_line b other (inl ends) = absurd (eqb-false b 10 other ends)
in_line b other (inr (low, high)) = and_from (leb 32 b) (leb b 126) (le-leb 32 b low) (le-leb b 126 high)

pieces_printable : (bs : List ℕ) → All MayStand bs → AllByRecursion PrintablePiece (pieces 10 bs)
pieces_printable [] all = tt
pieces_printable (b ∷ bs) all =
    let rest = pieces_printable bs (All-tail MayStand b bs all) in
    cond_both (eqb b 10) ([] ∷ pieces 10 bs) (on_first b (pieces 10 bs)) (AllByRecursion PrintablePiece)
    (λ _. (refl, rest))
    (λ other. on_first_printable b (pieces 10 bs) (in_line b other (All-head MayStand b bs all)) rest)

may_stand : (bs : List ℕ) → AllByRecursion PrintablePiece (pieces 10 bs) → All MayStand bs
may_stand [] all = All-nil MayStand
may_stand (b ∷ bs) whole =
    cond_both (eqb b 10) ([] ∷ pieces 10 bs) (on_first b (pieces 10 bs)) (λ ps. AllByRecursion PrintablePiece ps → All MayStand (b ∷ bs))
    (λ ends all. All-cons MayStand b bs (inl (eqb-true b 10 ends)) (may_stand bs all.1))
    (λ _ all.
    let (here, rest) = first_printable b (pieces 10 bs) all in
    All-cons MayStand b bs (inr (range_means 32 126 b here)) (may_stand bs rest))
    whole

lines_printable : (n : ℕ) (ps : List (List ℕ)) → AllByRecursion PrintablePiece ps → AllByRecursion PrintableLine (numbered n ps)
lines_printable n [] all = tt
lines_printable n (p ∷ ps) all = (all.0, lines_printable (n + 1) ps all.1)

pieces_of_lines : (n : ℕ) (ps : List (List ℕ)) → AllByRecursion PrintableLine (numbered n ps) → AllByRecursion PrintablePiece ps
pieces_of_lines n [] all = tt
pieces_of_lines n (p ∷ ps) all = (all.0, pieces_of_lines (n + 1) ps all.1)

-- the lines of a text that is read

bytes_read : (n i : ℕ) (bs : List ℕ) → in_turn (byte_check n) i bs ≡ Ok tt → list_all printable bs ≡ true
bytes_read n i [] h = refl
bytes_read n i (b ∷ bs) h =
    let (u, (here, rest)) = step_passed (byte_check n i b) (λ _. in_turn (byte_check n) (i + 1) bs) tt h in
    and_from (printable b) (list_all printable bs) (test_passed (printable b) (Ok tt) _ tt here).0 (bytes_read n (i + 1) bs rest)

line_read : (p q : Progress) (l : PlainLine) → read_line p l ≡ Ok q → PrintableLine l
line_read p q l h =
    let (o, (plain, formed, read)) = line_passed p l q h in
    let (u, (bytes, words)) = step_passed (plain_bytes l) (λ _. short_words l) tt plain in
    bytes_read l.number 0 l.bytes bytes

lines_read : (n : ℕ) (ls : List PlainLine) (p : Progress) (m : SchemeModel) → read_lines n ls p ≡ Ok m → AllByRecursion PrintableLine ls
lines_read n [] p m h = tt
lines_read n (l ∷ ls) p m h =
    let (q, (line, rest)) = step_passed (read_line p l) (read_lines (n + 1) ls) m h in
    (line_read p q l line, lines_read (n + 1) ls q m rest)

module _ (text : List ℕ) (m : SchemeModel) where
  declares : reading text ≡ Ok m → Declares text m
  declares h =
      let (short, read) = test_passed (leb (length text) 65535) (read_lines 1 (text_lines text) start) _ m h in
      record {
        short = leb-true (length text) 65535 short;
        bytes = may_stand text (pieces_of_lines 1 (pieces 10 text) (lines_read 1 (text_lines text) start m read));
        says = says_what_it_declares text m h;
        within = reading_writable text m h;
      }

  is_read : Declares text m → reading text ≡ Ok m
  is_read d = reads_words m d.within text d.short (lines_printable 1 (pieces 10 text) (pieces_printable text d.bytes)) d.says

  pub accepted_exactly : (answer : Result SchemeModel SchemeFault) → answer ≡ reading text → (answer ≡ Ok m) ↔ Declares text m
  accepted_exactly answer is = (λ ok. declares (sym is ∙ ok), λ d. is ∙ is_read d)

-- A report is read in one way only: what its words stand for gives the answers again.
use Rattle.std.proofs.Common.{◌≡◌, ℕ, ◌<◌, ◌≢◌, Bool, true, false, List, [], ◌∷◌, ◌++◌, length, All, codes, decimal, sym, refl, ap, ap₂, ◌∙◌, subst, append_assoc, arith}
use Rattle.std.specs.List.{AllByRecursion, flat_map}
use Rattle.std.proofs.lemmas.List.{append_cancel_left}
use Rattle.std.proofs.lemmas.List.Elements.{All-nil, All-head, All-tail}
use Rattle.std.proofs.lemmas.Fmt.{decimal_injective}
use Rattle.scheme.specs.declared.entries.Query.{Query}
use Rattle.scheme.specs.Models.{SchemeModel}
use Rattle.scheme.specs.Counts.{move_count}
use Rattle.words.specs.declared.fault.Report.{Report}
use Rattle.protection.specs.Answers.{Said}
use Rattle.record.specs.Systems.{scheme_system}
use Rattle.text.specs.Writing.{QueryFits, Writable}
use Rattle.render.specs.Lines.{line}
use Rattle.render.proofs.Apart.{Solid, lines_apart}
use Rattle.report.specs.Names.{object_name, right_name}
use Rattle.report.specs.Moves.{by_line}
use Rattle.report.specs.Answers.{refused_line, query_line, verdict_line}
use Rattle.report.specs.Reports.{scheme_line}
use Rattle.report.specs.Printed.{verdict_word}
use Rattle.report.specs.Readings.{Answer, verdict, refusal, lines_of, Numbered, Fits, ReadOneWay}
use Rattle.report.proofs.Spelled.{decimal_solid, spelled_solid, verdict_solid, first, verdict_one, no_verdict, object_solid, object_one, right_solid, right_one, move_words, move_solid, move_one}

-- refusals

abbrev report_words : Report → List (List ℕ)
report_words r = decimal r.number ∷ decimal r.line ∷ decimal r.place ∷ []

report_solid : (r : Report) → Numbered r → AllByRecursion Solid (codes "refused" ∷ report_words r)
report_solid r h =
    (spelled_solid (codes "refused") refl, (decimal_solid r.number h.number, (decimal_solid r.line h.line, (decimal_solid r.place h.place, tt))))

report_one : (r t : Report) → Numbered r → Numbered t → report_words r ≡ report_words t → r ≡ t
report_one r t h k same =
    let number : r.number ≡ t.number = decimal_injective r.number t.number h.number k.number cc in
    let line : r.line ≡ t.line = decimal_injective r.line t.line h.line k.line cc in
    let place : r.place ≡ t.place = decimal_injective r.place t.place h.place k.place cc in
    λ i. record { number = number i; line = line i; place = place i }

pub refusal_one : (r t : Report) → Numbered r → Numbered t → refused_line r ≡ refused_line t → r ≡ t
refusal_one r t h k same =
    report_one r t h k
    (lines_apart (codes "refused") (codes "refused") (report_words r) (report_words t) [] [] (report_solid r h) (report_solid t k) (ap (λ (l : List ℕ). l ++ []) same)).1.0

-- what may stand below the moves of a verdict: nothing, or a line that begins with another word than `by`
Ends : List ℕ → Type 0
Ends [] = Unit {0}
Ends (b ∷ bs) = b ≢ 98

module _ (m : SchemeModel) (w : Writable m) where
  abbrev Low : ℕ → Type 0
  Low v = v < move_count m

  moves_apart : (vs us r s : List ℕ) → All Low vs → All Low us → Ends r → Ends s
      → flat_map (by_line m) vs ++ r ≡ flat_map (by_line m) us ++ s → (vs ≡ us) × (r ≡ s)
  unfolding Ends
  moves_apart [] [] r s low low' end end' same = (refl, same)
  moves_apart [] (u ∷ us) r s low low' end end' same = absurd (subst Ends same end refl)
  moves_apart (v ∷ vs) [] r s low low' end end' same = absurd (subst Ends (sym same) end' refl)
  moves_apart (v ∷ vs) (u ∷ us) r s low low' end end' same =
      let h = All-head Low v vs low in
      let k = All-head Low u us low' in
      let cut = lines_apart (codes "by") (codes "by") (move_words m v) (move_words m u) (flat_map (by_line m) vs ++ r) (flat_map (by_line m) us ++ s) (move_solid m w v h) (move_solid m w u k)
      (sym (append_assoc (by_line m v) (flat_map (by_line m) vs) r) ∙ same ∙ append_assoc (by_line m u) (flat_map (by_line m) us) s) in
      let rest = moves_apart vs us r s (All-tail Low v vs low) (All-tail Low u us low') end end' cut.1.1 in
      (ap₂ (λ x l. x ∷ l) (move_one m w v u h k cut.1.0) rest.0, rest.1)

  -- the first line of an answer, by its words, and the moves below it

  abbrev head_of : Answer → List ℕ
  head_of (verdict q said moves) = verdict_word said.leaks
  head_of (refusal r) = codes "refused"

  abbrev words_of : Answer → List (List ℕ)
  words_of (verdict q said moves) = object_name m q.subject ∷ object_name m q.object ∷ right_name m q.right ∷ decimal said.found ∷ decimal said.tried ∷ []
  words_of (refusal r) = report_words r

  abbrev moves_of : Answer → List ℕ
  moves_of (verdict q said moves) = moves
  moves_of (refusal r) = []

  in_parts : (x : Answer) (r : List ℕ) → lines_of m x ++ r ≡ line (head_of x) (words_of x) ++ (flat_map (by_line m) (moves_of x) ++ r)
  in_parts (verdict q said moves) r = append_assoc (verdict_line m q said) (flat_map (by_line m) moves) r
  in_parts (refusal t) r = refl

  all_solid : (x : Answer) → Fits m x → AllByRecursion Solid (head_of x ∷ words_of x)
  all_solid (verdict q said moves) h =
      (verdict_solid said.leaks, (object_solid m w q.subject h.asked.subject, (object_solid m w q.object h.asked.object, (right_solid m w q.right h.asked.right, (decimal_solid said.found h.found, (decimal_solid said.tried h.tried, tt))))))
  all_solid (refusal r) h = report_solid r h

  moves_low : (x : Answer) → Fits m x → All Low (moves_of x)
  moves_low (verdict q said moves) h = h.of_scheme
  moves_low (refusal r) h = All-nil Low

  -- the parts give the answer

  query_one : (q p : Query) → QueryFits (length m.objects) (length m.rights) q → QueryFits (length m.objects) (length m.rights) p
      → object_name m q.subject ≡ object_name m p.subject → object_name m q.object ≡ object_name m p.object → right_name m q.right ≡ right_name m p.right → q ≡ p
  query_one q p h k subject object right i = record {
    subject = object_one m w q.subject p.subject h.subject k.subject subject i;
    object = object_one m w q.object p.object h.object k.object object i;
    right = right_one m w q.right p.right h.right k.right right i;
  }

  said_one : (a b : Said) → a.leaks ≡ b.leaks → a.found ≡ b.found → a.tried ≡ b.tried → a.length ≡ b.length → a ≡ b
  said_one a b leaks found tried long i = record { leaks = leaks i; found = found i; tried = tried i; length = long i }

  answer_one : (x y : Answer) → Fits m x → Fits m y → head_of x ≡ head_of y → words_of x ≡ words_of y → moves_of x ≡ moves_of y → x ≡ y
  answer_one (verdict q a vs) (verdict p b us) h k head words moves =
      let query = query_one q p h.asked k.asked (cc) (cc) (cc) in
      let found = decimal_injective a.found b.found h.found k.found cc in
      let tried = decimal_injective a.tried b.tried h.tried k.tried cc in
      let said = said_one a b (verdict_one a.leaks b.leaks head) found tried (h.as_many ∙ ap length moves ∙ sym k.as_many) in
      λ i. verdict (query i) (said i) (moves i)
  answer_one (verdict q a vs) (refusal t) h k head words moves = absurd (no_verdict a.leaks head)
  answer_one (refusal t) (verdict p b us) h k head words moves = absurd (no_verdict b.leaks (sym head))
  answer_one (refusal r) (refusal t) h k head words moves = ap refusal (report_one r t h k words)

  answer_apart : (x y : Answer) (r s : List ℕ) → Fits m x → Fits m y → Ends r → Ends s → lines_of m x ++ r ≡ lines_of m y ++ s → (x ≡ y) × (r ≡ s)
  answer_apart x y r s h k end end' same =
      let cut = lines_apart (head_of x) (head_of y) (words_of x) (words_of y) (flat_map (by_line m) (moves_of x) ++ r) (flat_map (by_line m) (moves_of y) ++ s) (all_solid x h) (all_solid y k)
      (sym (in_parts x r) ∙ same ∙ in_parts y s) in
      let moves = moves_apart (moves_of x) (moves_of y) r s (moves_low x h) (moves_low y k) end end' cut.1.1 in
      (answer_one x y h k cut.0 cut.1.0 moves.0, moves.1)

  -- an answer has a line, which begins with another word than `by`
  begins : (x : Answer) (r : List ℕ) → (0 < length (lines_of m x ++ r)) × Ends (lines_of m x ++ r)
  unfolding Ends
  begins (verdict q said moves) r = by_word said.leaks
    where
      by_word : (leaks : Bool)
          → let lines = (query_line (verdict_word leaks) m q said.found said.tried ++ flat_map (by_line m) moves) ++ r in (0 < length lines) × Ends lines
      by_word true = (omega arith, λ is. omega arith)
      by_word false = (omega arith, λ is. omega arith)
  begins (refusal t) r = (omega arith, λ is. omega arith)

  ends : (xs : List Answer) → Ends (flat_map (lines_of m) xs)
  unfolding Ends
  ends [] = tt
  ends (x ∷ xs) = (begins x (flat_map (lines_of m) xs)).1

  answers_apart : (xs ys : List Answer) → All (Fits m) xs → All (Fits m) ys → flat_map (lines_of m) xs ≡ flat_map (lines_of m) ys → xs ≡ ys
  answers_apart [] [] fit fit' same = refl
  answers_apart [] (y ∷ ys) fit fit' same = absurd (omega (arith, (begins y (flat_map (lines_of m) ys)).0, ap length same))
  answers_apart (x ∷ xs) [] fit fit' same = absurd (omega (arith, (begins x (flat_map (lines_of m) xs)).0, ap length same))
  answers_apart (x ∷ xs) (y ∷ ys) fit fit' same =
      let cut = answer_apart x y (flat_map (lines_of m) xs) (flat_map (lines_of m) ys) (All-head (Fits m) x xs fit) (All-head (Fits m) y ys fit') (ends xs) (ends ys) same in
      ap₂ (λ z l. z ∷ l) cut.0 (answers_apart xs ys (All-tail (Fits m) x xs fit) (All-tail (Fits m) y ys fit') cut.1)

  pub read_one_way : ReadOneWay m
  unfolding Ends
  read_one_way = record {
    answer = λ x y h k same. (answer_apart x y [] [] h k tt tt (ap (λ (l : List ℕ). l ++ []) same)).0;
    answers = λ xs ys fit fit' same. answers_apart xs ys fit fit' (append_cancel_left (scheme_line (scheme_system m)) (flat_map (lines_of m) xs) (flat_map (lines_of m) ys) same);
    no_refusal = λ xs r same. omega (arith, ap first same);
  }

-- What is printed of a text keeps what is promised: the lines by their words, and the safety promise of each answer.
use Rattle.std.proofs.Common.{◌≡◌, ℕ, zero, suc, ◌<◌, Bool, true, false, cond, List, [], ◌∷◌, ◌++◌, map, length, get_or, All, codes, decimal, ◌/◌, ◌%◌, ◌*◌, Ok, Err, Some, Result, refl, sym, ap, ap₂, ◌∙◌, subst, append_assoc, inl, inr, arith}
use Rattle.std.specs.Fmt.{digits}
use Rattle.std.specs.List.{flat_map, slice_get}
use Rattle.std.proofs.lemmas.Bool.{false≢true, leb-true, leb-false}
use Rattle.std.proofs.lemmas.List.{get_or-map, length-map}
use Rattle.std.proofs.lemmas.Option.{none-some}
use Rattle.scheme.specs.declared.entries.Query.{Query}
use Rattle.scheme.specs.Models.{SchemeModel}
use Rattle.scheme.specs.Counts.{move_count}
use Rattle.walk.specs.Walks.{Bounds}
use Rattle.walk.specs.Search.{Outcome, stopped, exhausted}
use Rattle.walk.specs.Results.{ending_of, found_of, witness_of, large_enough}
use Rattle.walk.proofs.Law.{means_of}
use Rattle.protection.specs.declared.permission.Permission.{Permission}
use Rattle.protection.specs.Systems.{System, within_counts}
use Rattle.protection.specs.Refusals.{Refused, refused}
use Rattle.protection.specs.Answers.{Said}
use Rattle.protection.specs.Analysis.{at_label, analysis}
use Rattle.protection.proofs.Promised.{promised}
use Rattle.record.specs.Systems.{scheme_system, permission_asked, walk_of}
use Rattle.record.proofs.MoveNumbers.{whole}
use Rattle.record.proofs.Leading.{in_scheme}
use Rattle.words.specs.declared.fault.Report.{Report}
use Rattle.text.specs.Writing.{parted}
use Rattle.render.specs.Lines.{spaced, line}
use Rattle.report.specs.Names.{object_name, right_name}
use Rattle.report.specs.Moves.{by_line}
use Rattle.report.specs.Answers.{refused_line, outcome_lines, answer_lines}
use Rattle.report.specs.Reports.{report_lines}
use Rattle.report.specs.Printed.{Line, bytes_of, NamesMove, VerdictKept, AnswerKept, ReportKept, verdict_word, counts_line, refusal_line}
use Rattle.report.proofs.Spelled.{move_words}
use Rattle.report.proofs.Legible.{said_of, over_nothing, query_fits, legible}

-- lines as bytes

line_bytes : (head : List ℕ) (ws : List (List ℕ)) → line head ws ≡ bytes_of ((head ∷ ws) ∷ [])
line_bytes head [] = refl
line_bytes head (w ∷ ws) =
    ap (λ l. head ++ 32 ∷ l) (append_assoc w (flat_map spaced ws) (10 ∷ []) ∙ line_bytes w ws) ∙ sym (append_assoc head (32 ∷ parted (w ∷ ws)) (10 ∷ []))

then_lines : (ls ms : List Line) → bytes_of ls ++ bytes_of ms ≡ bytes_of (ls ++ ms)
then_lines [] ms = refl
then_lines (l ∷ ls) ms = append_assoc (parted l) (10 ∷ bytes_of ls) (bytes_of ms) ∙ ap (λ bs. parted l ++ 10 ∷ bs) (then_lines ls ms)

pub refusal_bytes : (r : Report) → refused_line r ≡ bytes_of (refusal_line r ∷ [])
refusal_bytes r = line_bytes (codes "refused") (decimal r.number ∷ decimal r.line ∷ decimal r.place ∷ [])

numbers_spelled : refusal_line (record { number = 31; line = 0; place = 0 }) ≡ codes "refused" ∷ codes "31" ∷ codes "0" ∷ codes "0" ∷ []
unfolding digits
numbers_spelled = refl

module _ (m : SchemeModel) (bounds : Bounds (walk_of m)) where
  -- the lines of moves

  abbrev by_words : ℕ → Line
  by_words v = codes "by" ∷ move_words m v

  moves_bytes : (vs : List ℕ) → flat_map (by_line m) vs ≡ bytes_of (map by_words vs)
  moves_bytes [] = refl
  moves_bytes (v ∷ vs) = ap₂ (λ (l bs : List ℕ). l ++ bs) (line_bytes (codes "by") (move_words m v)) (moves_bytes vs) ∙ then_lines (by_words v ∷ []) (map by_words vs)

  each_named : (vs : List ℕ) → All (λ v. v < move_count m) vs → (i : ℕ) → i < length vs → NamesMove m (get_or (map by_words vs) i []) (get_or vs i 0)
  each_named vs low i within =
      let v = get_or vs i 0 in
      let n = length m.objects in
      let parts = in_scheme m v (low i 0 within) in
      record {
        policy = v / (n * n);
        subject = v / n % n;
        object = v % n;
        is_move = record { policy = parts.policy; subject = parts.subject; object = parts.object; number = whole n v };
        in_order = get_or-map by_words vs i 0 [] within;
      }

  -- the answer to a query: its lines, and what is promised of them

  abbrev system : System
  system = scheme_system m

  pub record Answered (q : Query) (printed : List ℕ) : Type 0 where
    pub lines : List Line
    pub in_lines : printed ≡ bytes_of lines
    pub kept : AnswerKept m q lines

  module _ (q : Query) (asked : within_counts (scheme_system m) (permission_asked q) ≡ true) where
    abbrev p : Permission
    p = permission_asked q

    abbrev outcome : Outcome
    outcome = analysis system p

    abbrev said : Said
    said = said_of outcome

    abbrev moves : List ℕ
    moves = witness_of outcome

    abbrev names : Line
    names = object_name m q.subject ∷ object_name m q.object ∷ right_name m q.right ∷ []

    abbrev first : Line
    first = verdict_word said.leaks ∷ names ++ decimal said.found ∷ decimal said.tried ∷ []

    no_moves : (o : Outcome) → (said_of o).leaks ≡ false → witness_of o ≡ []
    no_moves (stopped found tried witness) never = absurd (false≢true (sym never))
    no_moves (exhausted found tried) never = refl

    -- with tables that are large enough, and with short ones
    abbrev answered : Bool → Bool → Result Said Refused
    answered within large = cond within (cond large (Ok said) (Err (refused 31))) (Err (refused 30))

    abbrev enough : Bool
    enough = large_enough system.walk.states 4096 4096 4096

    in_lines : outcome_lines m q (Ok said) moves ≡ bytes_of (first ∷ map by_words moves)
    in_lines =
        ap₂ (λ (l bs : List ℕ). l ++ bs) (line_bytes (verdict_word said.leaks) (names ++ decimal said.found ∷ decimal said.tried ∷ [])) (moves_bytes moves)
        ∙ then_lines (first ∷ []) (map by_words moves)

    kept : enough ≡ true → VerdictKept m q (first ∷ map by_words moves)
    kept large =
        let fits = query_fits m q asked in
        let readable = legible m q asked bounds (at_label system p) in
        record {
          names = names;
          said = said;
          below = map by_words moves;
          in_lines = refl;
          as_asked = refl;
          asked = p;
          of_permission = record { subject = fits.subject; object = fits.object; right = fits.right; in_order = refl };
          answered = ap₂ answered asked large;
          moves = moves;
          as_many = length-map moves by_words;
          each_move = each_named moves readable.of_scheme;
          no_moves_under_never = no_moves outcome;
          found = found_of outcome;
          safe =
              promised system bounds p (ending_of outcome) (found_of outcome) moves
              (means_of system.walk bounds (at_label system p) (ending_of outcome) [] (found_of outcome) [] moves refl (over_nothing (found_of outcome)) (over_nothing moves));
          legible = readable;
          read_as = sym in_lines;
        }

    answered_as : (b : Bool) → enough ≡ b → Answered q (outcome_lines m q (answered true b) moves)
    answered_as true large = record { lines = first ∷ map by_words moves; in_lines = in_lines; kept = inl (grind (arith, leb-true), kept large) }
    answered_as false large = record {
      lines = refusal_line (record { number = 31; line = 0; place = 0 }) ∷ [];
      in_lines = refusal_bytes (record { number = 31; line = 0; place = 0 });
      kept = inr (grind (arith, leb-false), ap (λ l. l ∷ []) numbers_spelled);
    }

    answer : Answered q (answer_lines m system q)
    answer = subst (λ (b : Bool). Answered q (outcome_lines m q (answered b enough) moves)) (sym asked) (answered_as enough refl)

  -- the answers to queries, in turn

  pub record AllAnswered (qs : List Query) : Type 0 where
    pub answers : List (List Line)
    pub in_lines : flat_map (answer_lines m system) qs ≡ bytes_of (flat_map (λ (lines : List Line). lines) answers)
    pub as_many : length answers ≡ length qs
    pub each : (i : ℕ) (q : Query) → slice_get qs i ≡ Some q → AnswerKept m q (get_or answers i [])

  all_answered : (qs : List Query) → ((i : ℕ) (q : Query) → slice_get qs i ≡ Some q → within_counts system (permission_asked q) ≡ true) → AllAnswered qs
  all_answered [] asked = record { answers = []; in_lines = refl; as_many = refl; each = λ i q is. absurd (none-some q is) }
  all_answered (q ∷ qs) asked =
      let here = answer q (asked 0 q refl) in
      let later = all_answered qs (λ i. asked (suc i)) in
      record {
        answers = here.lines ∷ later.answers;
        in_lines = ap₂ (λ (l bs : List ℕ). l ++ bs) here.in_lines later.in_lines ∙ then_lines here.lines (flat_map (λ (lines : List Line). lines) later.answers);
        as_many = ap suc later.as_many;
        each = each here later;
      }
    where
      each : (here : Answered q (answer_lines m system q)) (later : AllAnswered qs) → (i : ℕ) (r : Query) → slice_get (q ∷ qs) i ≡ Some r → AnswerKept m r (get_or (here.lines ∷ later.answers) i [])
      each here later zero r is = let same : q ≡ r = cc in subst (λ (x : Query). AnswerKept m x here.lines) same here.kept
      each here later (suc i) r is = later.each i r is

  pub report_kept : ((i : ℕ) (q : Query) → slice_get m.queries i ≡ Some q → within_counts system (permission_asked q) ≡ true)
      → ReportKept m (report_lines m system)
  report_kept asked =
      let all = all_answered m.queries asked in
      record {
        answers = all.answers;
        in_lines =
            ap₂ (λ (l bs : List ℕ). l ++ bs) (line_bytes (codes "scheme") (decimal system.walk.states ∷ decimal system.walk.moves ∷ [])) all.in_lines
            ∙ then_lines (counts_line m ∷ []) (flat_map (λ (lines : List Line). lines) all.answers);
        as_many = all.as_many;
        each = all.each;
      }

-- A text that is read says just what it declares: its lines that have a word are those that the scheme is written in.
use Rattle.std.proofs.Common.{◌≡◌, ℕ, ◌+◌, ◌<◌, ◌≤◌, true, cond, leb, List, [], ◌∷◌, ◌++◌, map, length, Some, None, Ok, Err, Option, Result, ◌⊎◌, flat_map, filter, sym, refl, ap, ap₂, ◌∙◌, subst, inl, inr, append_assoc, append-nil, arith}
use Rattle.std.specs.Result.{OnOk}
use Rattle.std.proofs.lemmas.List.{length-map, map-append}
use Rattle.std.proofs.lemmas.Grind.{flat_map-append}
use Rattle.std.proofs.lemmas.Bool.{false≢true, and_parts, cond-true, leb-true}
use Rattle.scheme.specs.declared.kind.Kind.{Kind}
use Rattle.scheme.specs.declared.kind.Kind.TheVariants as kind
use Rattle.scheme.specs.declared.terms.Predicate.{Predicate}
use Rattle.scheme.specs.declared.terms.Action.{Action}
use Rattle.scheme.specs.declared.terms.Clause.{Clause}
use Rattle.scheme.specs.declared.terms.Clause.TheVariants as clause
use Rattle.scheme.specs.Models.{PolicyModel, SchemeModel, has_room, filled, last_room, last_filled, opened, with_policies, room_for}
use Rattle.words.specs.Outcomes.{and_then, carried, after}
use Rattle.words.specs.Positions.{PlainLine, PlainWord, word_in}
use Rattle.words.specs.Cuts.{words_of, text_lines}
use Rattle.words.specs.Plain.{plain_line}
use Rattle.lines.specs.declared.fault.LineFault.TheVariants.{OfWords}
use Rattle.lines.specs.Kinds.{kind_in, rank, last_rank, in_order, count_allowed}
use Rattle.lines.specs.Lines.{line_kind, right_count, right_forms, formed_as, formed_kind, formed_line}
use Rattle.text.specs.declared.fault.SchemeFault.{SchemeFault}
use Rattle.text.specs.declared.fault.SchemeFault.TheVariants.{OfLine}
use Rattle.text.specs.Naming.{under_most, right_names}
use Rattle.text.specs.Declaring as d
use Rattle.text.specs.Declaring.{declared}
use Rattle.text.specs.Reading.{Progress, start, named_line, read_kind, read_line, complete, few_states, read_lines, reading}
use Rattle.text.specs.Writing.{attribute_words, right_words, object_words, predicate_words, action_words, policy_words, policy_lines, query_words, written_lines}
use Rattle.text.specs.Wording.{bytes_of, worded, has_word, Says}
use Rattle.text.proofs.Conditions.{no_words, opens}
use Rattle.text.proofs.WritingCut.{some_word}
use Rattle.text.proofs.Steps.{step_passed, carried_passed, test_passed}
use Rattle.text.proofs.WordingLines.{line_words, line_said}

-- a line that is read

-- what a line of a kind has passed, and what is declared below it
record Admitted (p : Progress) (ws : List PlainWord) (k : Kind) (q : Progress) : Type 0 where
  some : 0 < length ws
  opens : kind_in (word_in ws 0).bytes ≡ Some k
  ordered : in_order p.last k ≡ true
  counted : count_allowed k (length p.scheme.attributes) (length ws) ≡ true
  formed : right_forms k ws ≡ Ok tt
  room : room_for k p.scheme ≡ true
  named : right_names p.scheme k ws ≡ Ok tt
  adds : q ≡ record { scheme = declared k ws p.scheme; last = Some k }

module _ (p : Progress) (l : PlainLine) (q : Progress) where
  abbrev ws : List PlainWord
  ws = words_of l

  abbrev count : ℕ
  count = length p.scheme.attributes

  -- a line has no word and adds nothing, or its kind adds to what is declared
  abbrev Came : Type 0
  Came = ((ws ≡ []) × (p ≡ q)) ⊎ ((k : Kind) × Admitted p ws k q)

  kind_came : (k : Kind) → line_kind p.last ws ≡ Ok (Some k) → formed_as k count ws ≡ Ok tt → read_kind p ws (Some k) ≡ Ok q → Admitted p ws k q
  kind_came k is formed read =
      let placed = opens p l k is in
      let (u, (counted, forms)) = step_passed (right_count k count ws) (λ _. right_forms k ws) tt formed in
      let (m, (line, becomes)) = step_passed (named_line k ws p.scheme) (λ s. Ok (record { scheme = s; last = Some k })) q read in
      let (v, (room, rest)) = step_passed (under_most k p.scheme ws) (λ _. and_then (right_names p.scheme k ws) (λ _. Ok (declared k ws p.scheme))) m line in
      let (w, (names, declares)) = step_passed (right_names p.scheme k ws) (λ _. Ok (declared k ws p.scheme)) m rest in
      let same : declared k ws p.scheme ≡ m = cc in
      let becomes_q : record { scheme = m; last = Some k } ≡ q = cc in
      record {
        some = placed.0.0;
        opens = placed.0.1;
        ordered = placed.1;
        counted = (test_passed (count_allowed k count (length ws)) (Ok tt) _ tt counted).0;
        formed = forms;
        room = (test_passed (room_for k p.scheme) (Ok tt) _ tt room).0;
        named = names;
        adds = sym (ap (λ (s : SchemeModel). record { scheme = s; last = Some k }) same ∙ becomes_q);
      }

  came_as : (j o : Option Kind) → line_kind p.last ws ≡ Ok j → formed_kind count ws j ≡ Ok o → read_kind p ws o ≡ Ok q → Came
  came_as None o is formed read =
      let none : None ≡ o = cc in
      let same : Ok p ≡ Ok q = ap (read_kind p ws) none ∙ read in
      inl (no_words p l is, cc)
  came_as (Some k) o is formed read =
      let (u, (as_k, stays)) = step_passed (formed_as k count ws) (λ _. Ok (Some k)) o formed in
      let some : Some k ≡ o = cc in
      inr (k, kind_came k is as_k (ap (read_kind p ws) some ∙ read))

  pub line_passed : read_line p l ≡ Ok q → (o : Option Kind) × ((plain_line l ≡ Ok tt) × (and_then (line_kind p.last ws) (formed_kind count ws) ≡ Ok o) × (read_kind p ws o ≡ Ok q))
  line_passed h =
      let (o, (line, read)) = step_passed (carried OfLine (formed_line p.last count l)) (read_kind p ws) q h in
      let formed = carried_passed OfLine (formed_line p.last count l) o line in
      let (u, (plain, rest)) = step_passed (carried OfWords (plain_line l)) (λ _. and_then (line_kind p.last ws) (formed_kind count ws)) o formed in
      (o, (carried_passed OfWords (plain_line l) tt plain, rest, read))

  came : read_line p l ≡ Ok q → Came
  came h =
      let (o, (plain, formed, read)) = line_passed h in
      let (j, (is, formed_j)) = step_passed (line_kind p.last ws) (formed_kind count ws) o formed in
      came_as j o is formed_j read

-- lists that grow

module _ {X : Type 0} (xs : List X) (x : X) where
  -- at their end
  further : (ys zs : List X) → ys ++ x ∷ [] ≡ zs → (xs ++ ys) ++ x ∷ [] ≡ xs ++ zs
  further ys zs h = append_assoc xs ys (x ∷ []) ∙ ap (λ l. xs ++ l) h

  -- before what is not there
  before_none : (ys zs : List X) → ys ≡ [] → zs ≡ [] → (xs ++ ys) ++ x ∷ [] ≡ (xs ++ x ∷ []) ++ zs
  before_none ys zs none none' =
      ap (λ l. (xs ++ l) ++ x ∷ []) none
      ∙ ap (λ l. l ++ x ∷ []) (append-nil xs)
      ∙ sym (append-nil (xs ++ x ∷ []))
      ∙ ap (λ l. (xs ++ x ∷ []) ++ l) (sym none')

-- of the last policy, if there is one
Last : (PolicyModel → Type 0) → List PolicyModel → Type 0
Last P [] = Unit {0}
Last P (p ∷ []) = P p
Last P (p ∷ q ∷ ps) = Last P (q ∷ ps)

abbrev Unacted : PolicyModel → Type 0
Unacted p = p.actions ≡ []

last_pushed : (P : PolicyModel → Type 0) (ps : List PolicyModel) (p : PolicyModel) → P p → Last P (ps ++ p ∷ [])
unfolding Last
last_pushed P [] p h = h
last_pushed P (q ∷ []) p h = h
last_pushed P (q ∷ r ∷ ps) p h = last_pushed P (r ∷ ps) p h

last_unacted : (x : Predicate) (ps : List PolicyModel) → Last Unacted ps → Last Unacted (last_filled (clause.If x) ps)
unfolding Last
last_unacted x [] h = h
last_unacted x (p ∷ []) h = h
last_unacted x (p ∷ q ∷ []) h = h
last_unacted x (p ∷ q ∷ r ∷ ps) h = last_unacted x (q ∷ r ∷ ps) h

-- what the kinds behind one declare, while they are empty

module _ (m : SchemeModel) where
  abbrev after_policies : List (List (List ℕ))
  after_policies = map (query_words m) m.queries

  abbrev after_objects : List (List (List ℕ))
  after_objects = flat_map (policy_lines m) m.policies ++ after_policies

  abbrev after_rights : List (List (List ℕ))
  after_rights = map object_words m.objects ++ after_objects

  abbrev after_attributes : List (List (List ℕ))
  after_attributes = map right_words m.rights ++ after_rights

  module _ (no_queries : m.queries ≡ []) where
    none_after_policies : after_policies ≡ []
    none_after_policies = ap (map (query_words m)) no_queries

    module _ (no_policies : m.policies ≡ []) where
      none_after_objects : after_objects ≡ []
      none_after_objects = ap₂ (λ ps l. flat_map (policy_lines m) ps ++ l) no_policies none_after_policies

      module _ (no_objects : m.objects ≡ []) where
        none_after_rights : after_rights ≡ []
        none_after_rights = ap₂ (λ os l. map object_words os ++ l) no_objects none_after_objects

        none_after_attributes : m.rights ≡ [] → after_attributes ≡ []
        none_after_attributes no_rights = ap₂ (λ rs l. map right_words rs ++ l) no_rights none_after_rights

  -- one clause more of the last policy

  abbrev clause_words : Clause → List (List ℕ)
  clause_words (clause.If x) = predicate_words m x
  clause_words (clause.Do x) = action_words m x

  -- a predicate comes before the actions
  abbrev InPlace : Clause → PolicyModel → Type 0
  InPlace (clause.If x) p = p.actions ≡ []
  InPlace (clause.Do x) p = Unit {0}

  clause_added : (c : Clause) (p : PolicyModel) → InPlace c p → policy_lines m p ++ clause_words c ∷ [] ≡ policy_lines m (filled c p)
  clause_added (clause.If x) p unacted =
      let none : map (action_words m) p.actions ≡ [] = ap (map (action_words m)) unacted in
      ap (λ l. policy_words m p ∷ l)
      (before_none (map (predicate_words m) p.predicates) (predicate_words m x) (map (action_words m) p.actions) (map (action_words m) p.actions) none none
      ∙ ap (λ l. l ++ map (action_words m) p.actions) (sym (map-append (predicate_words m) p.predicates (x ∷ []))))
  clause_added (clause.Do x) p _ =
      ap (λ l. policy_words m p ∷ l)
      (further (map (predicate_words m) p.predicates) (action_words m x) (map (action_words m) p.actions) _ (sym (map-append (action_words m) p.actions (x ∷ []))))

  last_added : (c : Clause) (ps : List PolicyModel) → last_room (has_room c) ps ≡ true → Last (InPlace c) ps
      → flat_map (policy_lines m) ps ++ clause_words c ∷ [] ≡ flat_map (policy_lines m) (last_filled c ps)
  unfolding Last
  last_added c [] room h = absurd (false≢true room)
  last_added c (p ∷ []) room h =
      ap (λ l. l ++ clause_words c ∷ []) (append-nil (policy_lines m p)) ∙ clause_added c p h ∙ sym (append-nil (policy_lines m (filled c p)))
  last_added c (p ∷ q ∷ ps) room h = further (policy_lines m p) (clause_words c) (flat_map (policy_lines m) (q ∷ ps)) _ (last_added c (q ∷ ps) room h)

anywhere : (x : Action) (m : SchemeModel) (ps : List PolicyModel) → Last (InPlace m (clause.Do x)) ps
unfolding Last
anywhere x m [] = tt
anywhere x m (p ∷ []) = tt
anywhere x m (p ∷ q ∷ ps) = anywhere x m (q ∷ ps)

-- below a line of a rank nothing of a later kind is declared, and above the first `do` line a policy has no action
record Behind (r : ℕ) (m : SchemeModel) : Type 0 where
  no_rights : r ≤ 0 → m.rights ≡ []
  no_objects : r ≤ 1 → m.objects ≡ []
  no_policies : r ≤ 2 → m.policies ≡ []
  no_actions : r ≤ 4 → Last Unacted m.policies
  no_queries : r ≤ 5 → m.queries ≡ []

-- what is declared is written in these lines, and nothing of a later kind is
record Written (p : Progress) (lines : List (List (List ℕ))) : Type 0 where
  same : lines ≡ written_lines p.scheme
  behind : Behind (last_rank p.last) p.scheme

module _ (p : Progress) (ws : List PlainWord) (q : Progress) (before : Behind (last_rank p.last) p.scheme) where
  abbrev m : SchemeModel
  m = p.scheme

  -- what a line of a kind adds is written behind all that is declared
  Adds : Kind → Type 0
  Adds k = (written_lines m ++ line_words m k ws ∷ [] ≡ written_lines (declared k ws m)) × Behind (rank k) (declared k ws m)

  attribute_adds : Admitted p ws kind.Attr q → Adds kind.Attr
  unfolding Adds
  attribute_adds a =
      let low = leb-true (last_rank p.last) 0 a.ordered in
      let new = declared kind.Attr ws m in
      let no_rights = before.no_rights low in
      let no_objects = before.no_objects (omega arith) in
      let no_policies = before.no_policies (omega arith) in
      let no_queries = before.no_queries (omega arith) in (
        before_none (map attribute_words m.attributes) (line_words m kind.Attr ws) (after_attributes m) (after_attributes new)
            (none_after_attributes m no_queries no_policies no_objects no_rights)
            (none_after_attributes new no_queries no_policies no_objects no_rights)
            ∙ ap (λ l. l ++ after_attributes new) (sym (map-append attribute_words m.attributes (d.attribute_in ws ∷ []))),
        record { no_rights = λ _. no_rights; no_objects = λ _. no_objects; no_policies = λ _. no_policies; no_actions = λ _. before.no_actions (omega arith); no_queries = λ _. no_queries },
      )

  right_adds : Admitted p ws kind.Right q → Adds kind.Right
  unfolding Adds
  right_adds a =
      let low = leb-true (last_rank p.last) 1 a.ordered in
      let new = declared kind.Right ws m in
      let line = line_words m kind.Right ws in
      let no_objects = before.no_objects low in
      let no_policies = before.no_policies (omega arith) in
      let no_queries = before.no_queries (omega arith) in (
        further (map attribute_words m.attributes) line (after_attributes m) (after_attributes new)
            (before_none (map right_words m.rights) line (after_rights m) (after_rights new)
            (none_after_rights m no_queries no_policies no_objects)
            (none_after_rights new no_queries no_policies no_objects)
            ∙ ap (λ l. l ++ after_rights new) (sym (map-append right_words m.rights (d.name_in (word_in ws 1) ∷ [])))),
        record { no_rights = λ h. absurd (omega arith); no_objects = λ _. no_objects; no_policies = λ _. no_policies; no_actions = λ _. before.no_actions (omega arith); no_queries = λ _. no_queries },
      )

  object_adds : Admitted p ws kind.Object q → Adds kind.Object
  unfolding Adds
  object_adds a =
      let low = leb-true (last_rank p.last) 2 a.ordered in
      let new = declared kind.Object ws m in
      let line = line_words m kind.Object ws in
      let no_policies = before.no_policies low in
      let no_queries = before.no_queries (omega arith) in (
        further (map attribute_words m.attributes) line (after_attributes m) (after_attributes new)
            (further (map right_words m.rights) line (after_rights m) (after_rights new)
            (before_none (map object_words m.objects) line (after_objects m) (after_objects new)
            (none_after_objects m no_queries no_policies)
            (none_after_objects new no_queries no_policies)
            ∙ ap (λ l. l ++ after_objects new) (sym (map-append object_words m.objects (d.object_in m ws ∷ []))))),
        record { no_rights = λ h. absurd (omega arith); no_objects = λ h. absurd (omega arith); no_policies = λ _. no_policies; no_actions = λ _. before.no_actions (omega arith); no_queries = λ _. no_queries },
      )

  -- a line of the policies
  policies_add : (k : Kind) (ps : List PolicyModel) → m.queries ≡ [] → flat_map (policy_lines m) m.policies ++ line_words m k ws ∷ [] ≡ flat_map (policy_lines m) ps
      → written_lines m ++ line_words m k ws ∷ [] ≡ written_lines (with_policies ps m)
  policies_add k ps no_queries h =
      let new = with_policies ps m in
      let line = line_words m k ws in
      further (map attribute_words m.attributes) line (after_attributes m) (after_attributes new)
      (further (map right_words m.rights) line (after_rights m) (after_rights new)
      (further (map object_words m.objects) line (after_objects m) (after_objects new)
      (before_none (flat_map (policy_lines m) m.policies) line (after_policies m) (after_policies new)
      (none_after_policies m no_queries)
      (none_after_policies new no_queries)
      ∙ ap (λ l. l ++ after_policies new) h)))

  policy_adds : Admitted p ws kind.Policy q → Adds kind.Policy
  unfolding Adds
  policy_adds a =
      let low = leb-true (last_rank p.last) 5 a.ordered in
      let no_queries = before.no_queries low in
      let new = opened (d.name_in (word_in ws 1)) (d.number_among (word_in ws 2).bytes m.rights) in (
        policies_add kind.Policy (m.policies ++ new ∷ []) no_queries (sym (flat_map-append (policy_lines m) m.policies (new ∷ []))),
        record { no_rights = λ h. absurd (omega arith); no_objects = λ h. absurd (omega arith); no_policies = λ h. absurd (omega arith); no_actions = λ _. last_pushed Unacted m.policies new refl; no_queries = λ _. no_queries },
      )

  if_adds : Admitted p ws kind.If q → Adds kind.If
  unfolding Adds
  if_adds a =
      let low = leb-true (last_rank p.last) 4 (and_parts (leb 3 (last_rank p.last)) (leb (last_rank p.last) 4) a.ordered).1 in
      let no_queries = before.no_queries (omega arith) in
      let unacted = before.no_actions low in
      let x = d.predicate_in m ws in (
        policies_add kind.If (last_filled (clause.If x) m.policies) no_queries (last_added m (clause.If x) m.policies a.room unacted),
        record { no_rights = λ h. absurd (omega arith); no_objects = λ h. absurd (omega arith); no_policies = λ h. absurd (omega arith); no_actions = λ _. last_unacted x m.policies unacted; no_queries = λ _. no_queries },
      )

  do_adds : Admitted p ws kind.Do q → Adds kind.Do
  unfolding Adds
  do_adds a =
      let low = leb-true (last_rank p.last) 5 (and_parts (leb 3 (last_rank p.last)) (leb (last_rank p.last) 5) a.ordered).1 in
      let no_queries = before.no_queries low in
      let x = d.action_in m ws in (
        policies_add kind.Do (last_filled (clause.Do x) m.policies) no_queries (last_added m (clause.Do x) m.policies a.room (anywhere x m m.policies)),
        record { no_rights = λ h. absurd (omega arith); no_objects = λ h. absurd (omega arith); no_policies = λ h. absurd (omega arith); no_actions = λ h. absurd (omega arith); no_queries = λ _. no_queries },
      )

  query_adds : Adds kind.Query
  unfolding Adds
  query_adds =
      let new = declared kind.Query ws m in
      let line = line_words m kind.Query ws in (
        further (map attribute_words m.attributes) line (after_attributes m) (after_attributes new)
            (further (map right_words m.rights) line (after_rights m) (after_rights new)
            (further (map object_words m.objects) line (after_objects m) (after_objects new)
            (further (flat_map (policy_lines m) m.policies) line (after_policies m) (after_policies new)
            (sym (map-append (query_words m) m.queries (d.query_in m ws ∷ [])))))),
        record { no_rights = λ h. absurd (omega arith); no_objects = λ h. absurd (omega arith); no_policies = λ h. absurd (omega arith); no_actions = λ h. absurd (omega arith); no_queries = λ h. absurd (omega arith) },
      )

  adds : (k : Kind) → Admitted p ws k q → Adds k
  adds kind.Attr a = attribute_adds a
  adds kind.Right a = right_adds a
  adds kind.Object a = object_adds a
  adds kind.Policy a = policy_adds a
  adds kind.If a = if_adds a
  adds kind.Do a = do_adds a
  adds kind.Query a = query_adds

  written_next : (k : Kind) (lines : List (List (List ℕ))) → lines ≡ written_lines m → Admitted p ws k q → Written q (lines ++ bytes_of ws ∷ [])
  unfolding Adds
  written_next k lines same a =
      let line = line_said m k ws a.opens a.counted a.formed a.named in
      let grown = adds k a in
      let next : Progress = record { scheme = declared k ws m; last = Some k } in
      let written : Written next (lines ++ bytes_of ws ∷ []) = record { same = ap₂ (λ ls l. ls ++ l ∷ []) same line ∙ grown.0; behind = grown.1 } in
      subst (λ (r : Progress). Written r (lines ++ bytes_of ws ∷ [])) (sym a.adds) written

-- all lines

module _ (l : PlainLine) (ls : List PlainLine) (m : SchemeModel) where
  abbrev more : List (List (List ℕ))
  more = filter has_word (map worded ls)

  line_written : (n : ℕ) (p q : Progress) (lines : List (List (List ℕ))) → ((r : Progress) (ks : List (List (List ℕ))) → Written r ks → read_lines n ls r ≡ Ok m → ks ++ more ≡ written_lines m)
      → Written p lines → read_lines n ls q ≡ Ok m → Came p l q → lines ++ filter has_word (map worded (l ∷ ls)) ≡ written_lines m
  line_written n p q lines later w rest (inl (none, stays)) =
      ap (λ ws. lines ++ cond (has_word (bytes_of ws)) (bytes_of ws ∷ more) more) none
      ∙ later p lines w (ap (read_lines n ls) stays ∙ rest)
  line_written n p q lines later w rest (inr (k, a)) =
      ap (λ x. lines ++ x) (cond-true (has_word (worded l)) (worded l ∷ more) more (some_word (worded l) (let long = length-map (words_of l) (λ (w : PlainWord). w.bytes) in let some = a.some in omega arith)))
      ∙ sym (append_assoc lines (worded l ∷ []) more)
      ∙ later q (lines ++ worded l ∷ []) (written_next p (words_of l) q w.behind k lines w.same a) rest

rest_written : (n : ℕ) (ls : List PlainLine) (p : Progress) (m : SchemeModel) (lines : List (List (List ℕ))) → Written p lines → read_lines n ls p ≡ Ok m → lines ++ filter has_word (map worded ls) ≡ written_lines m
rest_written n [] p m lines w h =
    let ended = test_passed (complete p.scheme) (cond (few_states p.scheme) (Ok p.scheme) _) _ m h in
    let (few, is) = test_passed (few_states p.scheme) (Ok p.scheme) _ m ended.1 in
    let same : p.scheme ≡ m = cc in
    append-nil lines ∙ w.same ∙ ap written_lines same
rest_written n (l ∷ ls) p m lines w h =
    let (q, (line, rest)) = step_passed (read_line p l) (read_lines (n + 1) ls) m h in
    line_written l ls m (n + 1) p q lines (λ r ks. rest_written (n + 1) ls r m ks) w rest (came p l q line)

start_written : Written start []
unfolding Last
start_written = record { same = refl; behind = record { no_rights = λ _. refl; no_objects = λ _. refl; no_policies = λ _. refl; no_actions = λ _. tt; no_queries = λ _. refl } }

-- a text that is read has just the lines that its scheme is written in
pub says_what_it_declares : (text : List ℕ) (m : SchemeModel) → reading text ≡ Ok m → Says text m
says_what_it_declares text m h = rest_written 1 (text_lines text) start m [] start_written (test_passed (leb (length text) 65535) (read_lines 1 (text_lines text) start) _ m h).1

pub says_if_accepted : (text : List ℕ) (r : Result (Unit {0}) SchemeFault) (m : SchemeModel) → after r m ≡ reading text → OnOk r (Says text m)
says_if_accepted text (Ok u) m h = says_what_it_declares text m (sym h)
says_if_accepted text (Err f) m h = tt

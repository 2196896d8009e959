-- A written text is read to exactly the scheme that it was written from.
use Rattle.std.proofs.Common.{◌≡◌, ℕ, suc, ◌+◌, ◌*◌, ◌<◌, ◌≤◌, Bool, true, cond, leb, List, [], ◌∷◌, ◌++◌, map, length, get_or, Some, None, Ok, Option, All, flat_map, filter, sym, refl, ap, ◌∙◌, subst, append_assoc, append-nil, arith}
use Rattle.std.specs.List.{AllByRecursion, AllZip}
use Rattle.std.proofs.lemmas.List.{length-append, length-map, map-append, get_or_append_left, get_or_at}
use Rattle.std.proofs.lemmas.Bool.{cond-true, lt-ltb, le-leb}
use Rattle.scheme.specs.declared.kind.Kind.{Kind}
use Rattle.scheme.specs.declared.kind.Kind.TheVariants as kind
use Rattle.scheme.specs.declared.terms.Predicate.{Predicate}
use Rattle.scheme.specs.declared.terms.Action.{Action}
use Rattle.scheme.specs.declared.terms.Clause.{Clause}
use Rattle.scheme.specs.declared.terms.Clause.TheVariants as clause
use Rattle.scheme.specs.declared.entries.Query.{Query}
use Rattle.scheme.specs.Names.{index_of}
use Rattle.scheme.specs.Models.{AttributeModel, ObjectModel, PolicyModel, SchemeModel, bare_model, predicate_room, action_room, filled, last_room, last_filled}
use Rattle.scheme.specs.Counts.{state_count}
use Rattle.words.specs.Outcomes.{and_then, carried}
use Rattle.words.specs.Positions.{PlainLine, PlainWord}
use Rattle.words.specs.Cuts.{words_of, pieces, numbered, text_lines}
use Rattle.words.specs.Joining.{ended}
use Rattle.words.specs.Plain.{plain_line}
use Rattle.words.specs.Forms.{is_name}
use Rattle.lines.specs.declared.fault.LineFault.TheVariants.{OfWords}
use Rattle.lines.specs.Kinds.{rank, last_rank}
use Rattle.lines.specs.Lines.{line_kind, formed_kind, formed_line}
use Rattle.text.specs.declared.fault.SchemeFault.TheVariants.{OfLine}
use Rattle.text.specs.Reading.{Progress, start, read_kind, read_line, complete, few_states, finished, read_lines, reading}
use Rattle.text.specs.Writing.{parted, IsName, ValueFits, name_at, attribute_words, right_words, object_words, predicate_words, action_words, policy_lines, query_words, written_lines, written, NamesFit, PredicateFits, ActionFits, PolicyFits, QueryFits, Writable}
use Rattle.text.specs.Wording.{bytes_of, worded, has_word, worded_lines}
use Rattle.text.proofs.Named.{name_tested, values_tested, complete_tested}
use Rattle.text.proofs.WritingCut.{passes, some_word, Inked, PrintableLine, line_plain, words_again, line_again, parted_printable, parted_length}
use Rattle.text.proofs.WritingForms.{missing}
use Rattle.text.proofs.WritingLines.{Step, attribute_step, right_step, object_step}
use Rattle.text.proofs.WritingClauses.{policy_step, predicate_step, action_step, query_step}

-- lines that are read one after another

abbrev Reads : Progress → List (List (List ℕ)) → Progress → Type 0
Reads p [] q = p ≡ q
Reads p (l ∷ ls) q = (r : Progress) × (Step p l r × Reads r ls q)

reads_on : (ls ks : List (List (List ℕ))) (p q r : Progress) → Reads p ls q → Reads q ks r → Reads p (ls ++ ks) r
reads_on [] ks p q r a b = subst (λ x. Reads x ks r) (sym a) b
reads_on (l ∷ ls) ks p q r (x, (s, a)) b = (x, (s, reads_on ls ks x q r a b))

-- a line with no word adds nothing

no_bytes : (vs : List PlainWord) → bytes_of vs ≡ [] → vs ≡ []
no_bytes [] none = refl
no_bytes (v ∷ vs) none = cc

blank_read : (p : Progress) (l : PlainLine) → PrintableLine l → worded l ≡ [] → read_line p l ≡ Ok p
blank_read p l plain none =
    let count = length p.scheme.attributes in
    passes (carried OfLine (formed_line p.last count l)) None (read_kind p (words_of l))
    (ap (carried OfLine)
    (passes (carried OfWords (plain_line l)) tt (λ _. and_then (line_kind p.last (words_of l)) (formed_kind count (words_of l)))
    (ap (carried OfWords) (line_plain l plain (subst (AllByRecursion Inked) (sym none) tt)))
    ∙ ap (λ vs. and_then (line_kind p.last vs) (formed_kind count vs)) (no_bytes (words_of l) none)))

-- lines with these words are read
module _ (l : PlainLine) (ls : List PlainLine) (plain : PrintableLine l) (m : SchemeModel) (q : Progress) (n : ℕ) where
  abbrev more : List (List (List ℕ))
  more = filter has_word (map worded ls)

  abbrev counted : List (List ℕ) → List (List (List ℕ))
  counted ws = cond (has_word ws) (ws ∷ more) more

  reads_first : (p : Progress) (said : List (List (List ℕ))) (ws : List (List ℕ)) → ((r : Progress) (ks : List (List (List ℕ))) → Reads r ks q → more ≡ ks → read_lines n ls r ≡ Ok m)
      → worded l ≡ ws → Reads p said q → counted (worded l) ≡ said → and_then (read_line p l) (read_lines n ls) ≡ Ok m
  reads_first p said [] later none a says = passes (read_line p l) p (read_lines n ls) (blank_read p l plain none) ∙ later p said a (ap counted (sym none) ∙ says)
  reads_first p [] (w ∷ rest) later is a says = let some : (w ∷ rest) ∷ more ≡ [] = ap counted (sym is) ∙ says in cc
  reads_first p (v ∷ said) (w ∷ rest) later is (r, (s, a)) says =
      let both : (w ∷ rest) ∷ more ≡ v ∷ said = ap counted (sym is) ∙ says in
      let first : w ∷ rest ≡ v = cc in
      passes (read_line p l) r (read_lines n ls) (s.reads l plain (is ∙ first)) ∙ later r said a cc

reads_lines : (n : ℕ) (ls : List PlainLine) (said : List (List (List ℕ))) (p q : Progress) → Reads p said q → filter has_word (map worded ls) ≡ said → AllByRecursion PrintableLine ls
    → complete q.scheme ≡ true → few_states q.scheme ≡ true → read_lines n ls p ≡ Ok q.scheme
reads_lines n [] [] p q a says plain whole few = ap (λ (x : Progress). finished n x.scheme) a ∙ cond-true (complete q.scheme) _ _ whole ∙ cond-true (few_states q.scheme) _ _ few
reads_lines n [] (w ∷ said) p q a says plain whole few = cc
reads_lines n (l ∷ ls) said p q a says plain whole few =
    reads_first l ls plain.0 q.scheme q (n + 1) p said (worded l) (λ r ks b more_said. reads_lines (n + 1) ls ks r q b more_said plain.1 whole few) refl a says

-- what a written text is cut into

reads_cut : (ls : List (List (List ℕ))) (p q : Progress) → Reads p ls q → pieces 10 (ended (map parted ls)) ≡ map parted ls
reads_cut [] p q a = refl
reads_cut (l ∷ ls) p q (r, (s, a)) = line_again l s.inked (ended (map parted ls)) ∙ ap (λ ps. parted l ∷ ps) (reads_cut ls r q a)

reads_plain : (n : ℕ) (ls : List (List (List ℕ))) (p q : Progress) → Reads p ls q → AllByRecursion PrintableLine (numbered n (map parted ls))
reads_plain n [] p q a = tt
reads_plain n (l ∷ ls) p q (r, (s, a)) = (parted_printable l s.inked, reads_plain (n + 1) ls r q a)

reads_say : (n : ℕ) (ls : List (List (List ℕ))) (p q : Progress) → Reads p ls q → filter has_word (map worded (numbered n (map parted ls))) ≡ ls
reads_say n [] p q a = refl
reads_say n (l ∷ ls) p q (r, (s, a)) =
    let more = filter has_word (map worded (numbered (n + 1) (map parted ls))) in
    ap (λ ws. cond (has_word ws) (ws ∷ more) more) (words_again l s.inked n)
    ∙ cond-true (has_word l) (l ∷ more) more (some_word l s.some)
    ∙ ap (λ ks. l ∷ ks) (reads_say (n + 1) ls r q a)

reads_length : (ls : List (List (List ℕ))) (p q : Progress) → Reads p ls q → length (ended (map parted ls)) ≤ 109 * length ls
reads_length [] p q a = omega arith
reads_length (l ∷ ls) p q (r, (s, a)) =
    let line = parted_length l s.inked in
    let few = s.few in
    let rest = reads_length ls r q a in
    omega (arith, length-append (parted l) (10 ∷ ended (map parted ls)))

-- lines that leave m declared, below a last line of one of some ranks
record Leads (p : Progress) (ls : List (List (List ℕ))) (m : SchemeModel) (low high : ℕ) : Type 0 where
  last : Option Kind
  least : low ≤ last_rank last
  most : last_rank last ≤ high
  reads : Reads p ls (record { scheme = m; last = last })

leads_on : (p : Progress) (ls ks : List (List (List ℕ))) (m s : SchemeModel) (low high l h : ℕ) → Leads p ls m low high
    → ((last : Option Kind) → low ≤ last_rank last → last_rank last ≤ high → Leads (record { scheme = m; last = last }) ks s l h) → Leads p (ls ++ ks) s l h
leads_on p ls ks m s low high l h a b =
    let c = b a.last a.least a.most in
    record { last = c.last; least = c.least; most = c.most; reads = reads_on ls ks p (record { scheme = m; last = a.last }) (record { scheme = s; last = c.last }) a.reads c.reads }

-- what holds of each of the whole holds of an item between those done and those to do

module _ {X : Type 0} (done : List X) (x : X) (todo whole : List X) (split : done ++ x ∷ todo ≡ whole) where
  split_length : length done < length whole
  split_length = let long = ap length split in omega (arith, length-append done (x ∷ todo), long)

  split_at : (P : X → Type 0) → All P whole → P x
  split_at P all = subst P (ap (λ l. get_or l (length done) x) (sym split) ∙ get_or_at done x todo x (length done) refl) (all (length done) x split_length)

new_name : (done : List (List ℕ)) (n : List ℕ) (todo whole : List (List ℕ)) → done ++ n ∷ todo ≡ whole → NamesFit whole → index_of n done ≡ None
new_name done n todo whole split fit =
    let some = split_length done n todo whole split in
    missing n done (λ j h e.
    let here = ap (λ l. name_at l j) (sym split) ∙ get_or_append_left done (n ∷ todo) [] j h in
    let there = ap (λ l. name_at l (length done)) (sym split) ∙ get_or_at done n todo [] (length done) refl in
    let one = fit.distinct j (length done) (omega arith) some (here ∙ e ∙ sym there) in
    omega arith)

module _ {X : Type 0} (name : X → List ℕ) (done : List X) (x : X) (todo whole : List X) (split : done ++ x ∷ todo ≡ whole) (fit : NamesFit (map name whole)) where
  names_split : map name done ++ name x ∷ map name todo ≡ map name whole
  names_split = sym (map-append name done (x ∷ todo)) ∙ ap (map name) split

  new_among : index_of (name x) (map name done) ≡ None
  new_among = new_name (map name done) (name x) (map name todo) (map name whole) names_split fit

  named_among : is_name (name x) ≡ true
  named_among = name_tested (name x) (split_at (map name done) (name x) (map name todo) (map name whole) names_split IsName fit.each)

-- lines of one kind, where each declares one more
module _ {X : Type 0} (words : X → List (List ℕ)) (k : Kind) (low high : ℕ) (least : low ≤ rank k) (most : rank k ≤ high) (model : List X → SchemeModel) (whole : List X)
    (step : (done : List X) (x : X) (todo : List X) (last : Option Kind) → done ++ x ∷ todo ≡ whole → low ≤ last_rank last → last_rank last ≤ high → Step (record { scheme = model done; last = last }) (words x) (record { scheme = model (done ++ x ∷ []); last = Some k })) where
  stage : (done todo : List X) (last : Option Kind) → done ++ todo ≡ whole → low ≤ last_rank last → last_rank last ≤ high → Leads (record { scheme = model done; last = last }) (map words todo) (model whole) low high
  stage done [] last split l h = record { last = last; least = l; most = h; reads = ap (λ xs. record { scheme = model xs; last = last }) (sym (append-nil done) ∙ split) }
  stage done (x ∷ todo) last split l h =
      let more = stage (done ++ x ∷ []) todo (Some k) (append_assoc done (x ∷ []) todo ∙ split) least most in
      record { last = more.last; least = more.least; most = more.most; reads = (record { scheme = model (done ++ x ∷ []); last = Some k }, (step done x todo last split l h, more.reads)) }

-- the last of some policies

last_room_of : (room : PolicyModel → Bool) (ps : List PolicyModel) (p : PolicyModel) → last_room room (ps ++ p ∷ []) ≡ room p
last_room_of room [] p = refl
last_room_of room (q ∷ []) p = refl
last_room_of room (q ∷ r ∷ ps) p = last_room_of room (r ∷ ps) p

last_filled_of : (c : Clause) (ps : List PolicyModel) (p : PolicyModel) → last_filled c (ps ++ p ∷ []) ≡ ps ++ filled c p ∷ []
last_filled_of c [] p = refl
last_filled_of c (q ∷ []) p = refl
last_filled_of c (q ∷ r ∷ ps) p = ap (λ l. q ∷ l) (last_filled_of c (r ∷ ps) p)

sizes_small : (al : List AttributeModel) → All (λ (a : AttributeModel). (1 ≤ a.size) × (a.size ≤ 250)) al → AllByRecursion (λ k. k ≤ 250) (map (λ (a : AttributeModel). a.size) al)
sizes_small [] all = tt
sizes_small (a ∷ al) all = ((all 0 a (omega arith)).1, sizes_small al (λ k d h. all (suc k) d (omega arith)))

module _ (m : SchemeModel) (w : Writable m) where
  abbrev attributes_only : List AttributeModel → SchemeModel
  attributes_only as' = record bare_model { attributes = as' }

  abbrev with_rights : List (List ℕ) → SchemeModel
  with_rights rs = record bare_model { attributes = m.attributes; rights = rs }

  abbrev with_objects : List ObjectModel → SchemeModel
  with_objects os = record bare_model { attributes = m.attributes; rights = m.rights; objects = os }

  abbrev with_policies_of : List PolicyModel → SchemeModel
  with_policies_of ps = record m { policies = ps; queries = [] }

  abbrev with_queries : List Query → SchemeModel
  with_queries qs = record m { queries = qs }

  attributes_read : (last : Option Kind) → last_rank last ≤ 0 → Leads (record { scheme = attributes_only []; last = last }) (map attribute_words m.attributes) (attributes_only m.attributes) 0 0
  attributes_read last h =
      stage attribute_words kind.Attr 0 0 (omega arith) (omega arith) attributes_only m.attributes
      (λ done a todo last' split l h'.
      let few = w.few_attributes in
      let some = split_length done a todo m.attributes split in
      attribute_step (record { scheme = attributes_only done; last = last' }) a
      (named_among (λ (x : AttributeModel). x.name) done a todo m.attributes split w.attributes_named)
      (split_at done a todo m.attributes split (λ (x : AttributeModel). (1 ≤ x.size) × (x.size ≤ 250)) w.sizes)
      h' (omega arith)
      (new_among (λ (x : AttributeModel). x.name) done a todo m.attributes split w.attributes_named))
      [] m.attributes last refl (omega arith) h

  rights_read : (last : Option Kind) → last_rank last ≤ 1 → Leads (record { scheme = attributes_only m.attributes; last = last }) (map right_words m.rights) (with_rights m.rights) 0 1
  rights_read last h =
      stage right_words kind.Right 0 1 (omega arith) (omega arith) with_rights m.rights
      (λ done b todo last' split l h'.
      let few = w.few_rights in
      let some = split_length done b todo m.rights split in
      right_step (record { scheme = with_rights done; last = last' }) b
      (name_tested b (split_at done b todo m.rights split IsName w.rights_named.each))
      h' (omega arith)
      (new_name done b todo m.rights split w.rights_named))
      [] m.rights last refl (omega arith) h

  objects_read : (last : Option Kind) → last_rank last ≤ 2 → Leads (record { scheme = with_rights m.rights; last = last }) (map object_words m.objects) (with_objects m.objects) 0 2
  objects_read last h =
      stage object_words kind.Object 0 2 (omega arith) (omega arith) with_objects m.objects
      (λ done o todo last' split l h'.
      let few = w.few_objects in
      let some = split_length done o todo m.objects split in
      object_step (record { scheme = with_objects done; last = last' }) o
      (named_among (λ (x : ObjectModel). x.name) done o todo m.objects split w.objects_named)
      h' (omega arith)
      (new_among (λ (x : ObjectModel). x.name) done o todo m.objects split w.objects_named)
      w.few_attributes
      (sizes_small m.attributes w.sizes)
      (values_tested m.attributes o.values (split_at done o todo m.objects split (λ (x : ObjectModel). AllZip ValueFits m.attributes x.values) w.values)))
      [] m.objects last refl (omega arith) h

  module _ (done : List PolicyModel) (p : PolicyModel) where
    -- the policy as far as it is declared
    abbrev so_far : List Predicate → List Action → SchemeModel
    so_far xs ys = with_policies_of (done ++ record { name = p.name; right = p.right; predicates = xs; actions = ys } ∷ [])

    module _ (fit : PolicyFits (length m.attributes) p) where
      predicates_read : (last : Option Kind) → 3 ≤ last_rank last → last_rank last ≤ 4 → Leads (record { scheme = so_far [] []; last = last }) (map (predicate_words m) p.predicates) (so_far p.predicates []) 3 4
      predicates_read last l h =
          stage (predicate_words m) kind.If 3 4 (omega arith) (omega arith) (λ xs. so_far xs []) p.predicates
          (λ xs x todo last' split l' h'.
          let now : PolicyModel = record { name = p.name; right = p.right; predicates = xs; actions = [] } in
          let few = fit.few_predicates in
          let some = split_length xs x todo p.predicates split in
          subst (λ ps. Step (record { scheme = so_far xs []; last = last' }) (predicate_words m x) (record { scheme = with_policies_of ps; last = Some kind.If }))
          (last_filled_of (clause.If x) done now)
          (predicate_step (record { scheme = so_far xs []; last = last' }) w.attributes_named l' h'
          (last_room_of predicate_room done now ∙ lt-ltb (length xs) 6 (omega arith))
          x (split_at xs x todo p.predicates split (PredicateFits (length m.attributes)) fit.predicates)))
          [] p.predicates last refl l h

      actions_read : (last : Option Kind) → 3 ≤ last_rank last → last_rank last ≤ 5 → Leads (record { scheme = so_far p.predicates []; last = last }) (map (action_words m) p.actions) (so_far p.predicates p.actions) 3 5
      actions_read last l h =
          stage (action_words m) kind.Do 3 5 (omega arith) (omega arith) (λ ys. so_far p.predicates ys) p.actions
          (λ ys y todo last' split l' h'.
          let now : PolicyModel = record { name = p.name; right = p.right; predicates = p.predicates; actions = ys } in
          let few = fit.few_actions in
          let some = split_length ys y todo p.actions split in
          subst (λ ps. Step (record { scheme = so_far p.predicates ys; last = last' }) (action_words m y) (record { scheme = with_policies_of ps; last = Some kind.Do }))
          (last_filled_of (clause.Do y) done now)
          (action_step (record { scheme = so_far p.predicates ys; last = last' }) w.attributes_named l' h'
          (last_room_of action_room done now ∙ lt-ltb (length ys) 6 (omega arith))
          y (split_at ys y todo p.actions split (ActionFits (length m.attributes)) fit.actions)))
          [] p.actions last refl l h

      clauses_read : Leads (record { scheme = so_far [] []; last = Some kind.Policy }) (map (predicate_words m) p.predicates ++ map (action_words m) p.actions) (so_far p.predicates p.actions) 3 5
      clauses_read =
          leads_on (record { scheme = so_far [] []; last = Some kind.Policy }) (map (predicate_words m) p.predicates) (map (action_words m) p.actions) (so_far p.predicates []) (so_far p.predicates p.actions) 3 4 3 5
          (predicates_read (Some kind.Policy) (omega arith) (omega arith))
          (λ last l h. actions_read last l (omega arith))

  policies_read : (done todo : List PolicyModel) (last : Option Kind) → done ++ todo ≡ m.policies → last_rank last ≤ 5 → Leads (record { scheme = with_policies_of done; last = last }) (flat_map (policy_lines m) todo) (with_policies_of m.policies) 0 5
  policies_read done [] last split h = record { last = last; least = omega arith; most = h; reads = ap (λ ps. record { scheme = with_policies_of ps; last = last }) (sym (append-nil done) ∙ split) }
  policies_read done (p ∷ todo) last split h =
      let few = w.few_policies in
      let some = split_length done p todo m.policies split in
      let first = policy_step (record { scheme = with_policies_of done; last = last }) p.name p.right
      (named_among (λ (x : PolicyModel). x.name) done p todo m.policies split w.policies_named)
      w.rights_named
      (split_at done p todo m.policies split (λ (x : PolicyModel). x.right < length m.rights) w.policy_rights)
      h (omega arith)
      (new_among (λ (x : PolicyModel). x.name) done p todo m.policies split w.policies_named) in
      let opening : Progress = record { scheme = so_far done p [] []; last = Some kind.Policy } in
      let rest = leads_on opening
      (map (predicate_words m) p.predicates ++ map (action_words m) p.actions) (flat_map (policy_lines m) todo) (with_policies_of (done ++ p ∷ [])) (with_policies_of m.policies) 3 5 0 5
      (clauses_read done p (split_at done p todo m.policies split (PolicyFits (length m.attributes)) w.policies))
      (λ last' l h'. policies_read (done ++ p ∷ []) todo last' (append_assoc done (p ∷ []) todo ∙ split) h') in
      record { last = rest.last; least = rest.least; most = rest.most; reads = (opening, (first, rest.reads)) }

  queries_read : (last : Option Kind) → last_rank last ≤ 6 → Leads (record { scheme = with_queries []; last = last }) (map (query_words m) m.queries) (with_queries m.queries) 0 6
  queries_read last h =
      stage (query_words m) kind.Query 0 6 (omega arith) (omega arith) with_queries m.queries
      (λ done q todo last' split l h'.
      let few = w.few_queries in
      let some = split_length done q todo m.queries split in
      query_step (record { scheme = with_queries done; last = last' }) q w.objects_named w.rights_named
      (split_at done q todo m.queries split (QueryFits (length m.objects) (length m.rights)) w.queries)
      (omega arith))
      [] m.queries last refl (omega arith) h

  all_read : Leads start (written_lines m) m 0 6
  all_read =
      leads_on start (map attribute_words m.attributes) (map right_words m.rights ++ (map object_words m.objects ++ (flat_map (policy_lines m) m.policies ++ map (query_words m) m.queries))) (attributes_only m.attributes) m 0 0 0 6
      (attributes_read None (omega arith))
      (λ a la ha.
      leads_on (record { scheme = attributes_only m.attributes; last = a }) (map right_words m.rights) (map object_words m.objects ++ (flat_map (policy_lines m) m.policies ++ map (query_words m) m.queries)) (with_rights m.rights) m 0 1 0 6
      (rights_read a (omega arith))
      (λ b lb hb.
      leads_on (record { scheme = with_rights m.rights; last = b }) (map object_words m.objects) (flat_map (policy_lines m) m.policies ++ map (query_words m) m.queries) (with_objects m.objects) m 0 2 0 6
      (objects_read b (omega arith))
      (λ c lc hc.
      leads_on (record { scheme = with_objects m.objects; last = c }) (flat_map (policy_lines m) m.policies) (map (query_words m) m.queries) (with_policies_of m.policies) m 0 5 0 6
      (policies_read [] m.policies c refl (omega arith))
      (λ e le he. queries_read e (omega arith)))))

  -- a policy has at most 13 lines
  policies_length : (ps : List PolicyModel) → All (PolicyFits (length m.attributes)) ps → length (flat_map (policy_lines m) ps) ≤ 13 * length ps
  policies_length [] all = omega arith
  policies_length (p ∷ ps) all =
      let fit = all 0 p (omega arith) in
      let few_predicates = fit.few_predicates in
      let few_actions = fit.few_actions in
      let rest = policies_length ps (λ k d h. all (suc k) d (omega arith)) in
      omega (arith, length-append (policy_lines m p) (flat_map (policy_lines m) ps), length-append (map (predicate_words m) p.predicates) (map (action_words m) p.actions), length-map p.predicates (predicate_words m), length-map p.actions (action_words m))

  lines_length : length (written_lines m) ≤ 460
  lines_length =
      let a = w.few_attributes in
      let b = w.few_rights in
      let c = w.few_objects in
      let d = w.few_policies in
      let e = w.few_queries in
      let ps = policies_length m.policies w.policies in
      let la = length-map m.attributes attribute_words in
      let lb = length-map m.rights right_words in
      let lc = length-map m.objects object_words in
      let le = length-map m.queries (query_words m) in
      let l1 = length-append (flat_map (policy_lines m) m.policies) (map (query_words m) m.queries) in
      let l2 = length-append (map object_words m.objects) (flat_map (policy_lines m) m.policies ++ map (query_words m) m.queries) in
      let l3 = length-append (map right_words m.rights) (map object_words m.objects ++ (flat_map (policy_lines m) m.policies ++ map (query_words m) m.queries)) in
      let l4 = length-append (map attribute_words m.attributes) (map right_words m.rights ++ (map object_words m.objects ++ (flat_map (policy_lines m) m.policies ++ map (query_words m) m.queries))) in
      omega arith

  text_length : length (written m) ≤ 65535
  text_length =
      let all = all_read in
      let long = reads_length (written_lines m) start (record { scheme = m; last = all.last }) all.reads in
      let few = lines_length in
      omega arith

  -- a text with the words of the scheme is read
  pub reads_words : (text : List ℕ) → length text ≤ 65535 → AllByRecursion PrintableLine (text_lines text) → worded_lines text ≡ written_lines m → reading text ≡ Ok m
  reads_words text short plain says =
      let all = all_read in
      cond-true (leb (length text) 65535) _ _ (le-leb (length text) 65535 short)
      ∙ reads_lines 1 (text_lines text) (written_lines m) start (record { scheme = m; last = all.last }) all.reads says plain (complete_tested m w) (le-leb (state_count m) 1048576 w.few_states)

  written_cut : text_lines (written m) ≡ numbered 1 (map parted (written_lines m))
  written_cut = let all = all_read in ap (numbered 1) (reads_cut (written_lines m) start (record { scheme = m; last = all.last }) all.reads)

pub reads_back : (m : SchemeModel) → Writable m → reading (written m) ≡ Ok m
reads_back m w =
    let all = all_read m w in
    let end : Progress = record { scheme = m; last = all.last } in
    reads_words m w (written m) (text_length m w)
    (subst (AllByRecursion PrintableLine) (sym (written_cut m w)) (reads_plain 1 (written_lines m) start end all.reads))
    (ap (λ ls. filter has_word (map worded ls)) (written_cut m w) ∙ reads_say 1 (written_lines m) start end all.reads)

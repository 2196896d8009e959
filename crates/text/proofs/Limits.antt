-- What lines without a fault declare is within the limits of the format: each scheme that is read is one that a text is
-- written from.
use Rattle.std.proofs.Common.{◌≡◌, ℕ, ◌+◌, ◌<◌, ◌≤◌, Bool, true, false, cond, ◌&&◌, ◌||◌, eqb, ltb, ◌⊎◌, List, [], ◌∷◌, ◌++◌, length, is_some, Some, None, Ok, Option, All, codes, bytes_eq, sym, refl, ap, ◌∙◌, subst, inl, inr, ⊎_elim, arith}
use Rattle.std.proofs.lemmas.List.{length_push, length-map}
use Rattle.std.proofs.lemmas.List.Elements.{All-nil, All-cons, All-push, All-weaker}
use Rattle.std.proofs.lemmas.Bool.{false≢true, both_ways, true_from_ne_false, false_from_ne_true, cases_lt, and_parts, or_cases, cond_both, ltb-true, eqb-true}
use Rattle.scheme.specs.declared.kind.Kind.{Kind}
use Rattle.scheme.specs.declared.kind.Kind.TheVariants as kind
use Rattle.scheme.specs.declared.terms.Party.{Party}
use Rattle.scheme.specs.declared.terms.Party.TheVariants.{Subject, Object}
use Rattle.scheme.specs.declared.terms.Term.{Term}
use Rattle.scheme.specs.declared.terms.Predicate.TheVariants.{Null, Set}
use Rattle.scheme.specs.declared.terms.Action.TheVariants.{Add, Sub, Destroy}
use Rattle.scheme.specs.declared.terms.Clause.{Clause}
use Rattle.scheme.specs.declared.terms.Clause.TheVariants as clause
use Rattle.scheme.specs.declared.entries.Query.{Query}
use Rattle.scheme.specs.Names.{index_of}
use Rattle.scheme.specs.Models.{AttributeModel, ObjectModel, PolicyModel, SchemeModel, attribute_names, object_names, policy_names, names_of, has_room, last_room, last_filled, with_policies, opened as opened_policy, room_for}
use Rattle.scheme.specs.Counts.{state_count}
use Rattle.scheme.specs.Sizes.{sizes_of}
use Rattle.scheme.specs.WellFormed.{objects_fit, rights_fit, well_formed}
use Rattle.protection.specs.Permissions.{within}
use Rattle.record.specs.Systems.{permission_asked}
use Rattle.words.specs.Positions.{PlainLine, PlainWord, word_in}
use Rattle.words.specs.Cuts.{words_of, text_lines}
use Rattle.words.specs.Tokens.{Form, name, number, term, operator, other, form_of}
use Rattle.lines.specs.declared.role.Role.TheVariants as role
use Rattle.lines.specs.declared.role.Instead.{Instead}
use Rattle.lines.specs.declared.role.Instead.TheVariants.{Nothing, Number, NumberOrDash}
use Rattle.lines.specs.declared.role.Key.TheVariants as test
use Rattle.lines.specs.Roles.{role_at, a_number, fits}
use Rattle.text.specs.Declaring as d
use Rattle.text.specs.Reading.{Progress, start, complete, reading}
use Rattle.text.specs.Refusing.{forms, most, used, undefined, ranges, Opens, Faultless, below, first_kind, below_line, Passed}
use Rattle.text.specs.Writing.{IsName, NamesFit, OperandFits, PredicateFits, ActionFits, PolicyFits, QueryFits, Writable}
use Rattle.text.proofs.Sound.{queries_fit, index_below, opens_first, counted, passed_sound, start_sound}
use Rattle.text.proofs.Whole.{reading_as_the_table_says, is_complete}
use Rattle.text.proofs.Named.{name_means, objects_mean, rights_mean, complete_means}
use Rattle.text.proofs.Added.{names_push, Few, one_more, policy_more, ClauseFits, last_fits, filled_names, named, number_small, amount_small}

-- what the lines so far declare is within the limits, apart from what `Sound` says
record Limited (m : SchemeModel) : Type 0 where
  attributes : Few 4 (attribute_names m)
  rights : Few 16 m.rights
  objects : Few 8 (object_names m)
  policies : Few 32 (policy_names m)
  sizes : All (λ (a : AttributeModel). (1 ≤ a.size) × (a.size ≤ 250)) m.attributes
  clauses : All (PolicyFits (length m.attributes)) m.policies
  few_queries : length m.queries ≤ 16

-- a line without a fault

module _ (p : Progress) (l : PlainLine) (faultless : Faultless p l) (k : Kind) (opened : Opens l k) where
  abbrev ws : List PlainWord
  ws = words_of l

  abbrev m : SchemeModel
  m = p.scheme

  abbrev few : ℕ
  few = length m.attributes

  room : room_for k m ≡ true
  room = true_from_ne_false (room_for k m) (λ lacks. faultless most 0 (refl, (k, (opened, lacks))))

  module _ (i : ℕ) (behind : 0 < i) (inside : i < length ws) where
    abbrev w : PlainWord
    w = word_in ws i

    formed : fits (role_at k ws i) (form_of w.bytes) ≡ true
    formed = true_from_ne_false (fits (role_at k ws i) (form_of w.bytes)) (λ lacks. faultless forms i (behind, inside, (k, (opened, lacks))))

    unused : role_at k ws i ≡ role.NewName → is_some (index_of w.bytes (names_of k m)) ≡ false
    unused at = false_from_ne_true (is_some (index_of w.bytes (names_of k m))) (λ is. faultless used i (behind, inside, (k, (opened, (at, is)))))

    new_name : role_at k ws i ≡ role.NewName → IsName (d.name_in w) × (is_some (index_of (d.name_in w) (names_of k m)) ≡ false)
    new_name at =
        let told = named w (form_of w.bytes) refl (ap (λ r. fits r (form_of w.bytes)) (sym at) ∙ formed) in
        (name_means (d.name_in w) told.0, ap (λ b. is_some (index_of b (names_of k m))) told.1 ∙ unused at)

    module _ (o : Instead) (at : role_at k ws i ≡ role.Term o) where
      attributed : (q : Party) (a : List ℕ) → form_of w.bytes ≡ term q a → is_some (index_of a (attribute_names m)) ≡ true
      attributed q a is = true_from_ne_false (is_some (index_of a (attribute_names m))) (λ lacks. faultless undefined i (behind, inside, (k, (opened, inr (o, (q, (a, (at, is, lacks))))))))

      found : (q : Party) (a : List ℕ) → form_of w.bytes ≡ term q a → d.number_among a (attribute_names m) < few
      found q a is =
          let low = index_below 0 a (attribute_names m) (attributed q a is) in
          let long = length-map m.attributes (λ (x : AttributeModel). x.name) in
          omega arith

      form_fits : fits (role.Term o) (form_of w.bytes) ≡ true
      form_fits = ap (λ r. fits r (form_of w.bytes)) (sym at) ∙ formed

    term_low : role_at k ws i ≡ role.Term Nothing → (d.term_in m w).attribute < few
    term_low at = low (form_of w.bytes) refl (form_fits Nothing at)
      where
        low : (f : Form) → form_of w.bytes ≡ f → fits (role.Term Nothing) f ≡ true → (d.term_in m w).attribute < few
        low (name b) is h = absurd (false≢true h)
        low (number n) is h = absurd (false≢true h)
        low (term q a) is h = rw is (found Nothing at q a is)
        low (operator x) is h = absurd (false≢true h)
        low other is h = absurd (false≢true h)

    operand_low : role_at k ws i ≡ role.Term Number → OperandFits few (d.operand_in m w)
    operand_low at = low (form_of w.bytes) refl (form_fits Number at)
      where
        low : (f : Form) → form_of w.bytes ≡ f → fits (role.Term Number) f ≡ true → OperandFits few (d.operand_in m w)
        low (name b) is h = absurd (false≢true h)
        low (number n) is h = rw is (number_small w n is)
        low (term Subject a) is h = rw is (found Number at Subject a is)
        low (term Object a) is h = rw is (found Number at Object a is)
        low (operator x) is h = absurd (false≢true h)
        low other is h = absurd (false≢true h)

    source_low : (t : Term) → t.attribute < few → role_at k ws i ≡ role.Term NumberOrDash → ActionFits few (d.source_in m t w)
    source_low t less at = low (form_of w.bytes) refl (form_fits NumberOrDash at)
      where
        low : (f : Form) → form_of w.bytes ≡ f → fits (role.Term NumberOrDash) f ≡ true → ActionFits few (d.source_in m t w)
        low (name b) is h = absurd (false≢true h)
        low (number n) is h = rw is (less, number_small w n is)
        low (term Subject a) is h = rw is (less, found NumberOrDash at Subject a is)
        low (term Object a) is h = rw is (less, found NumberOrDash at Object a is)
        low (operator x) is h = rw is less
        low other is h = absurd (false≢true h)

    amount_low : role_at k ws i ≡ role.Amount → d.number_in w ≤ 255
    amount_low at = amount_small w (form_of w.bytes) refl (ap (λ r. fits r (form_of w.bytes)) (sym at) ∙ formed)

    size_low : role_at k ws i ≡ role.Size → (1 ≤ d.number_in w) × (d.number_in w ≤ 250)
    size_low at = low (form_of w.bytes) refl (ap (λ r. fits r (form_of w.bytes)) (sym at) ∙ formed)
      where
        refused : (n : ℕ) → form_of w.bytes ≡ number n → ((n < 1) ⊎ (250 < n)) → ⊥
        refused n is lacks = faultless ranges i (behind, inside, (k, (opened, inl (n, (at, is, lacks)))))

        low : (f : Form) → form_of w.bytes ≡ f → a_number f ≡ true → (1 ≤ d.number_in w) × (d.number_in w ≤ 250)
        low (number n) is h =
            rw is (
              ⊎_elim (λ (lacks : n < 1). absurd (refused n is (inl lacks))) (λ (least : 1 ≤ n). least) (cases_lt n 1),
              ⊎_elim (λ (lacks : 250 < n). absurd (refused n is (inr lacks))) (λ (most' : n ≤ 250). most') (cases_lt 250 n),
            )
        low (name b) is h = absurd (false≢true h)
        low (term q a) is h = absurd (false≢true h)
        low (operator x) is h = absurd (false≢true h)
        low other is h = absurd (false≢true h)

module _ (p : Progress) (l : PlainLine) (faultless : Faultless p l) where
  abbrev line_words : List PlainWord
  line_words = words_of l

  abbrev above : SchemeModel
  above = p.scheme

  four : (eqb (length line_words) 3 || eqb (length line_words) 4) ≡ true → eqb (length line_words) 3 ≡ false → length line_words ≡ 4
  four either differs =
      ⊎_elim
      (λ (is : eqb (length line_words) 3 ≡ true). absurd (both_ways (eqb (length line_words) 3) differs is))
      (λ (is : eqb (length line_words) 4 ≡ true). eqb-true (length line_words) 4 is)
      (or_cases (eqb (length line_words) 3) (eqb (length line_words) 4) either)

  predicate_fits : Opens l kind.If → PredicateFits (length above.attributes) (d.predicate_in above line_words)
  predicate_fits opened =
      let t = d.term_in above (word_in line_words 1) in
      cond_both (eqb (length line_words) 3) (d.test_in above line_words) (d.compare_in above line_words) (PredicateFits (length above.attributes))
      (λ three.
      let count = eqb-true (length line_words) 3 three in
      let low = term_low p l faultless kind.If opened 1 (omega arith) (omega arith) refl in
      cond_both (bytes_eq (word_in line_words 2).bytes (codes "null")) (Null t) (Set t) (PredicateFits (length above.attributes)) (λ _. low) (λ _. low))
      (λ differs.
      let count = four (counted p l faultless kind.If opened) differs in (
        term_low p l faultless kind.If opened 1 (omega arith) (omega arith) refl,
        operand_low p l faultless kind.If opened 3 (omega arith) (omega arith) (ap (λ b. cond b (role.Key test.Test) (role.Term Number)) differs),
      ))

  action_fits : Opens l kind.Do → ActionFits (length above.attributes) (d.action_in above line_words)
  action_fits opened =
      let t = d.term_in above (word_in line_words 1) in
      let verb = (word_in line_words 2).bytes in
      let last = word_in line_words 3 in
      let behind : List ℕ → Bool → _ = λ v b. cond b (role.Key test.Party) (cond (bytes_eq v (codes "to")) (role.Term NumberOrDash) role.Amount) in
      cond_both (eqb (length line_words) 3) (Destroy (d.party_in (word_in line_words 2)))
      (cond (bytes_eq verb (codes "to")) (d.source_in above t last) (cond (bytes_eq verb (codes "add")) (Add t (d.number_in last)) (Sub t (d.number_in last))))
      (ActionFits (length above.attributes))
      (λ _. tt)
      (λ differs.
      let count = four (counted p l faultless kind.Do opened) differs in
      let low = term_low p l faultless kind.Do opened 1 (omega arith) (omega arith) (ap (λ b. cond b (role.Key test.Destroy) (role.Term Nothing)) differs) in
      let at = ap (behind verb) differs in
      cond_both (bytes_eq verb (codes "to")) (d.source_in above t last) (cond (bytes_eq verb (codes "add")) (Add t (d.number_in last)) (Sub t (d.number_in last)))
      (ActionFits (length above.attributes))
      (λ to. source_low p l faultless kind.Do opened 3 (omega arith) (omega arith) t low (at ∙ ap (λ b. cond b (role.Term NumberOrDash) role.Amount) to))
      (λ other_verb.
      let small = amount_low p l faultless kind.Do opened 3 (omega arith) (omega arith) (at ∙ ap (λ b. cond b (role.Term NumberOrDash) role.Amount) other_verb) in
      cond_both (bytes_eq verb (codes "add")) (Add t (d.number_in last)) (Sub t (d.number_in last)) (ActionFits (length above.attributes)) (λ _. (low, small)) (λ _. (low, small))))

  module _ (h : Limited above) where
    filled_limited : (c : Clause) → ClauseFits (length above.attributes) c → last_room (has_room c) above.policies ≡ true → Limited (with_policies (last_filled c above.policies) above)
    filled_limited c one room = record {
      attributes = h.attributes;
      rights = h.rights;
      objects = h.objects;
      policies = subst (Few 32) (sym (filled_names c above.policies)) h.policies;
      sizes = h.sizes;
      clauses = last_fits (length above.attributes) c above.policies one room h.clauses;
      few_queries = h.few_queries;
    }

    kind_limited : (k : Kind) → Opens l k → Limited (d.declared k line_words above)
    kind_limited kind.Attr opened =
        let count = eqb-true (length line_words) 3 (counted p l faultless kind.Attr opened) in
        let a = d.attribute_in line_words in
        let long = length_push above.attributes a in
        let sized = size_low p l faultless kind.Attr opened 2 (omega arith) (omega arith) refl in
        record {
          attributes = one_more (λ (x : AttributeModel). x.name) 4 above.attributes a (room p l faultless kind.Attr opened) (new_name p l faultless kind.Attr opened 1 (omega arith) (omega arith) refl) h.attributes;
          rights = h.rights;
          objects = h.objects;
          policies = h.policies;
          sizes = All-push (λ (x : AttributeModel). (1 ≤ x.size) × (x.size ≤ 250)) above.attributes a h.sizes sized;
          clauses = All-weaker (PolicyFits (length above.attributes)) (PolicyFits (length (above.attributes ++ a ∷ []))) (policy_more (length above.attributes) (length (above.attributes ++ a ∷ [])) (omega arith)) above.policies h.clauses;
          few_queries = h.few_queries;
        }
    kind_limited kind.Right opened =
        let count = eqb-true (length line_words) 2 (counted p l faultless kind.Right opened) in
        let new = new_name p l faultless kind.Right opened 1 (omega arith) (omega arith) refl in
        record {
          attributes = h.attributes;
          rights = record { few = let some = ltb-true (length above.rights) 16 (room p l faultless kind.Right opened) in let long = length_push above.rights (d.name_in (word_in line_words 1)) in omega arith; fit = names_push above.rights (d.name_in (word_in line_words 1)) h.rights.fit new.1 new.0 };
          objects = h.objects;
          policies = h.policies;
          sizes = h.sizes;
          clauses = h.clauses;
          few_queries = h.few_queries;
        }
    kind_limited kind.Object opened =
        let count = eqb-true (length line_words) (length above.attributes + 2) (counted p l faultless kind.Object opened) in
        record {
          attributes = h.attributes;
          rights = h.rights;
          objects = one_more (λ (x : ObjectModel). x.name) 8 above.objects (d.object_in above line_words) (room p l faultless kind.Object opened) (new_name p l faultless kind.Object opened 1 (omega arith) (omega arith) refl) h.objects;
          policies = h.policies;
          sizes = h.sizes;
          clauses = h.clauses;
          few_queries = h.few_queries;
        }
    kind_limited kind.Policy opened =
        let count = eqb-true (length line_words) 3 (counted p l faultless kind.Policy opened) in
        let new : PolicyModel = opened_policy (d.name_in (word_in line_words 1)) (d.number_among (word_in line_words 2).bytes above.rights) in
        record {
          attributes = h.attributes;
          rights = h.rights;
          objects = h.objects;
          policies = one_more (λ (x : PolicyModel). x.name) 32 above.policies new (room p l faultless kind.Policy opened) (new_name p l faultless kind.Policy opened 1 (omega arith) (omega arith) refl) h.policies;
          sizes = h.sizes;
          clauses = All-push (PolicyFits (length above.attributes)) above.policies new h.clauses (record { few_predicates = omega arith; few_actions = omega arith; predicates = All-nil (PredicateFits (length above.attributes)); actions = All-nil (ActionFits (length above.attributes)) });
          few_queries = h.few_queries;
        }
    kind_limited kind.If opened = filled_limited (clause.If (d.predicate_in above line_words)) (predicate_fits opened) (room p l faultless kind.If opened)
    kind_limited kind.Do opened = filled_limited (clause.Do (d.action_in above line_words)) (action_fits opened) (room p l faultless kind.Do opened)
    kind_limited kind.Query opened =
        let some = ltb-true (length above.queries) 16 (room p l faultless kind.Query opened) in
        let long = length_push above.queries (d.query_in above line_words) in
        record {
          attributes = h.attributes;
          rights = h.rights;
          objects = h.objects;
          policies = h.policies;
          sizes = h.sizes;
          clauses = h.clauses;
          few_queries = omega arith;
        }

    below_limited : (o : Option Kind) → first_kind line_words ≡ o → Limited (below p line_words o).scheme
    below_limited None is = h
    below_limited (Some k) is = kind_limited k (opens_first line_words k is)

no_names : NamesFit []
no_names = record { each = All-nil IsName; distinct = λ i j within_i within_j same. absurd (omega arith) }

start_limited : Limited start.scheme
start_limited = record {
  attributes = record { few = omega arith; fit = no_names };
  rights = record { few = omega arith; fit = no_names };
  objects = record { few = omega arith; fit = no_names };
  policies = record { few = omega arith; fit = no_names };
  sizes = All-nil (λ (a : AttributeModel). (1 ≤ a.size) × (a.size ≤ 250));
  clauses = All-nil (PolicyFits 0);
  few_queries = omega arith;
}

passed_limited : (p : Progress) (ls : List PlainLine) (q : Progress) → Passed p ls q → Limited p.scheme → Limited q.scheme
passed_limited p [] q e h = subst (λ (x : Progress). Limited x.scheme) e h
passed_limited p (l ∷ ls) q (faultless, e) h = passed_limited (below_line p l) ls q e (below_limited p l faultless h (first_kind (words_of l)) refl)

queries_listed : (o r : ℕ) (qs : List Query) → queries_fit o r qs ≡ true → All (QueryFits o r) qs
queries_listed o r [] h = All-nil (QueryFits o r)
queries_listed o r (q ∷ qs) h =
    let parts = and_parts (within o r (permission_asked q)) (queries_fit o r qs) h in
    let subject = and_parts (ltb q.subject o) (ltb q.object o && ltb q.right r) parts.0 in
    let object = and_parts (ltb q.object o) (ltb q.right r) subject.1 in
    All-cons (QueryFits o r) q qs
    (record { subject = ltb-true q.subject o subject.0; object = ltb-true q.object o object.0; right = ltb-true q.right r object.1 })
    (queries_listed o r qs parts.1)

writable : (m : SchemeModel) → complete m ≡ true → state_count m ≤ 1048576 → well_formed m ≡ true → queries_fit (length m.objects) (length m.rights) m.queries ≡ true → Limited m → Writable m
writable m whole few formed asked h =
    let attributes = h.attributes.few in
    let objects = h.objects.few in
    let policies = h.policies.few in
    let named_attributes = length-map m.attributes (λ (a : AttributeModel). a.name) in
    let named_objects = length-map m.objects (λ (o : ObjectModel). o.name) in
    let named_policies = length-map m.policies (λ (p : PolicyModel). p.name) in
    let some = complete_means m whole in
    let fit = and_parts (objects_fit (sizes_of m) m.objects) (rights_fit (length m.rights) m.policies) formed in
    record {
      some_attribute = some.0;
      some_right = some.1;
      some_object = some.2;
      few_attributes = omega arith;
      few_rights = h.rights.few;
      few_objects = omega arith;
      few_policies = omega arith;
      few_queries = h.few_queries;
      attributes_named = h.attributes.fit;
      rights_named = h.rights.fit;
      objects_named = h.objects.fit;
      policies_named = h.policies.fit;
      sizes = h.sizes;
      values = objects_mean m.attributes m.objects fit.0;
      policy_rights = rights_mean (length m.rights) m.policies fit.1;
      policies = h.clauses;
      queries = queries_listed (length m.objects) (length m.rights) m.queries asked;
      few_states = few;
    }

-- every text that is read declares a scheme within the limits
pub reading_writable : (text : List ℕ) (m : SchemeModel) → reading text ≡ Ok m → Writable m
reading_writable text m h =
    let a = (reading_as_the_table_says text (Ok m) (sym h)).said in
    let q = a.all.scheme in
    let sound = passed_sound start (text_lines text) a.all a.passed start_sound in
    let limited = passed_limited start (text_lines text) a.all a.passed start_limited in
    subst Writable (sym a.scheme) (writable q (is_complete q (complete q) refl a.complete) a.few sound.formed sound.asked limited)

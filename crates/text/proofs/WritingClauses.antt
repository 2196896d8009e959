-- Policy lines, `if` and `do` lines and query lines of a written text are read, and declare what they were written from.
use Rattle.std.proofs.Common.{◌≡◌, ℕ, ◌<◌, ◌≤◌, true, false, cond, ◌&&◌, leb, List, [], ◌∷◌, ◌++◌, length, is_some, Some, None, Ok, codes, decimal, bytes_eq, unwrap_or, refl, ap, ap₂, ◌∙◌, arith}
use Rattle.std.specs.List.{AllByRecursion}
use Rattle.std.proofs.lemmas.List.{length-map}
use Rattle.std.proofs.lemmas.Bool.{and_from, cond-true, lt-ltb, le-leb}
use Rattle.scheme.specs.declared.kind.Kind.TheVariants as kind
use Rattle.scheme.specs.declared.terms.Party.{Party}
use Rattle.scheme.specs.declared.terms.Party.TheVariants.{Subject, Object}
use Rattle.scheme.specs.declared.terms.Term.{Term}
use Rattle.scheme.specs.declared.terms.Comparison.{Comparison}
use Rattle.scheme.specs.declared.terms.Operand.{Operand}
use Rattle.scheme.specs.declared.terms.Operand.TheVariants.{SubjectAttribute, ObjectAttribute, Constant}
use Rattle.scheme.specs.declared.terms.Predicate.{Predicate}
use Rattle.scheme.specs.declared.terms.Predicate.TheVariants.{Null, Set, Compare}
use Rattle.scheme.specs.declared.terms.Action.{Action}
use Rattle.scheme.specs.declared.terms.Action.TheVariants.{Assign, Clear, Add, Sub, Destroy}
use Rattle.scheme.specs.declared.terms.Clause.TheVariants as clause
use Rattle.scheme.specs.declared.entries.Query.{Query}
use Rattle.scheme.specs.Names.{index_of}
use Rattle.scheme.specs.Models.{AttributeModel, ObjectModel, SchemeModel, attribute_names, object_names, policy_names, opened, predicate_room, action_room, last_room, last_filled, with_policies, with_query}
use Rattle.words.specs.Positions.{PlainWord, word_in}
use Rattle.words.specs.Forms.{is_name}
use Rattle.words.specs.Tokens.{name, number, term, operator, form_of}
use Rattle.words.specs.declared.token.Operator.TheVariants as operators
use Rattle.lines.specs.Kinds.{last_rank}
use Rattle.lines.specs.declared.role.Role.TheVariants as role
use Rattle.lines.specs.declared.role.Instead.TheVariants.{Number, NumberOrDash}
use Rattle.lines.specs.declared.role.Key.TheVariants as test
use Rattle.lines.specs.Roles.{fits}
use Rattle.text.specs.Naming.{term_check, term_form_check, role_check}
use Rattle.text.specs.Declaring as d
use Rattle.text.specs.Reading.{Progress}
use Rattle.text.specs.Writing.{name_at, comparison_word, term_word, operand_word, predicate_words, action_words, query_words, NamesFit, OperandFits, PredicateFits, ActionFits, QueryFits}
use Rattle.text.proofs.Named.{name_tested}
use Rattle.text.proofs.WritingCut.{Inked, spelled, standing, spots}
use Rattle.text.proofs.WritingForms.{name_form, name_inked, decimal_form, decimal_inked, term_form_of, term_inked, comparison_form_of, comparison_inked, found}
use Rattle.text.proofs.WritingLines.{Step, line_read, form_passes, new_passes, known_passes}

-- policies

pub policy_step : (p : Progress) (b : List ℕ) (right : ℕ) → is_name b ≡ true → NamesFit p.scheme.rights → right < length p.scheme.rights → last_rank p.last ≤ 5 → length p.scheme.policies < 32 → index_of b (policy_names p.scheme) ≡ None
    → Step p (codes "policy" ∷ b ∷ name_at p.scheme.rights right ∷ []) (record { scheme = with_policies (p.scheme.policies ++ opened b right ∷ []) p.scheme; last = Some kind.Policy })
policy_step p b right named fit less last room new =
    let r : List ℕ = name_at p.scheme.rights right in
    let right_named = name_tested r (fit.each right [] less) in
    let at : index_of r p.scheme.rights ≡ Some right = found p.scheme.rights right fit less in
    let all : AllByRecursion Inked (codes "policy" ∷ b ∷ r ∷ []) = (spelled (codes "policy") refl, (name_inked b named, (name_inked r right_named, tt))) in
    record {
      inked = all;
      some = omega arith;
      few = omega arith;
      reads = λ l plain says.
          let ws = standing (spots l) (codes "policy" ∷ b ∷ r ∷ []) in
          line_read p l plain kind.Policy (codes "policy") (b ∷ r ∷ []) all says (with_policies (p.scheme.policies ++ opened b right ∷ []) p.scheme) refl
          (le-leb (last_rank p.last) 5 last)
          refl
          (refl, (form_passes kind.Policy ws 1 (word_in ws 1) (name b) (name_form b named) refl, (form_passes kind.Policy ws 2 (word_in ws 2) (name r) (name_form r right_named) refl, tt)))
          (lt-ltb (length p.scheme.policies) 32 room)
          (refl, (new_passes p.scheme kind.Policy (word_in ws 1) new, (known_passes p.scheme kind.Right (word_in ws 2) right at, tt)))
          (ap₂ (λ f i. with_policies (p.scheme.policies ++ opened (d.name_form f) (unwrap_or i 0) ∷ []) p.scheme) (name_form b named) at);
    }

-- terms

module _ (m : SchemeModel) (fit : NamesFit (attribute_names m)) where
  module _ (q : Party) (a : ℕ) (less : a < length m.attributes) where
    abbrev named_a : List ℕ
    named_a = name_at (attribute_names m) a

    a_less : a < length (attribute_names m)
    a_less = let long = length-map m.attributes (λ (x : AttributeModel). x.name) in omega arith

    a_named : is_name named_a ≡ true
    a_named = name_tested named_a (fit.each a [] a_less)

    a_found : index_of named_a (attribute_names m) ≡ Some a
    a_found = found (attribute_names m) a fit a_less

    term_inks : Inked (term_word m q a)
    term_inks = term_inked q named_a a_named

    term_is : form_of (term_word m q a) ≡ term q named_a
    term_is = term_form_of q named_a a_named

    term_passes : (w : PlainWord) → form_of w.bytes ≡ term q named_a → term_check m w ≡ Ok tt
    term_passes w is = ap (term_form_check m w) is ∙ cond-true (is_some (index_of named_a (attribute_names m))) _ _ (ap is_some a_found)

    term_again : (w : PlainWord) → form_of w.bytes ≡ term q named_a → d.term_in m w ≡ record { party = q; attribute = a }
    term_again w is = rw is (ap (λ i. record { party = q; attribute = unwrap_or i 0 }) a_found)

  operand_again : (w : PlainWord) (o : Operand) → OperandFits (length m.attributes) o → w.bytes ≡ operand_word m o → d.operand_in m w ≡ o
  operand_again w (SubjectAttribute a) less is = rw (is, term_is Subject a less) (ap (λ i. SubjectAttribute (unwrap_or i 0)) (a_found Subject a less))
  operand_again w (ObjectAttribute a) less is = rw (is, term_is Object a less) (ap (λ i. ObjectAttribute (unwrap_or i 0)) (a_found Object a less))
  operand_again w (Constant v) less is = rw (is, decimal_form v less) refl

  source_again : (t : Term) (w : PlainWord) (o : Operand) → OperandFits (length m.attributes) o → w.bytes ≡ operand_word m o → d.source_in m t w ≡ Assign t o
  source_again t w (SubjectAttribute a) less is = rw (is, term_is Subject a less) (ap (λ i. Assign t (SubjectAttribute (unwrap_or i 0))) (a_found Subject a less))
  source_again t w (ObjectAttribute a) less is = rw (is, term_is Object a less) (ap (λ i. Assign t (ObjectAttribute (unwrap_or i 0))) (a_found Object a less))
  source_again t w (Constant v) less is = rw (is, decimal_form v less) refl

  operand_inks : (o : Operand) → OperandFits (length m.attributes) o → Inked (operand_word m o)
  operand_inks (SubjectAttribute a) less = term_inks Subject a less
  operand_inks (ObjectAttribute a) less = term_inks Object a less
  operand_inks (Constant v) less = decimal_inked v less

  operand_fits : (o : Operand) → OperandFits (length m.attributes) o → fits (role.Term Number) (form_of (operand_word m o)) ≡ true
  operand_fits (SubjectAttribute a) less = ap (fits (role.Term Number)) (term_is Subject a less)
  operand_fits (ObjectAttribute a) less = ap (fits (role.Term Number)) (term_is Object a less)
  operand_fits (Constant v) less = ap (fits (role.Term Number)) (decimal_form v less)

  source_fits : (o : Operand) → OperandFits (length m.attributes) o → fits (role.Term NumberOrDash) (form_of (operand_word m o)) ≡ true
  source_fits (SubjectAttribute a) less = ap (fits (role.Term NumberOrDash)) (term_is Subject a less)
  source_fits (ObjectAttribute a) less = ap (fits (role.Term NumberOrDash)) (term_is Object a less)
  source_fits (Constant v) less = ap (fits (role.Term NumberOrDash)) (decimal_form v less)

  operand_passes : (w : PlainWord) (o : Operand) → OperandFits (length m.attributes) o → w.bytes ≡ operand_word m o → term_check m w ≡ Ok tt
  operand_passes w (SubjectAttribute a) less is = term_passes Subject a less w (ap form_of is ∙ term_is Subject a less)
  operand_passes w (ObjectAttribute a) less is = term_passes Object a less w (ap form_of is ∙ term_is Object a less)
  operand_passes w (Constant v) less is = ap (term_form_check m w) (ap form_of is ∙ decimal_form v less)

comparison_again : (c : Comparison) (w : PlainWord) → w.bytes ≡ comparison_word c → d.comparison_in w ≡ c
comparison_again c w is = rw (is, comparison_form_of c) refl

-- `if` and `do` lines

module _ (p : Progress) (fit : NamesFit (attribute_names p.scheme)) (low : 3 ≤ last_rank p.last) where
  abbrev m : SchemeModel
  m = p.scheme

  module _ (high : last_rank p.last ≤ 4) (room : last_room predicate_room p.scheme.policies ≡ true) where
    abbrev with_predicate : Predicate → SchemeModel
    with_predicate x = with_policies (last_filled (clause.If x) p.scheme.policies) p.scheme

    if_order : (leb 3 (last_rank p.last) && leb (last_rank p.last) 4) ≡ true
    if_order = and_from (leb 3 (last_rank p.last)) (leb (last_rank p.last) 4) (le-leb 3 (last_rank p.last) low) (le-leb (last_rank p.last) 4 high)

    -- with a test, `null` or `set`
    test_step : (t : Term) (b : List ℕ) (x : Predicate) → t.attribute < length p.scheme.attributes → Inked b → fits (role.Key test.Test) (form_of b) ≡ true → cond (bytes_eq b (codes "null")) (Null t) (Set t) ≡ x
        → Step p (codes "if" ∷ term_word m t.party t.attribute ∷ b ∷ []) (record { scheme = with_predicate x; last = Some kind.If })
    test_step t b x less ink a_test is =
        let q = t.party in
        let a = t.attribute in
        let tw = term_word m q a in
        let form = term_is m fit q a less in
        let all : AllByRecursion Inked (codes "if" ∷ tw ∷ b ∷ []) = (spelled (codes "if") refl, (term_inks m fit q a less, (ink, tt))) in
        record {
          inked = all;
          some = omega arith;
          few = omega arith;
          reads = λ l plain says.
              let ws = standing (spots l) (codes "if" ∷ tw ∷ b ∷ []) in
              line_read p l plain kind.If (codes "if") (tw ∷ b ∷ []) all says (with_predicate x) refl if_order refl
              (refl, (form_passes kind.If ws 1 (word_in ws 1) (term q (name_at (attribute_names m) a)) form refl, (form_passes kind.If ws 2 (word_in ws 2) (form_of b) refl a_test, tt)))
              room
              (refl, (term_passes m fit q a less (word_in ws 1) form, (refl, tt)))
              (ap (λ y. with_predicate (cond (bytes_eq b (codes "null")) (Null y) (Set y))) (term_again m fit q a less (word_in ws 1) form) ∙ ap with_predicate is);
        }

    pub predicate_step : (x : Predicate) → PredicateFits (length p.scheme.attributes) x → Step p (predicate_words m x) (record { scheme = with_predicate x; last = Some kind.If })
    predicate_step (Null t) less = test_step t (codes "null") (Null t) less (spelled (codes "null") refl) refl refl
    predicate_step (Set t) less = test_step t (codes "set") (Set t) less (spelled (codes "set") refl) refl refl
    predicate_step (Compare t c o) (less, fits_o) =
        let q = t.party in
        let a = t.attribute in
        let tw = term_word m q a in
        let cw = comparison_word c in
        let ow = operand_word m o in
        let form = term_is m fit q a less in
        let all : AllByRecursion Inked (predicate_words m (Compare t c o)) = (spelled (codes "if") refl, (term_inks m fit q a less, (comparison_inked c, (operand_inks m fit o fits_o, tt)))) in
        record {
          inked = all;
          some = omega arith;
          few = omega arith;
          reads = λ l plain says.
              let ws = standing (spots l) (predicate_words m (Compare t c o)) in
              line_read p l plain kind.If (codes "if") (tw ∷ cw ∷ ow ∷ []) all says (with_predicate (Compare t c o)) refl if_order refl
              (refl, (form_passes kind.If ws 1 (word_in ws 1) (term q (name_at (attribute_names m) a)) form refl, (form_passes kind.If ws 2 (word_in ws 2) (operator (operators.Compare c)) (comparison_form_of c) refl, (form_passes kind.If ws 3 (word_in ws 3) (form_of ow) refl (operand_fits m fit o fits_o), tt))))
              room
              (refl, (term_passes m fit q a less (word_in ws 1) form, (refl, (operand_passes m fit (word_in ws 3) o fits_o refl, tt))))
              (ap (λ y. with_predicate (Compare y (d.comparison_in (word_in ws 2)) (d.operand_in m (word_in ws 3)))) (term_again m fit q a less (word_in ws 1) form)
              ∙ ap (λ y. with_predicate (Compare t y (d.operand_in m (word_in ws 3)))) (comparison_again c (word_in ws 2) refl)
              ∙ ap (λ y. with_predicate (Compare t c y)) (operand_again m fit (word_in ws 3) o fits_o refl));
        }

  module _ (high : last_rank p.last ≤ 5) (room : last_room action_room p.scheme.policies ≡ true) where
    abbrev with_action : Action → SchemeModel
    with_action x = with_policies (last_filled (clause.Do x) p.scheme.policies) p.scheme

    do_order : (leb 3 (last_rank p.last) && leb (last_rank p.last) 5) ≡ true
    do_order = and_from (leb 3 (last_rank p.last)) (leb (last_rank p.last) 5) (le-leb 3 (last_rank p.last) low) (le-leb (last_rank p.last) 5 high)

    -- `to` a source: what a word of this form gives
    to_step : (t : Term) (b : List ℕ) (x : Action) → t.attribute < length p.scheme.attributes → Inked b → fits (role.Term NumberOrDash) (form_of b) ≡ true
        → ((w : PlainWord) → w.bytes ≡ b → term_check m w ≡ Ok tt) → ((w : PlainWord) → w.bytes ≡ b → d.source_in m t w ≡ x)
        → Step p (codes "do" ∷ term_word m t.party t.attribute ∷ codes "to" ∷ b ∷ []) (record { scheme = with_action x; last = Some kind.Do })
    to_step t b x less ink a_source known again =
        let q = t.party in
        let a = t.attribute in
        let tw = term_word m q a in
        let form = term_is m fit q a less in
        let all : AllByRecursion Inked (codes "do" ∷ tw ∷ codes "to" ∷ b ∷ []) = (spelled (codes "do") refl, (term_inks m fit q a less, (spelled (codes "to") refl, (ink, tt)))) in
        record {
          inked = all;
          some = omega arith;
          few = omega arith;
          reads = λ l plain says.
              let ws = standing (spots l) (codes "do" ∷ tw ∷ codes "to" ∷ b ∷ []) in
              line_read p l plain kind.Do (codes "do") (tw ∷ codes "to" ∷ b ∷ []) all says (with_action x) refl do_order refl
              (refl, (form_passes kind.Do ws 1 (word_in ws 1) (term q (name_at (attribute_names m) a)) form refl, (form_passes kind.Do ws 2 (word_in ws 2) (form_of (codes "to")) refl refl, (form_passes kind.Do ws 3 (word_in ws 3) (form_of b) refl a_source, tt))))
              room
              (refl, (term_passes m fit q a less (word_in ws 1) form, (refl, (known (word_in ws 3) refl, tt))))
              (ap (λ y. with_action (d.source_in m y (word_in ws 3))) (term_again m fit q a less (word_in ws 1) form) ∙ ap with_action (again (word_in ws 3) refl));
        }

    -- `add` or `sub` an amount
    amount_step : (t : Term) (b : List ℕ) (v : ℕ) (x : Action) → t.attribute < length p.scheme.attributes → v ≤ 255 → Inked b → fits (role.Key test.Verb) (form_of b) ≡ true → bytes_eq b (codes "to") ≡ false
        → cond (bytes_eq b (codes "add")) (Add t v) (Sub t v) ≡ x
        → Step p (codes "do" ∷ term_word m t.party t.attribute ∷ b ∷ decimal v ∷ []) (record { scheme = with_action x; last = Some kind.Do })
    amount_step t b v x less byte ink a_verb not_to is =
        let q = t.party in
        let a = t.attribute in
        let tw = term_word m q a in
        let form = term_is m fit q a less in
        let all : AllByRecursion Inked (codes "do" ∷ tw ∷ b ∷ decimal v ∷ []) = (spelled (codes "do") refl, (term_inks m fit q a less, (ink, (decimal_inked v byte, tt)))) in
        record {
          inked = all;
          some = omega arith;
          few = omega arith;
          reads = λ l plain says.
              let ws = standing (spots l) (codes "do" ∷ tw ∷ b ∷ decimal v ∷ []) in
              line_read p l plain kind.Do (codes "do") (tw ∷ b ∷ decimal v ∷ []) all says (with_action x) refl do_order refl
              (refl, (form_passes kind.Do ws 1 (word_in ws 1) (term q (name_at (attribute_names m) a)) form refl, (form_passes kind.Do ws 2 (word_in ws 2) (form_of b) refl a_verb, (form_passes kind.Do ws 3 (word_in ws 3) (number v) (decimal_form v byte) (ap (λ z. fits (cond z (role.Term NumberOrDash) role.Amount) (number v)) not_to), tt))))
              room
              (refl, (term_passes m fit q a less (word_in ws 1) form, (refl, (ap (λ z. role_check m kind.Do 3 (word_in ws 3) (cond z (role.Term NumberOrDash) role.Amount)) not_to, tt))))
              (ap (λ z. with_action (cond z (d.source_in m (d.term_in m (word_in ws 1)) (word_in ws 3)) (cond (bytes_eq b (codes "add")) (Add (d.term_in m (word_in ws 1)) (d.number_in (word_in ws 3))) (Sub (d.term_in m (word_in ws 1)) (d.number_in (word_in ws 3)))))) not_to
              ∙ ap₂ (λ y k. with_action (cond (bytes_eq b (codes "add")) (Add y k) (Sub y k))) (term_again m fit q a less (word_in ws 1) form) (ap (λ f. unwrap_or (d.value_form f) 0) (decimal_form v byte))
              ∙ ap with_action is);
        }

    destroy_step : (q : Party) (b : List ℕ) → Inked b → fits (role.Key test.Party) (form_of b) ≡ true → cond (bytes_eq b (codes "s")) Subject Object ≡ q
        → Step p (codes "do" ∷ codes "destroy" ∷ b ∷ []) (record { scheme = with_action (Destroy q); last = Some kind.Do })
    destroy_step q b ink a_party is =
        let all : AllByRecursion Inked (codes "do" ∷ codes "destroy" ∷ b ∷ []) = (spelled (codes "do") refl, (spelled (codes "destroy") refl, (ink, tt))) in
        record {
          inked = all;
          some = omega arith;
          few = omega arith;
          reads = λ l plain says.
              let ws = standing (spots l) (codes "do" ∷ codes "destroy" ∷ b ∷ []) in
              line_read p l plain kind.Do (codes "do") (codes "destroy" ∷ b ∷ []) all says (with_action (Destroy q)) refl do_order refl
              (refl, (form_passes kind.Do ws 1 (word_in ws 1) (form_of (codes "destroy")) refl refl, (form_passes kind.Do ws 2 (word_in ws 2) (form_of b) refl a_party, tt)))
              room
              (refl, (refl, (refl, tt)))
              (ap (λ y. with_action (Destroy y)) is);
        }

    pub action_step : (x : Action) → ActionFits (length p.scheme.attributes) x → Step p (action_words m x) (record { scheme = with_action x; last = Some kind.Do })
    action_step (Assign t o) (less, fits_o) = to_step t (operand_word m o) (Assign t o) less (operand_inks m fit o fits_o) (source_fits m fit o fits_o) (λ w is. operand_passes m fit w o fits_o is) (λ w is. source_again m fit t w o fits_o is)
    action_step (Clear t) less = to_step t (codes "-") (Clear t) less (spelled (codes "-") refl) refl (λ w is. ap (λ b. term_form_check m w (form_of b)) is) (λ w is. rw is refl)
    action_step (Add t v) (less, byte) = amount_step t (codes "add") v (Add t v) less byte (spelled (codes "add") refl) refl refl refl
    action_step (Sub t v) (less, byte) = amount_step t (codes "sub") v (Sub t v) less byte (spelled (codes "sub") refl) refl refl refl
    action_step (Destroy Subject) less = destroy_step Subject (codes "s") (spelled (codes "s") refl) refl refl
    action_step (Destroy Object) less = destroy_step Object (codes "o") (spelled (codes "o") refl) refl refl

-- queries

pub query_step : (p : Progress) (q : Query) → NamesFit (object_names p.scheme) → NamesFit p.scheme.rights → QueryFits (length p.scheme.objects) (length p.scheme.rights) q → length p.scheme.queries < 16
    → Step p (query_words p.scheme q) (record { scheme = with_query q p.scheme; last = Some kind.Query })
query_step p q objects rights fit room =
    let m = p.scheme in
    let long = length-map m.objects (λ (x : ObjectModel). x.name) in
    let s_less : q.subject < length (object_names m) = let low = fit.subject in omega arith in
    let o_less : q.object < length (object_names m) = let low = fit.object in omega arith in
    let s = name_at (object_names m) q.subject in
    let o = name_at (object_names m) q.object in
    let r = name_at m.rights q.right in
    let s_named = name_tested s (objects.each q.subject [] s_less) in
    let o_named = name_tested o (objects.each q.object [] o_less) in
    let r_named = name_tested r (rights.each q.right [] fit.right) in
    let s_at = found (object_names m) q.subject objects s_less in
    let o_at = found (object_names m) q.object objects o_less in
    let r_at = found m.rights q.right rights fit.right in
    let all : AllByRecursion Inked (query_words m q) = (spelled (codes "query") refl, (name_inked s s_named, (name_inked o o_named, (name_inked r r_named, tt)))) in
    record {
      inked = all;
      some = omega arith;
      few = omega arith;
      reads = λ l plain says.
          let ws = standing (spots l) (query_words m q) in
          line_read p l plain kind.Query (codes "query") (s ∷ o ∷ r ∷ []) all says (with_query q m) refl refl refl
          (refl, (form_passes kind.Query ws 1 (word_in ws 1) (name s) (name_form s s_named) refl, (form_passes kind.Query ws 2 (word_in ws 2) (name o) (name_form o o_named) refl, (form_passes kind.Query ws 3 (word_in ws 3) (name r) (name_form r r_named) refl, tt))))
          (lt-ltb (length m.queries) 16 room)
          (refl, (known_passes m kind.Object (word_in ws 1) q.subject s_at, (known_passes m kind.Object (word_in ws 2) q.object o_at, (known_passes m kind.Right (word_in ws 3) q.right r_at, tt))))
          (ap (λ i. with_query (record { subject = unwrap_or i 0; object = d.number_among o (object_names m); right = d.number_among r m.rights }) m) s_at
          ∙ ap (λ i. with_query (record { subject = q.subject; object = unwrap_or i 0; right = d.number_among r m.rights }) m) o_at
          ∙ ap (λ i. with_query (record { subject = q.subject; object = q.object; right = unwrap_or i 0 }) m) r_at);
    }

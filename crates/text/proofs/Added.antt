-- One name, one entry and one clause more are within the limits, and what a word stands for is.
use Rattle.std.proofs.Common.{◌≡◌, ℕ, zero, suc, ◌+◌, ◌<◌, ◌≤◌, Bool, true, false, cond, ltb, List, [], ◌∷◌, ◌++◌, map, length, is_some, Some, None, Option, All, bytes_eq, sym, refl, ap, ◌∙◌, subst, ⊎_elim, arith}
use Rattle.std.proofs.lemmas.List.{length_push, length-map, map-append, get_or_append_left, get_or_at}
use Rattle.std.proofs.lemmas.List.Elements.{All-nil, All-cons, All-head, All-tail, All-push, All-weaker}
use Rattle.std.proofs.lemmas.Bool.Decides.{nat_tests}
use Rattle.std.proofs.lemmas.Bool.{false≢true, both_ways, cases_lt, cond-true, ltb-true}
use Rattle.std.proofs.lemmas.Slice.Eq.{bytes_eq-Decides}
use Rattle.scheme.specs.declared.terms.Party.{Party}
use Rattle.scheme.specs.declared.terms.Operand.{Operand}
use Rattle.scheme.specs.declared.terms.Operand.TheVariants.{SubjectAttribute, ObjectAttribute, Constant}
use Rattle.scheme.specs.declared.terms.Predicate.{Predicate}
use Rattle.scheme.specs.declared.terms.Predicate.TheVariants.{Null, Set, Compare}
use Rattle.scheme.specs.declared.terms.Action.{Action}
use Rattle.scheme.specs.declared.terms.Action.TheVariants.{Assign, Clear, Add, Sub, Destroy}
use Rattle.scheme.specs.declared.terms.Clause.{Clause}
use Rattle.scheme.specs.declared.terms.Clause.TheVariants as clause
use Rattle.scheme.specs.Names.{index_from, index_of}
use Rattle.scheme.specs.Models.{PolicyModel, has_room, filled, last_room, last_filled}
use Rattle.words.specs.declared.token.Operator.{Operator}
use Rattle.words.specs.Positions.{PlainWord}
use Rattle.words.specs.Forms.{is_name, number_in}
use Rattle.words.specs.Tokens.{Form, name, number, term, operator, other, operator_form, term_form, number_form, form_of}
use Rattle.words.proofs.Lengths.{name_is}
use Rattle.lines.specs.Roles.{a_name, a_number}
use Rattle.text.specs.Declaring as d
use Rattle.text.specs.Writing.{name_at, IsName, NamesFit, OperandFits, PredicateFits, ActionFits, PolicyFits}

-- one name more

found_either : (b : Bool) (k : ℕ) (r : Option ℕ) → is_some r ≡ true → is_some (cond b (Some k) r) ≡ true
found_either true k r h = refl
found_either false k r h = h

found_at : (k : ℕ) (n : List ℕ) (ns : List (List ℕ)) (j : ℕ) → j < length ns → name_at ns j ≡ n → is_some (index_from k n ns) ≡ true
found_at k n [] j less is = absurd (omega arith)
found_at k n (m ∷ ns) zero less is = ap is_some (cond-true (bytes_eq m n) (Some k) (index_from (k + 1) n ns) ((bytes_eq-Decides m n).1 is))
found_at k n (m ∷ ns) (suc j) less is = found_either (bytes_eq m n) k (index_from (k + 1) n ns) (found_at (k + 1) n ns j (omega arith) is)

module _ (ns : List (List ℕ)) (n : List ℕ) (fit : NamesFit ns) (new : is_some (index_of n ns) ≡ false) where
  old_at : (i : ℕ) → i < length ns → name_at (ns ++ n ∷ []) i ≡ name_at ns i
  old_at i h = get_or_append_left ns (n ∷ []) [] i h

  last_at : (i : ℕ) → length ns ≡ i → name_at (ns ++ n ∷ []) i ≡ n
  last_at i h = get_or_at ns n [] [] i h

  not_new : (i : ℕ) → i < length ns → name_at ns i ≡ n → ⊥
  not_new i h is = both_ways (is_some (index_of n ns)) new (found_at 0 n ns i h is)

  all_distinct : (i j : ℕ) → i < length (ns ++ n ∷ []) → j < length (ns ++ n ∷ []) → name_at (ns ++ n ∷ []) i ≡ name_at (ns ++ n ∷ []) j → i ≡ j
  all_distinct i j within_i within_j same =
      let long = length_push ns n in
      ⊎_elim
      (λ (a : i < length ns).
      ⊎_elim
      (λ (b : j < length ns). fit.distinct i j a b (sym (old_at i a) ∙ same ∙ old_at j b))
      (λ (b : length ns ≤ j). absurd (not_new i a (sym (old_at i a) ∙ same ∙ last_at j (omega arith))))
      (cases_lt j (length ns)))
      (λ (a : length ns ≤ i).
      ⊎_elim
      (λ (b : j < length ns). absurd (not_new j b (sym (old_at j b) ∙ sym same ∙ last_at i (omega arith))))
      (λ (b : length ns ≤ j). omega arith)
      (cases_lt j (length ns)))
      (cases_lt i (length ns))

  pub names_push : IsName n → NamesFit (ns ++ n ∷ [])
  names_push named = record { each = All-push IsName ns n fit.each named; distinct = all_distinct }

-- names of one kind: no more than the most, and each its own
pub record Few (limit : ℕ) (ns : List (List ℕ)) : Type 0 where
  pub few : length ns ≤ limit
  pub fit : NamesFit ns

pub one_more : {X : Type 0} (name_of : X → List ℕ) (limit : ℕ) (xs : List X) (x : X) → ltb (length xs) limit ≡ true
    → IsName (name_of x) × (is_some (index_of (name_of x) (map name_of xs)) ≡ false) → Few limit (map name_of xs) → Few limit (map name_of (xs ++ x ∷ []))
one_more name_of limit xs x room new h =
    let some = ltb-true (length xs) limit room in
    let long = length-map xs name_of in
    let push = length_push (map name_of xs) (name_of x) in
    let pushed : Few limit (map name_of xs ++ name_of x ∷ []) = record { few = omega arith; fit = names_push (map name_of xs) (name_of x) h.fit new.1 new.0 } in
    subst (Few limit) (sym (map-append name_of xs (x ∷ []))) pushed

-- more attributes

operand_more : (n k : ℕ) → n ≤ k → (o : Operand) → OperandFits n o → OperandFits k o
operand_more n k more (SubjectAttribute a) h = omega arith
operand_more n k more (ObjectAttribute a) h = omega arith
operand_more n k more (Constant v) h = h

predicate_more : (n k : ℕ) → n ≤ k → (p : Predicate) → PredicateFits n p → PredicateFits k p
predicate_more n k more (Null t) h = omega arith
predicate_more n k more (Set t) h = omega arith
predicate_more n k more (Compare t c o) (low, h) = (omega arith, operand_more n k more o h)

action_more : (n k : ℕ) → n ≤ k → (a : Action) → ActionFits n a → ActionFits k a
action_more n k more (Assign t o) (low, h) = (omega arith, operand_more n k more o h)
action_more n k more (Clear t) h = omega arith
action_more n k more (Add t v) (low, h) = (omega arith, h)
action_more n k more (Sub t v) (low, h) = (omega arith, h)
action_more n k more (Destroy p) h = tt

pub policy_more : (n k : ℕ) → n ≤ k → (p : PolicyModel) → PolicyFits n p → PolicyFits k p
policy_more n k more p h = record {
  few_predicates = h.few_predicates;
  few_actions = h.few_actions;
  predicates = All-weaker (PredicateFits n) (PredicateFits k) (predicate_more n k more) p.predicates h.predicates;
  actions = All-weaker (ActionFits n) (ActionFits k) (action_more n k more) p.actions h.actions;
}

-- one clause more of the last policy

abbrev pub ClauseFits : ℕ → Clause → Type 0
ClauseFits n (clause.If x) = PredicateFits n x
ClauseFits n (clause.Do x) = ActionFits n x

filled_fits : (n : ℕ) (c : Clause) (p : PolicyModel) → ClauseFits n c → has_room c p ≡ true → PolicyFits n p → PolicyFits n (filled c p)
filled_fits n (clause.If x) p one room h =
    let few = ltb-true (length p.predicates) 6 room in
    let long = length_push p.predicates x in
    record { few_predicates = omega arith; few_actions = h.few_actions; predicates = All-push (PredicateFits n) p.predicates x h.predicates one; actions = h.actions }
filled_fits n (clause.Do x) p one room h =
    let few = ltb-true (length p.actions) 6 room in
    let long = length_push p.actions x in
    record { few_predicates = h.few_predicates; few_actions = omega arith; predicates = h.predicates; actions = All-push (ActionFits n) p.actions x h.actions one }

pub last_fits : (n : ℕ) (c : Clause) (ps : List PolicyModel) → ClauseFits n c → last_room (has_room c) ps ≡ true → All (PolicyFits n) ps → All (PolicyFits n) (last_filled c ps)
last_fits n c [] one room all = all
last_fits n c (p ∷ []) one room all = All-cons (PolicyFits n) (filled c p) [] (filled_fits n c p one room (All-head (PolicyFits n) p [] all)) (All-nil (PolicyFits n))
last_fits n c (p ∷ q ∷ ps) one room all =
    All-cons (PolicyFits n) p (last_filled c (q ∷ ps)) (All-head (PolicyFits n) p (q ∷ ps) all) (last_fits n c (q ∷ ps) one room (All-tail (PolicyFits n) p (q ∷ ps) all))

filled_name : (c : Clause) (p : PolicyModel) → (filled c p).name ≡ p.name
filled_name (clause.If x) p = refl
filled_name (clause.Do x) p = refl

pub filled_names : (c : Clause) (ps : List PolicyModel) → map (λ (p : PolicyModel). p.name) (last_filled c ps) ≡ map (λ (p : PolicyModel). p.name) ps
filled_names c [] = refl
filled_names c (p ∷ []) = ap (λ n. n ∷ []) (filled_name c p)
filled_names c (p ∷ q ∷ ps) = ap (λ ns. p.name ∷ ns) (filled_names c (q ∷ ps))

filled_length : (c : Clause) (ps : List PolicyModel) → length (last_filled c ps) ≡ length ps
filled_length c [] = refl
filled_length c (p ∷ []) = refl
filled_length c (p ∷ q ∷ ps) = ap suc (filled_length c (q ∷ ps))

-- words by their forms

pub named : (w : PlainWord) (f : Form) → form_of w.bytes ≡ f → a_name f ≡ true → (is_name (d.name_in w) ≡ true) × (d.name_in w ≡ w.bytes)
named w (name b) is h = let told = name_is w.bytes b (sym is) in rw is (ap is_name told.1 ∙ told.0, told.1)
named w (number n) is h = absurd (false≢true h)
named w (term p a) is h = absurd (false≢true h)
named w (operator o) is h = absurd (false≢true h)
named w other is h = absurd (false≢true h)

number_is : (t : Bool) (w : List ℕ) (n : ℕ) (o : Option ℕ) (q : Option (Party × List ℕ)) (s : Option Operator) → cond t (name w) (number_form o (term_form q (operator_form s))) ≡ number n → o ≡ Some n
number_is true w n o q s e = cc
number_is false w n (Some k) q s e = cc
number_is false w n None (Some t) s e = cc
number_is false w n None None (Some x) e = cc
number_is false w n None None None e = cc

pub number_read : (w : List ℕ) (n : ℕ) → form_of w ≡ number n → number_in w ≡ Some n
number_read w n is = number_is (is_name w) w n (number_in w) _ _ is

pub byte_number : (w : List ℕ) (n : ℕ) → number_in w ≡ Some n → n ≤ 255
byte_number [] n e = cc
byte_number (a ∷ []) n e = grind (arith, nat_tests)
byte_number (a ∷ b ∷ []) n e = grind (arith, nat_tests)
byte_number (a ∷ b ∷ c ∷ []) n e = grind (arith, nat_tests)
byte_number (a ∷ b ∷ c ∷ x ∷ xs) n e = cc

pub number_small : (w : PlainWord) (n : ℕ) → form_of w.bytes ≡ number n → n ≤ 255
number_small w n is = byte_number w.bytes n (number_read w.bytes n is)

pub amount_small : (w : PlainWord) (f : Form) → form_of w.bytes ≡ f → a_number f ≡ true → d.number_in w ≤ 255
amount_small w (number n) is h = rw is (number_small w n is)
amount_small w (name b) is h = absurd (false≢true h)
amount_small w (term p a) is h = absurd (false≢true h)
amount_small w (operator o) is h = absurd (false≢true h)
amount_small w other is h = absurd (false≢true h)

-- The words of a line that is read are those that what it declares is written in.
use Rattle.std.proofs.Common.{◌≡◌, ℕ, suc, ◌+◌, ◌≤◌, true, false, cond, ◌||◌, eqb, List, [], ◌∷◌, map, length, is_some, Some, Ok, codes, bytes_eq, sym, refl, ap, ap₂, ◌∙◌, ⊎_elim, arith}
use Rattle.std.proofs.lemmas.Bool.{eqb-true, ne_eqb, or_cases}
use Rattle.scheme.specs.declared.kind.Kind.{Kind}
use Rattle.scheme.specs.declared.kind.Kind.TheVariants as kind
use Rattle.scheme.specs.declared.terms.Term.{Term}
use Rattle.scheme.specs.declared.terms.Predicate.TheVariants.{Null, Set}
use Rattle.scheme.specs.Names.{index_of}
use Rattle.scheme.specs.Models.{AttributeModel, SchemeModel, object_names, names_of, opened}
use Rattle.words.specs.Outcomes.{in_turn}
use Rattle.words.specs.Positions.{PlainWord, word_in}
use Rattle.words.specs.Tokens.{form_of}
use Rattle.lines.specs.declared.role.Role.TheVariants as role
use Rattle.lines.specs.Kinds.{kind_in, count_allowed}
use Rattle.lines.specs.Roles.{do_role, role_at, fits}
use Rattle.lines.specs.Lines.{form_check}
use Rattle.text.specs.Naming.{known_check, term_check, role_check, name_check}
use Rattle.text.specs.Declaring as d
use Rattle.text.specs.Writing.{name_at, value_word, term_word, attribute_words, right_words, object_words, predicate_words, action_words, policy_words, query_words}
use Rattle.text.specs.Wording.{bytes_of}
use Rattle.text.proofs.Added.{named}
use Rattle.text.proofs.WritingLines.{Turns}
use Rattle.text.proofs.Steps.{test_passed, turns_passed}
use Rattle.text.proofs.WordingForms.{key_said, either_key, kind_said, named_again, amount_said, value_said, comparison_said, party_said, term_said, operand_said, source_said}

-- the line that what a line declares is written as
abbrev pub line_words : SchemeModel → Kind → List PlainWord → List (List ℕ)
line_words m kind.Attr ws = attribute_words (d.attribute_in ws)
line_words m kind.Right ws = right_words (d.name_in (word_in ws 1))
line_words m kind.Object ws = object_words (d.object_in m ws)
line_words m kind.Policy ws = policy_words m (opened (d.name_in (word_in ws 1)) (d.number_among (word_in ws 2).bytes m.rights))
line_words m kind.If ws = predicate_words m (d.predicate_in m ws)
line_words m kind.Do ws = action_words m (d.action_in m ws)
line_words m kind.Query ws = query_words m (d.query_in m ws)

-- lists by their lengths

module _ {X : Type 0} (P : List X → Type 0) where
  pub of_two : (xs : List X) → length xs ≡ 2 → ((a b : X) → P (a ∷ b ∷ [])) → P xs
  of_two [] long f = absurd (omega arith)
  of_two (a ∷ []) long f = absurd (omega arith)
  of_two (a ∷ b ∷ []) long f = f a b
  of_two (a ∷ b ∷ c ∷ xs) long f = absurd (omega arith)

pub of_three : {X : Type 0} (P : List X → Type 0) (xs : List X) → length xs ≡ 3 → ((a b c : X) → P (a ∷ b ∷ c ∷ [])) → P xs
of_three P [] long f = absurd (omega arith)
of_three P (a ∷ xs) long f = of_two (λ ys. P (a ∷ ys)) xs (omega arith) (f a)

pub of_four : {X : Type 0} (P : List X → Type 0) (xs : List X) → length xs ≡ 4 → ((a b c e : X) → P (a ∷ b ∷ c ∷ e ∷ [])) → P xs
of_four P [] long f = absurd (omega arith)
of_four P (a ∷ xs) long f = of_three (λ ys. P (a ∷ ys)) xs (omega arith) (f a)

module _ (m : SchemeModel) where
  -- what a line of a kind with these words has passed
  record Good (k : Kind) (ws : List PlainWord) : Type 0 where
    opens : kind_in (word_in ws 0).bytes ≡ Some k
    formed : Turns (form_check k ws) 0 ws
    named : Turns (name_check m k ws) 0 ws

  -- its words are those of what it declares
  abbrev Said : Kind → List PlainWord → Type 0
  Said k ws = Good k ws → bytes_of ws ≡ line_words m k ws

  -- one word

  fitting : (k : Kind) (ws : List PlainWord) (i : ℕ) (w : PlainWord) → form_check k ws i w ≡ Ok tt → (eqb i 0 || fits (role_at k ws i) (form_of w.bytes)) ≡ true
  fitting k ws i w h = (test_passed (eqb i 0 || fits (role_at k ws i) (form_of w.bytes)) (Ok tt) _ tt h).0

  name_said : (w : PlainWord) → fits role.NewName (form_of w.bytes) ≡ true → w.bytes ≡ d.name_in w
  name_said w h = sym (named w (form_of w.bytes) refl h).1

  known_said : (of : Kind) (w : PlainWord) → known_check m of w ≡ Ok tt → w.bytes ≡ name_at (names_of of m) (d.number_among w.bytes (names_of of m))
  known_said of w h = sym (named_again w.bytes (names_of of m) (test_passed (is_some (index_of w.bytes (names_of of m))) (Ok tt) _ tt h).0)

  attribute_line : (a b c : PlainWord) → Said kind.Attr (a ∷ b ∷ c ∷ [])
  attribute_line a b c g =
      let ws = a ∷ b ∷ c ∷ [] in
      ap₂ (λ x y. x ∷ y ∷ c.bytes ∷ []) (kind_said a.bytes kind.Attr g.opens) (name_said b (fitting kind.Attr ws 1 b g.formed.1.0))
      ∙ ap (λ z. codes "attr" ∷ d.name_in b ∷ z ∷ []) (sym (amount_said c (form_of c.bytes) refl (fitting kind.Attr ws 2 c g.formed.1.1.0)))

  right_line : (a b : PlainWord) → Said kind.Right (a ∷ b ∷ [])
  right_line a b g = ap₂ (λ x y. x ∷ y ∷ []) (kind_said a.bytes kind.Right g.opens) (name_said b (fitting kind.Right (a ∷ b ∷ []) 1 b g.formed.1.0))

  -- the values of an object line
  module _ (ws : List PlainWord) where
    values_line : (i : ℕ) → 2 ≤ i → (al : List AttributeModel) (vs : List PlainWord) → length vs ≡ length al → ((j : ℕ) → word_in ws (i + j) ≡ word_in vs j) → Turns (form_check kind.Object ws) i vs → bytes_of vs ≡ map value_word (d.values_at i al ws)
    values_line i late [] [] even at formed = refl
    values_line i late [] (v ∷ vs) even at formed = absurd (omega arith)
    values_line i late (a ∷ al) [] even at formed = absurd (omega arith)
    values_line i late (a ∷ al) (v ∷ vs) even at (first, rest) =
        let here : i ≡ i + 0 = omega arith in
        let this : word_in ws i ≡ v = ap (word_in ws) here ∙ at 0 in
        let later : eqb i 0 ≡ false = ne_eqb i 0 (λ e. omega arith) in
        let not_name : eqb i 1 ≡ false = ne_eqb i 1 (λ e. omega arith) in
        let fit : fits role.Value (form_of v.bytes) ≡ true =
        sym (ap₂ (λ z n. z || fits (cond n role.NewName role.Value) (form_of v.bytes)) later not_name) ∙ fitting kind.Object ws i v first in
        ap₂ (λ x l. x ∷ l)
        (sym (value_said v (form_of v.bytes) refl fit) ∙ ap (λ w. value_word (d.value_in w)) (sym this))
        (values_line (i + 1) (omega arith) al vs (omega arith) (λ j. let on : i + 1 + j ≡ i + suc j = omega arith in ap (word_in ws) on ∙ at (suc j)) rest)

  object_line : (ws : List PlainWord) → length ws ≡ length m.attributes + 2 → Said kind.Object ws
  object_line [] long g = absurd (omega arith)
  object_line (a ∷ []) long g = absurd (omega arith)
  object_line (a ∷ b ∷ vs) long g =
      let ws = a ∷ b ∷ vs in
      ap₂ (λ x y. x ∷ y ∷ bytes_of vs) (kind_said a.bytes kind.Object g.opens) (name_said b (fitting kind.Object ws 1 b g.formed.1.0))
      ∙ ap (λ l. codes "object" ∷ d.name_in b ∷ l) (values_line ws 2 (omega arith) m.attributes vs (omega arith) (λ j. let at : 2 + j ≡ suc (suc j) = omega arith in ap (word_in ws) at) g.formed.1.1)

  policy_line : (a b c : PlainWord) → Said kind.Policy (a ∷ b ∷ c ∷ [])
  policy_line a b c g =
      let ws = a ∷ b ∷ c ∷ [] in
      ap₂ (λ x y. x ∷ y ∷ c.bytes ∷ []) (kind_said a.bytes kind.Policy g.opens) (name_said b (fitting kind.Policy ws 1 b g.formed.1.0))
      ∙ ap (λ z. codes "policy" ∷ d.name_in b ∷ z ∷ []) (known_said kind.Right c g.named.1.1.0)

  query_line : (a b c e : PlainWord) → Said kind.Query (a ∷ b ∷ c ∷ e ∷ [])
  query_line a b c e g =
      ap₂ (λ x y. x ∷ y ∷ c.bytes ∷ e.bytes ∷ []) (kind_said a.bytes kind.Query g.opens) (known_said kind.Object b g.named.1.0)
      ∙ ap₂ (λ x y. codes "query" ∷ name_at (object_names m) (d.number_among b.bytes (object_names m)) ∷ x ∷ y ∷ []) (known_said kind.Object c g.named.1.1.0) (known_said kind.Right e g.named.1.1.1.0)

  -- `if` lines

  test_line : (a b c : PlainWord) → Said kind.If (a ∷ b ∷ c ∷ [])
  test_line a b c g =
      let ws = a ∷ b ∷ c ∷ [] in
      let t = d.term_in m b in
      let words : List ℕ → List (List ℕ) = λ x. predicate_words m (cond (bytes_eq x (codes "null")) (Null t) (Set t)) in
      ap₂ (λ x y. x ∷ y ∷ c.bytes ∷ []) (kind_said a.bytes kind.If g.opens) (sym (term_said m b (form_of b.bytes) refl (fitting kind.If ws 1 b g.formed.1.0) g.named.1.0))
      ∙ either_key c (codes "null") (codes "set") (codes "if" ∷ term_word m t.party t.attribute ∷ c.bytes ∷ [] ≡ words c.bytes)
      (λ is. rw is refl)
      (λ is. rw is refl)
      (fitting kind.If ws 2 c g.formed.1.1.0)

  compare_line : (a b c e : PlainWord) → Said kind.If (a ∷ b ∷ c ∷ e ∷ [])
  compare_line a b c e g =
      let ws = a ∷ b ∷ c ∷ e ∷ [] in
      let t = d.term_in m b in
      ap₂ (λ x y. x ∷ y ∷ c.bytes ∷ e.bytes ∷ []) (kind_said a.bytes kind.If g.opens) (sym (term_said m b (form_of b.bytes) refl (fitting kind.If ws 1 b g.formed.1.0) g.named.1.0))
      ∙ ap₂ (λ x y. codes "if" ∷ term_word m t.party t.attribute ∷ x ∷ y ∷ [])
      (sym (comparison_said c (form_of c.bytes) refl (fitting kind.If ws 2 c g.formed.1.1.0)))
      (sym (operand_said m e (form_of e.bytes) refl (fitting kind.If ws 3 e g.formed.1.1.1.0) g.named.1.1.1.0))

  -- `do` lines

  destroy_line : (a b c : PlainWord) → Said kind.Do (a ∷ b ∷ c ∷ [])
  destroy_line a b c g =
      let ws = a ∷ b ∷ c ∷ [] in
      ap₂ (λ x y. x ∷ y ∷ c.bytes ∷ []) (kind_said a.bytes kind.Do g.opens) (key_said b (codes "destroy") (fitting kind.Do ws 1 b g.formed.1.0))
      ∙ ap (λ z. codes "do" ∷ codes "destroy" ∷ z ∷ []) (sym (party_said c (fitting kind.Do ws 2 c g.formed.1.1.0)))

  module _ (a b c e : PlainWord) (g : Good kind.Do (a ∷ b ∷ c ∷ e ∷ [])) where
    abbrev ws : List PlainWord
    ws = a ∷ b ∷ c ∷ e ∷ []

    abbrev t : Term
    t = d.term_in m b

    last_fits : (verb : List ℕ) → c.bytes ≡ verb → fits (do_role verb 4 3) (form_of e.bytes) ≡ true
    last_fits verb is = ap (λ v. fits (do_role v 4 3) (form_of e.bytes)) (sym is) ∙ fitting kind.Do ws 3 e g.formed.1.1.1.0

    last_known : c.bytes ≡ codes "to" → term_check m e ≡ Ok tt
    last_known is = ap (λ v. role_check m kind.Do 3 e (do_role v 4 3)) (sym is) ∙ g.named.1.1.1.0

    -- the line with another verb or another last word
    abbrev with_verb : List ℕ → List ℕ → List (List ℕ)
    with_verb verb last = codes "do" ∷ term_word m t.party t.attribute ∷ verb ∷ last ∷ []

    to_line : c.bytes ≡ codes "to" → with_verb c.bytes e.bytes ≡ action_words m (d.action_in m ws)
    to_line is = rw is (sym (source_said m t e (form_of e.bytes) refl (last_fits (codes "to") is) (last_known is)))

    add_line : c.bytes ≡ codes "add" → with_verb c.bytes e.bytes ≡ action_words m (d.action_in m ws)
    add_line is = rw is (ap (with_verb (codes "add")) (sym (amount_said e (form_of e.bytes) refl (last_fits (codes "add") is))))

    sub_line : c.bytes ≡ codes "sub" → with_verb c.bytes e.bytes ≡ action_words m (d.action_in m ws)
    sub_line is = rw is (ap (with_verb (codes "sub")) (sym (amount_said e (form_of e.bytes) refl (last_fits (codes "sub") is))))

    verb_line : with_verb c.bytes e.bytes ≡ action_words m (d.action_in m ws)
    verb_line = ⊎_elim
        (λ is. to_line (key_said c (codes "to") is))
        (either_key c (codes "add") (codes "sub") (with_verb c.bytes e.bytes ≡ action_words m (d.action_in m ws)) add_line sub_line)
        (or_cases _ _ (fitting kind.Do ws 2 c g.formed.1.1.0))

    update_line : bytes_of ws ≡ action_words m (d.action_in m ws)
    update_line =
        ap₂ (λ x y. x ∷ y ∷ c.bytes ∷ e.bytes ∷ []) (kind_said a.bytes kind.Do g.opens) (sym (term_said m b (form_of b.bytes) refl (fitting kind.Do ws 1 b g.formed.1.0) g.named.1.0))
        ∙ verb_line

  three_or_four : (ws : List PlainWord) (k : Kind) → (eqb (length ws) 3 || eqb (length ws) 4) ≡ true → ((a b c : PlainWord) → Said k (a ∷ b ∷ c ∷ [])) → ((a b c e : PlainWord) → Said k (a ∷ b ∷ c ∷ e ∷ [])) → Said k ws
  three_or_four ws k count three four =
      ⊎_elim
      (λ (is : eqb (length ws) 3 ≡ true). of_three (Said k) ws (eqb-true (length ws) 3 is) three)
      (λ (is : eqb (length ws) 4 ≡ true). of_four (Said k) ws (eqb-true (length ws) 4 is) four)
      (or_cases (eqb (length ws) 3) (eqb (length ws) 4) count)

  said : (k : Kind) (ws : List PlainWord) → count_allowed k (length m.attributes) (length ws) ≡ true → Said k ws
  said kind.Attr ws count = of_three (Said kind.Attr) ws (eqb-true (length ws) 3 count) attribute_line
  said kind.Right ws count = of_two (Said kind.Right) ws (eqb-true (length ws) 2 count) right_line
  said kind.Object ws count = object_line ws (eqb-true (length ws) (length m.attributes + 2) count)
  said kind.Policy ws count = of_three (Said kind.Policy) ws (eqb-true (length ws) 3 count) policy_line
  said kind.If ws count = three_or_four ws kind.If count test_line compare_line
  said kind.Do ws count = three_or_four ws kind.Do count destroy_line update_line
  said kind.Query ws count = of_four (Said kind.Query) ws (eqb-true (length ws) 4 count) query_line

  pub line_said : (k : Kind) (ws : List PlainWord) → kind_in (word_in ws 0).bytes ≡ Some k → count_allowed k (length m.attributes) (length ws) ≡ true
      → in_turn (form_check k ws) 0 ws ≡ Ok tt → in_turn (name_check m k ws) 0 ws ≡ Ok tt → bytes_of ws ≡ line_words m k ws
  line_said k ws opens count formed named =
      said k ws count (record { opens = opens; formed = turns_passed (form_check k ws) 0 ws formed; named = turns_passed (name_check m k ws) 0 ws named })

-- Each line of a written text is read, and declares what it was written from.
use Rattle.std.proofs.Common.{◌≡◌, ℕ, suc, ◌+◌, ◌-◌, ◌<◌, ◌≤◌, Bool, true, cond, ◌&&◌, ◌||◌, eqb, ltb, leb, List, [], ◌∷◌, map, length, slice_index, is_some, Some, None, Ok, Option, Result, codes, decimal, unwrap_or, sym, refl, ap, ap₂, ◌∙◌, subst, arith}
use Rattle.std.specs.List.{AllByRecursion}
use Rattle.std.proofs.lemmas.List.{length-map}
use Rattle.std.proofs.lemmas.Bool.{false≢true, and_parts, and_from, or_right, cond-true, cond-false, ltb-true, lt-ltb, le-leb, eq-eqb, ne_eqb}
use Rattle.scheme.specs.declared.kind.Kind.{Kind}
use Rattle.scheme.specs.declared.kind.Kind.TheVariants as kind
use Rattle.scheme.specs.Names.{index_of}
use Rattle.scheme.specs.Models.{AttributeModel, ObjectModel, SchemeModel, attribute_names, object_names, names_of, with_attribute, with_right, with_object, room_for}
use Rattle.scheme.specs.Sizes.{sizes_of}
use Rattle.scheme.specs.WellFormed.{value_fits, values_fit}
use Rattle.words.specs.Outcomes.{and_then, carried, in_turn}
use Rattle.words.specs.declared.position.Spot.{Spot}
use Rattle.words.specs.Positions.{PlainLine, PlainWord, word_in}
use Rattle.words.specs.Cuts.{words_of}
use Rattle.words.specs.Plain.{plain_line}
use Rattle.words.specs.Forms.{is_name}
use Rattle.words.specs.Tokens.{Form, name, number, form_of}
use Rattle.lines.specs.declared.fault.LineFault.TheVariants as fault
use Rattle.lines.specs.Kinds.{kind_in, last_rank, in_order, count_allowed}
use Rattle.lines.specs.declared.role.Role.TheVariants as role
use Rattle.lines.specs.Roles.{role_at, fits}
use Rattle.lines.specs.Lines.{ordered_kind, line_kind, right_count, form_check, right_forms, formed_as, formed_kind, formed_line}
use Rattle.text.specs.declared.fault.SchemeFault.TheVariants.{OfLine}
use Rattle.text.specs.Naming.{under_most, size_at, new_check, known_check, number_check, value_check, role_check, name_check, right_names}
use Rattle.text.specs.Declaring as d
use Rattle.text.specs.Declaring.{declared}
use Rattle.text.specs.Reading.{Progress, named_line, read_kind, read_line}
use Rattle.text.specs.Writing.{value_word, attribute_words, right_words, object_words}
use Rattle.text.specs.Wording.{worded}
use Rattle.text.proofs.WritingCut.{passes, Inked, PrintableLine, spelled, standing, spots, words_stand, line_plain}
use Rattle.text.proofs.WritingForms.{name_form, name_inked, decimal_form, decimal_inked}

-- checks in turn that pass one by one
module _ {X E : Type 0} (check : ℕ → X → Result (Unit {0}) E) where
  abbrev pub Turns : ℕ → List X → Type 0
  Turns i [] = Unit {0}
  Turns i (x ∷ xs) = (check i x ≡ Ok tt) × Turns (i + 1) xs

  pub turns : (i : ℕ) (xs : List X) → Turns i xs → in_turn check i xs ≡ Ok tt
  turns i [] all = refl
  turns i (x ∷ xs) all = passes (check i x) tt (λ _. in_turn check (i + 1) xs) all.0 ∙ turns (i + 1) xs all.1

-- each line with these words is read, and leaves r declared
pub record Step (p : Progress) (ws : List (List ℕ)) (r : Progress) : Type 0 where
  pub inked : AllByRecursion Inked ws
  pub some : 0 < length ws
  pub few : length ws ≤ 6
  pub reads : (l : PlainLine) → PrintableLine l → worded l ≡ ws → read_line p l ≡ Ok r

module _ (p : Progress) (l : PlainLine) (plain : PrintableLine l) (k : Kind) (w : List ℕ) (rest : List (List ℕ)) (all : AllByRecursion Inked (w ∷ rest)) (says : worded l ≡ w ∷ rest) where
  abbrev ws : List PlainWord
  ws = standing (spots l) (w ∷ rest)

  stand : words_of l ≡ ws
  stand = words_stand l (w ∷ rest) says

  abbrev count : ℕ
  count = length p.scheme.attributes

  line_formed : kind_in w ≡ Some k → in_order p.last k ≡ true → count_allowed k count (length ws) ≡ true → right_forms k ws ≡ Ok tt → formed_line p.last count l ≡ Ok (Some k)
  line_formed is order counted forms =
      passes (carried fault.OfWords (plain_line l)) tt (λ _. and_then (line_kind p.last (words_of l)) (formed_kind count (words_of l))) (ap (carried fault.OfWords) (line_plain l plain (subst (AllByRecursion Inked) (sym says) all)))
      ∙ ap (λ vs. and_then (line_kind p.last vs) (formed_kind count vs)) stand
      ∙ passes (line_kind p.last ws) (Some k) (formed_kind count ws) (ap (ordered_kind p.last (word_in ws 0)) is ∙ cond-true (in_order p.last k) _ _ order)
      ∙ passes (formed_as k count ws) tt (λ _. Ok (Some k)) (passes (right_count k count ws) tt (λ _. right_forms k ws) (cond-true (count_allowed k count (length ws)) _ _ counted) ∙ forms)

  line_named : room_for k p.scheme ≡ true → right_names p.scheme k ws ≡ Ok tt → named_line k ws p.scheme ≡ Ok (declared k ws p.scheme)
  line_named room names =
      passes (under_most k p.scheme ws) tt (λ _. and_then (right_names p.scheme k ws) (λ _. Ok (declared k ws p.scheme))) (cond-true (room_for k p.scheme) _ _ room)
      ∙ passes (right_names p.scheme k ws) tt (λ _. Ok (declared k ws p.scheme)) names

  pub line_read : (m : SchemeModel) → kind_in w ≡ Some k → in_order p.last k ≡ true → count_allowed k count (length ws) ≡ true → Turns (form_check k ws) 0 ws → room_for k p.scheme ≡ true → Turns (name_check p.scheme k ws) 0 ws → declared k ws p.scheme ≡ m → read_line p l ≡ Ok (record { scheme = m; last = Some k })
  line_read m is order counted forms room names same =
      passes (carried OfLine (formed_line p.last count l)) (Some k) (read_kind p (words_of l)) (ap (carried OfLine) (line_formed is order counted (turns (form_check k ws) 0 ws forms)))
      ∙ ap (λ vs. read_kind p vs (Some k)) stand
      ∙ passes (named_line k ws p.scheme) (declared k ws p.scheme) (λ s. Ok (record { scheme = s; last = Some k })) (line_named room (turns (name_check p.scheme k ws) 0 ws names))
      ∙ ap (λ s. Ok (record { scheme = s; last = Some k })) same

-- one word by its form

pub form_passes : (k : Kind) (ws : List PlainWord) (i : ℕ) (w : PlainWord) (f : Form) → form_of w.bytes ≡ f → fits (role_at k ws i) f ≡ true → form_check k ws i w ≡ Ok tt
form_passes k ws i w f is fit = cond-true (eqb i 0 || fits (role_at k ws i) (form_of w.bytes)) _ _ (or_right (eqb i 0) _ (ap (fits (role_at k ws i)) is ∙ fit))

pub new_passes : (m : SchemeModel) (k : Kind) (w : PlainWord) → index_of w.bytes (names_of k m) ≡ None → new_check m k w ≡ Ok tt
new_passes m k w none = cond-false (is_some (index_of w.bytes (names_of k m))) _ _ (ap is_some none)

pub known_passes : (m : SchemeModel) (k : Kind) (w : PlainWord) (i : ℕ) → index_of w.bytes (names_of k m) ≡ Some i → known_check m k w ≡ Ok tt
known_passes m k w i is = cond-true (is_some (index_of w.bytes (names_of k m))) _ _ (ap is_some is)

pub number_passes : (allowed : ℕ → Bool) (w : PlainWord) (n : ℕ) → form_of w.bytes ≡ number n → allowed n ≡ true → number_check allowed w (form_of w.bytes) ≡ Ok tt
number_passes allowed w n is fit = ap (number_check allowed w) is ∙ cond-true (allowed n) _ _ fit

-- attributes

pub attribute_step : (p : Progress) (a : AttributeModel) → is_name a.name ≡ true → (1 ≤ a.size) × (a.size ≤ 250) → last_rank p.last ≤ 0 → length p.scheme.attributes < 4 → index_of a.name (attribute_names p.scheme) ≡ None
    → Step p (attribute_words a) (record { scheme = with_attribute a p.scheme; last = Some kind.Attr })
attribute_step p a named size last room new =
    let byte : a.size ≤ 255 = omega arith in
    let all : AllByRecursion Inked (attribute_words a) = (spelled (codes "attr") refl, (name_inked a.name named, (decimal_inked a.size byte, tt))) in
    record {
      inked = all;
      some = omega arith;
      few = omega arith;
      reads = λ l plain says.
          let ws = standing (spots l) (attribute_words a) in
          line_read p l plain kind.Attr (codes "attr") (a.name ∷ decimal a.size ∷ []) all says (with_attribute a p.scheme) refl
          (le-leb (last_rank p.last) 0 last)
          refl
          (refl, (form_passes kind.Attr ws 1 (word_in ws 1) (name a.name) (name_form a.name named) refl, (form_passes kind.Attr ws 2 (word_in ws 2) (number a.size) (decimal_form a.size byte) refl, tt)))
          (lt-ltb (length p.scheme.attributes) 4 room)
          (refl, (new_passes p.scheme kind.Attr (word_in ws 1) new, (number_passes (λ k. leb 1 k && leb k 250) (word_in ws 2) a.size (decimal_form a.size byte) (and_from (leb 1 a.size) (leb a.size 250) (le-leb 1 a.size size.0) (le-leb a.size 250 size.1)), tt)))
          (ap₂ (λ b v. with_attribute (record { name = b; size = v }) p.scheme) (ap d.name_form (name_form a.name named)) (ap (λ f. unwrap_or (d.value_form f) 0) (decimal_form a.size byte)));
    }

-- rights

pub right_step : (p : Progress) (b : List ℕ) → is_name b ≡ true → last_rank p.last ≤ 1 → length p.scheme.rights < 16 → index_of b p.scheme.rights ≡ None
    → Step p (right_words b) (record { scheme = with_right b p.scheme; last = Some kind.Right })
right_step p b named last room new =
    let all : AllByRecursion Inked (right_words b) = (spelled (codes "right") refl, (name_inked b named, tt)) in
    record {
      inked = all;
      some = omega arith;
      few = omega arith;
      reads = λ l plain says.
          let ws = standing (spots l) (right_words b) in
          line_read p l plain kind.Right (codes "right") (b ∷ []) all says (with_right b p.scheme) refl
          (le-leb (last_rank p.last) 1 last)
          refl
          (refl, (form_passes kind.Right ws 1 (word_in ws 1) (name b) (name_form b named) refl, tt))
          (lt-ltb (length p.scheme.rights) 16 room)
          (refl, (new_passes p.scheme kind.Right (word_in ws 1) new, tt))
          (ap (λ f. with_right (d.name_form f) p.scheme) (name_form b named));
    }

-- objects

-- a value that a word can write
abbrev pub Byte : Option ℕ → Type 0
Byte None = Unit {0}
Byte (Some v) = v ≤ 255

value_inked : (v : Option ℕ) → Byte v → Inked (value_word v)
value_inked None byte = spelled (codes "-") refl
value_inked (Some v) byte = decimal_inked v byte

value_allowed : (v : Option ℕ) → Byte v → fits role.Value (form_of (value_word v)) ≡ true
value_allowed None byte = refl
value_allowed (Some v) byte = ap (fits role.Value) (decimal_form v byte)

value_again : (v : Option ℕ) → Byte v → d.value_form (form_of (value_word v)) ≡ v
value_again None byte = refl
value_again (Some v) byte = ap d.value_form (decimal_form v byte)

value_passes : (size : ℕ) (v : Option ℕ) (at : Spot) → Byte v → value_fits size v ≡ true → value_check size (record { bytes = value_word v; line = at.line; place = at.place }) ≡ Ok tt
value_passes size None at byte fit = refl
value_passes size (Some v) at byte fit = number_passes (λ k. ltb k size) (record { bytes = decimal v; line = at.line; place = at.place }) v (decimal_form v byte) fit

values_inked : (vs : List (Option ℕ)) → AllByRecursion Byte vs → AllByRecursion Inked (map value_word vs)
values_inked [] all = tt
values_inked (v ∷ vs) all = (value_inked v all.0, values_inked vs all.1)

values_length : (ks : List ℕ) (vs : List (Option ℕ)) → values_fit ks vs ≡ true → length vs ≡ length ks
values_length [] [] h = refl
values_length [] (v ∷ vs) h = absurd (false≢true h)
values_length (k ∷ ks) [] h = absurd (false≢true h)
values_length (k ∷ ks) (v ∷ vs) h = ap suc (values_length ks vs (and_parts (value_fits k v) (values_fit ks vs) h).1)

value_byte : (k : ℕ) (v : Option ℕ) → k ≤ 250 → value_fits k v ≡ true → Byte v
value_byte k None small h = tt
value_byte k (Some v) small h = let low = ltb-true v k h in omega arith

pub values_bytes : (ks : List ℕ) (vs : List (Option ℕ)) → AllByRecursion (λ k. k ≤ 250) ks → values_fit ks vs ≡ true → AllByRecursion Byte vs
values_bytes [] [] small h = tt
values_bytes [] (v ∷ vs) small h = absurd (false≢true h)
values_bytes (k ∷ ks) [] small h = tt
values_bytes (k ∷ ks) (v ∷ vs) small h =
    let parts = and_parts (value_fits k v) (values_fit ks vs) h in
    (value_byte k v small.0 parts.0, values_bytes ks vs small.1 parts.1)

standing_length : (at : ℕ → Spot) (ws : List (List ℕ)) → length (standing at ws) ≡ length ws
standing_length at [] = refl
standing_length at (w ∷ ws) = ap suc (standing_length (λ i. at (suc i)) ws)

module _ (m : SchemeModel) (ws : List PlainWord) where
  values_allowed : (i : ℕ) (at : ℕ → Spot) → 2 ≤ i → (vs : List (Option ℕ)) → AllByRecursion Byte vs → Turns (form_check kind.Object ws) i (standing at (map value_word vs))
  values_allowed i at late [] all = tt
  values_allowed i at late (v ∷ vs) all = (
    form_passes kind.Object ws i (record { bytes = value_word v; line = (at 0).line; place = (at 0).place }) (form_of (value_word v)) refl (ap (λ b. fits (cond b role.NewName role.Value) (form_of (value_word v))) (ne_eqb i 1 (λ e. omega arith)) ∙ value_allowed v all.0),
    values_allowed (i + 1) (λ j. at (suc j)) (omega arith) vs all.1,
  )

  values_below : (i : ℕ) (at : ℕ → Spot) → 2 ≤ i → (ks : List ℕ) (vs : List (Option ℕ)) → ((j : ℕ) → size_at m (i + j - 2) ≡ slice_index ks j) → AllByRecursion Byte vs → values_fit ks vs ≡ true → Turns (name_check m kind.Object ws) i (standing at (map value_word vs))
  values_below i at late ks [] sizes all h = tt
  values_below i at late [] (v ∷ vs) sizes all h = absurd (false≢true h)
  values_below i at late (k ∷ ks) (v ∷ vs) sizes all h =
      let parts = and_parts (value_fits k v) (values_fit ks vs) h in
      let w : PlainWord = record { bytes = value_word v; line = (at 0).line; place = (at 0).place } in
      let here : i - 2 ≡ i + 0 - 2 = omega arith in (
        cond-false (eqb i 0) _ _ (ne_eqb i 0 (λ e. omega arith))
            ∙ ap (λ b. role_check m kind.Object i w (cond b role.NewName role.Value)) (ne_eqb i 1 (λ e. omega arith))
            ∙ ap (λ s. value_check s w) (ap (size_at m) here ∙ sizes 0)
            ∙ value_passes k v (at 0) all.0 parts.0,
        values_below (i + 1) (λ j. at (suc j)) (omega arith) ks vs
            (λ j. let on : i + 1 + j - 2 ≡ i + suc j - 2 = omega arith in ap (size_at m) on ∙ sizes (suc j))
            all.1 parts.1,
      )

  values_listed : (i : ℕ) (at : ℕ → Spot) (al : List AttributeModel) (vs : List (Option ℕ)) → length vs ≡ length al → AllByRecursion Byte vs → ((j : ℕ) → word_in ws (i + j) ≡ word_in (standing at (map value_word vs)) j) → d.values_at i al ws ≡ vs
  values_listed i at [] [] even all stands = refl
  values_listed i at [] (v ∷ vs) even all stands = absurd (omega arith)
  values_listed i at (a ∷ al) [] even all stands = absurd (omega arith)
  values_listed i at (a ∷ al) (v ∷ vs) even all stands =
      let here : i ≡ i + 0 = omega arith in
      ap₂ (λ x l. x ∷ l)
      (ap (λ k. d.value_in (word_in ws k)) here ∙ ap d.value_in (stands 0) ∙ value_again v all.0)
      (values_listed (i + 1) (λ j. at (suc j)) al vs (omega arith) all.1 (λ j. let on : i + 1 + j ≡ i + suc j = omega arith in ap (word_in ws) on ∙ stands (suc j)))

sizes_on : (m : SchemeModel) (j : ℕ) → size_at m (2 + j - 2) ≡ slice_index (map (λ (a : AttributeModel). a.size) m.attributes) j
unfolding size_at
sizes_on m j = let on : 2 + j - 2 ≡ j = omega arith in ap (slice_index (map (λ (a : AttributeModel). a.size) m.attributes)) on

pub object_step : (p : Progress) (o : ObjectModel) → is_name o.name ≡ true → last_rank p.last ≤ 2 → length p.scheme.objects < 8 → index_of o.name (object_names p.scheme) ≡ None
    → length p.scheme.attributes ≤ 4 → AllByRecursion (λ k. k ≤ 250) (sizes_of p.scheme) → values_fit (sizes_of p.scheme) o.values ≡ true
    → Step p (object_words o) (record { scheme = with_object o p.scheme; last = Some kind.Object })
object_step p o named last room new most small fit =
    let bytes = values_bytes (sizes_of p.scheme) o.values small fit in
    let even : length o.values ≡ length p.scheme.attributes = values_length (sizes_of p.scheme) o.values fit ∙ length-map p.scheme.attributes (λ (a : AttributeModel). a.size) in
    let all : AllByRecursion Inked (object_words o) = (spelled (codes "object") refl, (name_inked o.name named, values_inked o.values bytes)) in
    record {
      inked = all;
      some = omega arith;
      few = let long = length-map o.values value_word in omega arith;
      reads = λ l plain says.
          let ws = standing (spots l) (object_words o) in
          let at : ℕ → Spot = λ i. spots l (suc (suc i)) in
          let long : length (standing at (map value_word o.values)) ≡ length p.scheme.attributes = standing_length at (map value_word o.values) ∙ length-map o.values value_word ∙ even in
          line_read p l plain kind.Object (codes "object") (o.name ∷ map value_word o.values) all says (with_object o p.scheme) refl
          (le-leb (last_rank p.last) 2 last)
          (eq-eqb (length ws) (length p.scheme.attributes + 2) (omega arith))
          (refl, (form_passes kind.Object ws 1 (word_in ws 1) (name o.name) (name_form o.name named) refl, values_allowed p.scheme ws 2 at (omega arith) o.values bytes))
          (lt-ltb (length p.scheme.objects) 8 room)
          (refl, (new_passes p.scheme kind.Object (word_in ws 1) new, values_below p.scheme ws 2 at (omega arith) (sizes_of p.scheme) o.values (sizes_on p.scheme) bytes fit))
          (ap₂ (λ b vs. with_object (record { name = b; values = vs }) p.scheme) (ap d.name_form (name_form o.name named))
          (values_listed p.scheme ws 2 at p.scheme.attributes o.values even bytes (λ j. let on : 2 + j ≡ suc (suc j) = omega arith in ap (word_in ws) on)));
    }

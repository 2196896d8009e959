-- What lines without a fault declare is well-formed, queries ask about what is declared, and no object is declared before
-- the attributes are: a text that is read gives a scheme that the record accepts.
use Rattle.std.proofs.Common.{◌≡◌, ℕ, zero, suc, ◌+◌, ◌-◌, ◌*◌, ◌^◌, ◌<◌, ◌≤◌, Bool, true, false, cond, ◌&&◌, ltb, leb, List, [], ◌∷◌, ◌++◌, map, length, get_or, slice_get, is_some, Some, None, Ok, Option, unwrap_or, sym, refl, ap, ◌∙◌, subst, inl, inr, ⊎_elim, add-zero, one-mul, pow-suc, arith}
use native.Mathlib.Nat.{pow-zero, pow-le-pow_right}
use Rattle.std.specs.Str.{bytes_eq}
use Rattle.std.proofs.lemmas.List.{length_push, length-map}
use Rattle.std.proofs.lemmas.Bool.{false≢true, cases_Bool, cases_lt, and_parts, and_from, and_right, lt-ltb, ltb-true, le-leb, leb-true, eqb-true, ne_eqb}
use Rattle.scheme.specs.declared.kind.Kind.{Kind}
use Rattle.scheme.specs.declared.kind.Kind.TheVariants as kind
use Rattle.scheme.specs.declared.terms.Clause.{Clause}
use Rattle.scheme.specs.declared.terms.Clause.TheVariants as clause
use Rattle.scheme.specs.Names.{index_from, index_of}
use Rattle.scheme.specs.declared.entries.Query.{Query}
use Rattle.scheme.specs.Models.{AttributeModel, ObjectModel, PolicyModel, SchemeModel, names_of, filled, last_filled}
use Rattle.scheme.specs.Counts.{state_count}
use Rattle.scheme.specs.Sizes.{sizes_of, size_states}
use Rattle.scheme.specs.WellFormed.{value_fits, values_fit, objects_fit, rights_fit, well_formed}
use Rattle.protection.specs.declared.permission.Permission.{Permission}
use Rattle.protection.specs.Permissions.{within}
use Rattle.record.specs.Accepted.{accepted}
use Rattle.record.specs.Systems.{permission_asked}
use Rattle.words.specs.Positions.{PlainLine, PlainWord, word_in}
use Rattle.words.specs.Cuts.{words_of, text_lines}
use Rattle.words.specs.Tokens.{Form, name, number, term, operator, other, form_of}
use Rattle.lines.specs.Kinds.{kind_in, last_rank, in_order, count_allowed}
use Rattle.lines.specs.Roles.{role_at}
use Rattle.lines.specs.declared.role.Role.TheVariants as role
use Rattle.text.specs.Naming.{size_at}
use Rattle.text.specs.Declaring.{name_in, value_form, value_in, values_at, object_in, predicate_in, action_in, query_in, number_among, declared}
use Rattle.text.specs.Reading.{Progress, start, read_line, complete, few_states, reading}
use Rattle.text.specs.Refusing.{kinds, counts, undefined, ranges, Opens, Faultless, below, first_kind, below_line, Passed}
use Rattle.text.proofs.Firsts.{line_faultless}
use Rattle.text.proofs.Whole.{reading_as_the_table_says, is_complete}

-- queries are about objects and rights below the counts
abbrev pub queries_fit : (objects rights : ℕ) → List Query → Bool
queries_fit o r [] = true
queries_fit o r (q ∷ qs) = within o r (permission_asked q) && queries_fit o r qs

-- what the lines so far declare is well-formed; and while an `attr` line may still come, which would
-- change what fits the objects, there are none
pub record Sound (p : Progress) : Type 0 where
  pub formed : well_formed p.scheme ≡ true
  pub asked : queries_fit (length p.scheme.objects) (length p.scheme.rights) p.scheme.queries ≡ true
  pub early : last_rank p.last ≤ 1 → p.scheme.objects ≡ []

formed_as : (m : SchemeModel) → objects_fit (sizes_of m) m.objects ≡ true → rights_fit (length m.rights) m.policies ≡ true → well_formed m ≡ true
formed_as m = and_from (objects_fit (sizes_of m) m.objects) (rights_fit (length m.rights) m.policies)

-- one entry more

objects_push : (ks : List ℕ) (os : List ObjectModel) (o : ObjectModel) → objects_fit ks os ≡ true → values_fit ks o.values ≡ true → objects_fit ks (os ++ o ∷ []) ≡ true
objects_push ks [] o h new = and_from (values_fit ks o.values) true new refl
objects_push ks (x ∷ os) o h new =
    let parts = and_parts (values_fit ks x.values) (objects_fit ks os) h in
    and_from (values_fit ks x.values) (objects_fit ks (os ++ o ∷ [])) parts.0 (objects_push ks os o parts.1 new)

rights_push : (n : ℕ) (ps : List PolicyModel) (p : PolicyModel) → rights_fit n ps ≡ true → p.right < n → rights_fit n (ps ++ p ∷ []) ≡ true
rights_push n [] p h new = and_from (ltb p.right n) true (lt-ltb p.right n new) refl
rights_push n (x ∷ ps) p h new =
    let parts = and_parts (ltb x.right n) (rights_fit n ps) h in
    and_from (ltb x.right n) (rights_fit n (ps ++ p ∷ [])) parts.0 (rights_push n ps p parts.1 new)

-- more rights, and a clause more of the last policy

more_rights : (n k : ℕ) (ps : List PolicyModel) → n ≤ k → rights_fit n ps ≡ true → rights_fit k ps ≡ true
more_rights n k [] le h = refl
more_rights n k (p ∷ ps) le h =
    let parts = and_parts (ltb p.right n) (rights_fit n ps) h in
    let low = ltb-true p.right n parts.0 in
    and_from (ltb p.right k) (rights_fit k ps) (lt-ltb p.right k (omega arith)) (more_rights n k ps le parts.1)

filled_right : (c : Clause) (p : PolicyModel) → (filled c p).right ≡ p.right
filled_right (clause.If x) p = refl
filled_right (clause.Do x) p = refl

filled_fit : (n : ℕ) (c : Clause) (ps : List PolicyModel) → rights_fit n (last_filled c ps) ≡ rights_fit n ps
filled_fit n c [] = refl
filled_fit n c (p ∷ []) = ap (λ r. ltb r n && true) (filled_right c p)
filled_fit n c (p ∷ q ∷ ps) = ap (λ b. ltb p.right n && b) (filled_fit n c (q ∷ ps))

-- more objects and rights, and a query more

within_as : (o r : ℕ) (p : Permission) → p.subject < o → p.object < o → p.right < r → within o r p ≡ true
within_as o r p subject object right =
    and_from (ltb p.subject o) _ (lt-ltb p.subject o subject) (and_from (ltb p.object o) (ltb p.right r) (lt-ltb p.object o object) (lt-ltb p.right r right))

more_queries : (o r o' r' : ℕ) (qs : List Query) → o ≤ o' → r ≤ r' → queries_fit o r qs ≡ true → queries_fit o' r' qs ≡ true
more_queries o r o' r' [] le le' h = refl
more_queries o r o' r' (q ∷ qs) le le' h =
    let parts = and_parts (within o r (permission_asked q)) (queries_fit o r qs) h in
    let subject = and_parts (ltb q.subject o) (ltb q.object o && ltb q.right r) parts.0 in
    let object = and_parts (ltb q.object o) (ltb q.right r) subject.1 in
    let low = ltb-true q.subject o subject.0 in
    let low' = ltb-true q.object o object.0 in
    let low'' = ltb-true q.right r object.1 in
    and_from (within o' r' (permission_asked q)) (queries_fit o' r' qs) (within_as o' r' (permission_asked q) (omega arith) (omega arith) (omega arith)) (more_queries o r o' r' qs le le' parts.1)

queries_push : (o r : ℕ) (qs : List Query) (q : Query) → queries_fit o r qs ≡ true → within o r (permission_asked q) ≡ true → queries_fit o r (qs ++ q ∷ []) ≡ true
queries_push o r [] q h new = and_from (within o r (permission_asked q)) true new refl
queries_push o r (x ∷ qs) q h new =
    let parts = and_parts (within o r (permission_asked x)) (queries_fit o r qs) h in
    and_from (within o r (permission_asked x)) (queries_fit o r (qs ++ q ∷ [])) parts.0 (queries_push o r qs q parts.1 new)

query_fits : (o r : ℕ) (qs : List Query) (i : ℕ) (q : Query) → queries_fit o r qs ≡ true → slice_get qs i ≡ Some q → within o r (permission_asked q) ≡ true
query_fits o r [] i q h is = cc
query_fits o r (x ∷ qs) zero q h is = let same : x ≡ q = cc in ap (λ y. within o r (permission_asked y)) (sym same) ∙ (and_parts (within o r (permission_asked x)) (queries_fit o r qs) h).0
query_fits o r (x ∷ qs) (suc i) q h is = query_fits o r qs i q (and_parts (within o r (permission_asked x)) (queries_fit o r qs) h).1 is

-- the number of a name that is found

index_at : (i n : ℕ) (rest : Option ℕ) (b : Bool) → (is_some rest ≡ true → unwrap_or rest 0 < i + 1 + n) → is_some (cond b (Some i) rest) ≡ true → unwrap_or (cond b (Some i) rest) 0 < i + suc n
index_at i n rest true later h = omega arith
index_at i n rest false later h = let low = later h in omega arith

pub index_below : (i : ℕ) (n : List ℕ) (ns : List (List ℕ)) → is_some (index_from i n ns) ≡ true → unwrap_or (index_from i n ns) 0 < i + length ns
index_below i n [] h = absurd (false≢true h)
index_below i n (m ∷ ns) h = index_at i (length ns) (index_from (i + 1) n ns) (bytes_eq m n) (index_below (i + 1) n ns) h

-- the values of an object line

form_fits : (k : ℕ) (form : Form) → ((v : ℕ) → form ≡ number v → v < k) → value_fits k (value_form form) ≡ true
form_fits k (name b) h = refl
form_fits k (number v) h = lt-ltb v k (h v refl)
form_fits k (term p a) h = refl
form_fits k (operator o) h = refl
form_fits k other h = refl

line_values_fit : (ws : List PlainWord) (i : ℕ) (al : List AttributeModel) → ((j : ℕ) → j < length al → value_fits (get_or (map (λ (a : AttributeModel). a.size) al) j 0) (value_in (word_in ws (i + j))) ≡ true) → values_fit (map (λ (a : AttributeModel). a.size) al) (values_at i al ws) ≡ true
line_values_fit ws i [] h = refl
line_values_fit ws i (a ∷ al) h =
    and_from (value_fits a.size (value_in (word_in ws i))) (values_fit (map (λ (a : AttributeModel). a.size) al) (values_at (i + 1) al ws))
    (ap (λ k. value_fits a.size (value_in (word_in ws k))) (sym (add-zero i)) ∙ h 0 (omega arith))
    (line_values_fit ws (i + 1) al (λ j less. let at : i + 1 + j ≡ i + suc j = omega arith in ap (λ k. value_fits (get_or (map (λ (a : AttributeModel). a.size) al) j 0) (value_in (word_in ws k))) at ∙ h (suc j) (omega arith)))

-- a line without a fault

pub opens_first : (ws : List PlainWord) (k : Kind) → first_kind ws ≡ Some k → (0 < length ws) × (kind_in (word_in ws 0).bytes ≡ Some k)
opens_first [] k is = let z : ◌≡◌ {A = ℕ} 0 1 = cc in absurd (omega arith)
opens_first (w ∷ ws) k is = (omega arith, is)

module _ (p : Progress) (l : PlainLine) (faultless : Faultless p l) where
  abbrev ws : List PlainWord
  ws = words_of l

  abbrev m : SchemeModel
  m = p.scheme

  ordered : (k : Kind) → Opens l k → in_order p.last k ≡ true
  ordered k opened =
      ⊎_elim
      (λ (is : in_order p.last k ≡ true). is)
      (λ (not_in : in_order p.last k ≡ false). absurd (faultless kinds 0 (refl, opened.0, inr (k, (opened.1, not_in)))))
      (cases_Bool (in_order p.last k))

  pub counted : (k : Kind) → Opens l k → count_allowed k (length m.attributes) (length ws) ≡ true
  counted k opened =
      ⊎_elim
      (λ (is : count_allowed k (length m.attributes) (length ws) ≡ true). is)
      (λ (not_so : count_allowed k (length m.attributes) (length ws) ≡ false). absurd (faultless counts 0 (refl, (k, (opened, not_so)))))
      (cases_Bool (count_allowed k (length m.attributes) (length ws)))

  value_below : Opens l kind.Object → (j v : ℕ) → j < length m.attributes → form_of (word_in ws (2 + j)).bytes ≡ number v → v < size_at m j
  value_below opened j v less is =
      let count = eqb-true (length ws) (length m.attributes + 2) (counted kind.Object opened) in
      let value : role_at kind.Object ws (2 + j) ≡ role.Value = ap (λ b. cond b role.NewName role.Value) (ne_eqb (2 + j) 1 (λ e. omega arith)) in
      let at : j ≡ 2 + j - 2 = omega arith in
      ⊎_elim
      (λ (low : v < size_at m j). low)
      (λ (high : size_at m j ≤ v). absurd (faultless ranges (2 + j) (omega arith, omega arith, (kind.Object, (opened, inr (v, (value, is, subst (λ i. size_at m i ≤ v) at high)))))))
      (cases_lt v (size_at m j))

  values_sound : Opens l kind.Object → values_fit (sizes_of m) (values_at 2 m.attributes ws) ≡ true
  unfolding size_at
  values_sound opened = line_values_fit ws 2 m.attributes (λ j less. form_fits (get_or (sizes_of m) j 0) (form_of (word_in ws (2 + j)).bytes) (λ v is. value_below opened j v less is))

  -- a word that is to name an entry does
  module _ (k of : Kind) (i : ℕ) (opened : Opens l k) (known : role_at k ws i ≡ role.Known of) (behind : 0 < i) (within_line : i < length ws) where
    known_found : is_some (index_of (word_in ws i).bytes (names_of of m)) ≡ true
    known_found =
        ⊎_elim
        (λ (is : is_some (index_of (word_in ws i).bytes (names_of of m)) ≡ true). is)
        (λ (lacks : is_some (index_of (word_in ws i).bytes (names_of of m)) ≡ false). absurd (faultless undefined i (behind, within_line, (k, (opened, inl (of, (known, lacks)))))))
        (cases_Bool (is_some (index_of (word_in ws i).bytes (names_of of m))))

    known_below : number_among (word_in ws i).bytes (names_of of m) < length (names_of of m)
    known_below = let low = index_below 0 (word_in ws i).bytes (names_of of m) known_found in omega arith

  right_below : Opens l kind.Policy → number_among (word_in ws 2).bytes m.rights < length m.rights
  right_below opened =
      let count = eqb-true (length ws) 3 (counted kind.Policy opened) in
      known_below kind.Policy kind.Right 2 opened refl (omega arith) (omega arith)

  query_sound : Opens l kind.Query → within (length m.objects) (length m.rights) (permission_asked (query_in m ws)) ≡ true
  query_sound opened =
      let count = eqb-true (length ws) 4 (counted kind.Query opened) in
      let names = length-map m.objects (λ (o : ObjectModel). o.name) in
      let subject = known_below kind.Query kind.Object 1 opened refl (omega arith) (omega arith) in
      let object = known_below kind.Query kind.Object 2 opened refl (omega arith) (omega arith) in
      let right = known_below kind.Query kind.Right 3 opened refl (omega arith) (omega arith) in
      within_as (length m.objects) (length m.rights) (permission_asked (query_in m ws)) (omega arith) (omega arith) right

  module _ (s : Sound p) where
    fit : (objects_fit (sizes_of m) m.objects ≡ true) × (rights_fit (length m.rights) m.policies ≡ true)
    fit = and_parts (objects_fit (sizes_of m) m.objects) (rights_fit (length m.rights) m.policies) s.formed

    no_objects : last_rank p.last ≤ 1 → (ks : List ℕ) → objects_fit ks m.objects ≡ true
    no_objects low ks = ap (objects_fit ks) (s.early low)

    kind_sound : (k : Kind) → Opens l k → Sound (below p ws (Some k))
    kind_sound kind.Attr opened =
        let low : last_rank p.last ≤ 1 = omega (arith, leb-true (last_rank p.last) 0 (ordered kind.Attr opened)) in
        record { formed = formed_as (declared kind.Attr ws m) (no_objects low _) fit.1; asked = s.asked; early = λ _. s.early low }
    kind_sound kind.Right opened =
        let low : last_rank p.last ≤ 1 = leb-true (last_rank p.last) 1 (ordered kind.Right opened) in
        let more = length_push m.rights (name_in (word_in ws 1)) in
        record {
          formed = formed_as (declared kind.Right ws m) fit.0 (more_rights (length m.rights) _ m.policies (omega arith) fit.1);
          asked = more_queries (length m.objects) (length m.rights) _ _ m.queries (omega arith) (omega arith) s.asked;
          early = λ _. s.early low;
        }
    kind_sound kind.Object opened =
        let more = length_push m.objects (object_in m ws) in
        record {
          formed = formed_as (declared kind.Object ws m) (objects_push (sizes_of m) m.objects (object_in m ws) fit.0 (values_sound opened)) fit.1;
          asked = more_queries (length m.objects) (length m.rights) _ _ m.queries (omega arith) (omega arith) s.asked;
          early = λ h. absurd (omega arith);
        }
    kind_sound kind.Policy opened = record { formed = formed_as (declared kind.Policy ws m) fit.0 (rights_push (length m.rights) m.policies _ fit.1 (right_below opened)); asked = s.asked; early = λ h. absurd (omega arith) }
    kind_sound kind.If opened = record { formed = formed_as (declared kind.If ws m) fit.0 (filled_fit (length m.rights) (clause.If (predicate_in m ws)) m.policies ∙ fit.1); asked = s.asked; early = λ h. absurd (omega arith) }
    kind_sound kind.Do opened = record { formed = formed_as (declared kind.Do ws m) fit.0 (filled_fit (length m.rights) (clause.Do (action_in m ws)) m.policies ∙ fit.1); asked = s.asked; early = λ h. absurd (omega arith) }
    kind_sound kind.Query opened = record { formed = s.formed; asked = queries_push (length m.objects) (length m.rights) m.queries (query_in m ws) s.asked (query_sound opened); early = λ h. absurd (omega arith) }

    below_sound : (o : Option Kind) → first_kind ws ≡ o → Sound (below p ws o)
    below_sound None is = s
    below_sound (Some k) is = kind_sound k (opens_first ws k is)

pub start_sound : Sound start
start_sound = record { formed = refl; asked = refl; early = λ h. refl }

pub line_sound : (p : Progress) (l : PlainLine) (q : Progress) → read_line p l ≡ Ok q → Sound p → Sound q
line_sound p l q h s = let told = line_faultless p l q h in subst Sound (sym told.1) (below_sound p l told.0 s (first_kind (words_of l)) refl)

pub passed_sound : (p : Progress) (ls : List PlainLine) (q : Progress) → Passed p ls q → Sound p → Sound q
passed_sound p [] q e s = subst Sound e s
passed_sound p (l ∷ ls) q (faultless, e) s = passed_sound (below_line p l) ls q e (below_sound p l faultless s (first_kind (words_of l)) refl)

-- with an object, the states of one are not more than those of all

power_above : (x n : ℕ) → 0 < x → 1 ≤ n → x ≤ x ^ n
power_above x n some h =
    let first : x ^ 1 ≡ x = pow-suc x 0 ∙ ap (λ y. y * x) (pow-zero x) ∙ one-mul x in
    let more = pow-le-pow_right {n = x} some {i = 1} {j = n} h in omega arith

module _ (m : SchemeModel) (formed : well_formed m ≡ true) (whole : complete m ≡ true) where
  few_each : state_count m ≤ 1048576 → size_states (sizes_of m) ≤ 1048576
  few_each few =
      let parts = and_parts (leb 1 (length m.attributes)) _ whole in
      let some = leb-true 1 (length m.objects) (and_parts (leb 1 (length m.rights)) (leb 1 (length m.objects)) parts.1).1 in
      let more = power_above (size_states (sizes_of m)) (length m.objects) (omega arith) some in
      omega arith

  pub accepted_few : accepted m ≡ few_states m
  accepted_few = ap (λ b. b && (leb (size_states (sizes_of m)) 1048576 && few_states m)) formed ∙ few (few_states m) refl
    where
      few : (b : Bool) → few_states m ≡ b → (leb (size_states (sizes_of m)) 1048576 && b) ≡ b
      few true h = and_from (leb (size_states (sizes_of m)) 1048576) true (le-leb (size_states (sizes_of m)) 1048576 (few_each (leb-true (state_count m) 1048576 h))) refl
      few false h = and_right (leb (size_states (sizes_of m)) 1048576) false refl

-- what an accepted text declares is sound
reading_sound : (text : List ℕ) (m : SchemeModel) → reading text ≡ Ok m → (p : Progress) × (m ≡ p.scheme) × Sound p
reading_sound text m h =
    let a = (reading_as_the_table_says text (Ok m) (sym h)).said in
    (a.all, a.scheme, passed_sound start (text_lines text) a.all a.passed start_sound)

-- the queries of every accepted text are within its counts
pub reading_asked : (text : List ℕ) (m : SchemeModel) → reading text ≡ Ok m → (i : ℕ) (q : Query) → slice_get m.queries i ≡ Some q
    → within (length m.objects) (length m.rights) (permission_asked q) ≡ true
reading_asked text m h i q is =
    let (p, same, sound) = reading_sound text m h in
    query_fits (length m.objects) (length m.rights) m.queries i q (ap (λ (d : SchemeModel). queries_fit (length d.objects) (length d.rights) d.queries) same ∙ sound.asked) is

-- the scheme of every accepted text is accepted
pub reading_accepted : (text : List ℕ) (m : SchemeModel) → reading text ≡ Ok m → accepted m ≡ true
reading_accepted text m h =
    let a = (reading_as_the_table_says text (Ok m) (sym h)).said in
    let q = a.all.scheme in
    let s = passed_sound start (text_lines text) a.all a.passed start_sound in
    ap accepted a.scheme ∙ accepted_few q s.formed (is_complete q (complete q) refl a.complete) ∙ le-leb (state_count q) 1048576 a.few

-- The words that are printed: none has a space or a line end, and each is the word of one thing.
use Rattle.std.proofs.Common.{◌≡◌, ℕ, ◌/◌, ◌%◌, ◌+◌, ◌*◌, ◌^◌, ◌<◌, Bool, true, false, ltb, List, [], ◌∷◌, length, get_or, codes, decimal, All, sym, refl, ap, ◌∙◌, inl, inr, arith}
use Rattle.std.specs.List.{AllByRecursion, list_all}
use Rattle.std.specs.Str.Parse.{AllDigits}
use Rattle.std.proofs.lemmas.List.{length-map}
use Rattle.std.proofs.lemmas.List.Elements.{All-head, All-tail}
use Rattle.std.proofs.lemmas.Bool.{and_parts, ltb-true}
use Rattle.std.proofs.lemmas.Fmt.{decimal_is_IsNumeral}
use Rattle.std.proofs.lemmas.Str.Parse.{digit_from_value}
use Rattle.scheme.specs.Models.{ObjectModel, PolicyModel, SchemeModel, object_names, policy_names}
use Rattle.scheme.specs.Counts.{move_count}
use Rattle.record.proofs.MoveNumbers.{whole}
use Rattle.record.proofs.Leading.{in_scheme}
use Rattle.text.specs.Writing.{name_at, IsNameByte, NamesFit, Writable}
use Rattle.render.proofs.Apart.{Solid}
use Rattle.report.specs.Names.{object_name, right_name, policy_name}
use Rattle.report.specs.Printed.{verdict_word}

bytes_solid : (bs : List ℕ) → All IsNameByte bs → Solid bs
bytes_solid [] all = tt
bytes_solid (b ∷ bs) all = (inked b (All-head IsNameByte b bs all), bytes_solid bs (All-tail IsNameByte b bs all))
  where
    inked : (b : ℕ) → IsNameByte b → 32 < b
    inked b (inl letter) = let low = letter.0 in omega arith
    inked b (inr (inl digit)) = let low = digit.0 in omega arith
    inked b (inr (inr is)) = omega arith

digits_solid : (ds : List ℕ) → AllDigits 10 ds → Solid ds
digits_solid [] h = tt
digits_solid (d ∷ ds) h = (omega (arith, digit_from_value d h.0), digits_solid ds h.1)

pub decimal_solid : (n : ℕ) → n < 2 ^ 64 → Solid (decimal n)
decimal_solid n h = digits_solid (decimal n) (decimal_is_IsNumeral n h).0.1

-- for words that are written out
pub spelled_solid : (w : List ℕ) → list_all (ltb 32) w ≡ true → Solid w
spelled_solid [] h = tt
spelled_solid (b ∷ bs) h = let parts = and_parts (ltb 32 b) (list_all (ltb 32) bs) h in (ltb-true 32 b parts.0, spelled_solid bs parts.1)

-- the word of a verdict

pub verdict_solid : (leaks : Bool) → Solid (verdict_word leaks)
verdict_solid true = spelled_solid (codes "leak") refl
verdict_solid false = spelled_solid (codes "never") refl

-- words whose first bytes differ are different words
abbrev pub first : List ℕ → ℕ
first l = get_or l 0 0

pub verdict_one : (a b : Bool) → verdict_word a ≡ verdict_word b → a ≡ b
verdict_one true true same = refl
verdict_one false false same = refl
verdict_one true false same = absurd (omega (arith, ap first same))
verdict_one false true same = absurd (omega (arith, ap first same))

pub no_verdict : (a : Bool) → verdict_word a ≡ codes "refused" → ⊥
no_verdict true same = omega (arith, ap first same)
no_verdict false same = omega (arith, ap first same)

-- the names of one kind

module _ (names : List (List ℕ)) (fit : NamesFit names) (count : ℕ) (long : length names ≡ count) where
  named_solid : (i : ℕ) → i < count → Solid (name_at names i)
  named_solid i h = bytes_solid (name_at names i) (fit.each i [] (omega arith)).bytes

  named_one : (i j : ℕ) → i < count → j < count → name_at names i ≡ name_at names j → i ≡ j
  named_one i j h k same = fit.distinct i j (omega arith) (omega arith) same

-- the three names of a move
abbrev pub move_words : SchemeModel → ℕ → List (List ℕ)
move_words m v =
    let n = length m.objects in
    policy_name m (v / (n * n)) ∷ object_name m (v / n % n) ∷ object_name m (v % n) ∷ []

module _ (m : SchemeModel) (w : Writable m) where
  abbrev n : ℕ
  n = length m.objects

  objects_long : length (object_names m) ≡ n
  objects_long = length-map m.objects (λ (o : ObjectModel). o.name)

  policies_long : length (policy_names m) ≡ length m.policies
  policies_long = length-map m.policies (λ (p : PolicyModel). p.name)

  pub object_solid : (i : ℕ) → i < n → Solid (object_name m i)
  object_solid = named_solid (object_names m) w.objects_named n objects_long

  pub object_one : (i j : ℕ) → i < n → j < n → object_name m i ≡ object_name m j → i ≡ j
  object_one = named_one (object_names m) w.objects_named n objects_long

  pub right_solid : (i : ℕ) → i < length m.rights → Solid (right_name m i)
  right_solid = named_solid m.rights w.rights_named (length m.rights) refl

  pub right_one : (i j : ℕ) → i < length m.rights → j < length m.rights → right_name m i ≡ right_name m j → i ≡ j
  right_one = named_one m.rights w.rights_named (length m.rights) refl

  policy_solid : (i : ℕ) → i < length m.policies → Solid (policy_name m i)
  policy_solid = named_solid (policy_names m) w.policies_named (length m.policies) policies_long

  policy_one : (i j : ℕ) → i < length m.policies → j < length m.policies → policy_name m i ≡ policy_name m j → i ≡ j
  policy_one = named_one (policy_names m) w.policies_named (length m.policies) policies_long

  pub move_solid : (v : ℕ) → v < move_count m → AllByRecursion Solid (codes "by" ∷ move_words m v)
  move_solid v h =
      let parts = in_scheme m v h in
      (spelled_solid (codes "by") refl, (policy_solid (v / (n * n)) parts.policy, (object_solid (v / n % n) parts.subject, (object_solid (v % n) parts.object, tt))))

  pub move_one : (v u : ℕ) → v < move_count m → u < move_count m → move_words m v ≡ move_words m u → v ≡ u
  move_one v u h k same =
      let parts = in_scheme m v h in
      let parts' = in_scheme m u k in
      let policy : v / (n * n) ≡ u / (n * n) = policy_one (v / (n * n)) (u / (n * n)) parts.policy parts'.policy cc in
      let subject : v / n % n ≡ u / n % n = object_one (v / n % n) (u / n % n) parts.subject parts'.subject cc in
      let object : v % n ≡ u % n = object_one (v % n) (u % n) parts.object parts'.object cc in
      whole n v ∙ (λ i. policy i * (n * n) + subject i * n + object i) ∙ sym (whole n u)

-- The limits by numbers, and by the tests that the reader makes.
use Rattle.std.proofs.Common.{◌≡◌, ℕ, ◌<◌, ◌≤◌, true, ◌&&◌, ◌||◌, eqb, ltb, leb, List, [], ◌∷◌, map, length, Some, None, Option, All, refl, inl, inr, ⊎_elim, arith}
use Rattle.std.specs.List.{list_all, AllZip}
use Rattle.std.proofs.lemmas.List.Elements.{All-nil, All-cons, All-head, All-tail}
use Rattle.std.proofs.lemmas.Bool.{false≢true, and_parts, and_from, or_cases, ltb-true, lt-ltb, leb-true, le-leb, eqb-true}
use Rattle.std.proofs.lemmas.Bool.Decides.{nat_tests}
use Rattle.scheme.specs.Models.{AttributeModel, ObjectModel, PolicyModel, SchemeModel}
use Rattle.scheme.specs.WellFormed.{value_fits, values_fit, objects_fit, rights_fit}
use Rattle.words.specs.Forms.{lower, digit, name_byte, is_name}
use Rattle.text.specs.Reading.{complete}
use Rattle.text.specs.Writing.{IsNameByte, IsName, ValueFits, Writable}

-- names

pub range_means : (low high b : ℕ) → (leb low b && leb b high) ≡ true → (low ≤ b) × (b ≤ high)
range_means low high b h = let parts = and_parts (leb low b) (leb b high) h in (leb-true low b parts.0, leb-true b high parts.1)

byte_means : (b : ℕ) → name_byte b ≡ true → IsNameByte b
byte_means b h =
    ⊎_elim
    (λ (is : lower b ≡ true). inl (range_means 97 122 b is))
    (λ (is : (digit b || eqb b 95) ≡ true).
    ⊎_elim (λ (is : digit b ≡ true). inr (inl (range_means 48 57 b is))) (λ (is : eqb b 95 ≡ true). inr (inr (eqb-true b 95 is))) (or_cases (digit b) (eqb b 95) is))
    (or_cases (lower b) (digit b || eqb b 95) h)

byte_tested : (b : ℕ) → IsNameByte b → name_byte b ≡ true
byte_tested b h = grind (arith, nat_tests)

bytes_mean : (bs : List ℕ) → list_all name_byte bs ≡ true → All IsNameByte bs
bytes_mean [] h = All-nil IsNameByte
bytes_mean (b ∷ bs) h = let parts = and_parts (name_byte b) (list_all name_byte bs) h in All-cons IsNameByte b bs (byte_means b parts.0) (bytes_mean bs parts.1)

bytes_tested : (bs : List ℕ) → All IsNameByte bs → list_all name_byte bs ≡ true
bytes_tested [] all = refl
bytes_tested (b ∷ bs) all = and_from (name_byte b) (list_all name_byte bs) (byte_tested b (All-head IsNameByte b bs all)) (bytes_tested bs (All-tail IsNameByte b bs all))

pub name_means : (w : List ℕ) → is_name w ≡ true → IsName w
name_means [] h = absurd (false≢true h)
name_means (b ∷ bs) h =
    let parts = and_parts (lower b) (leb (length bs) 14 && list_all name_byte bs) h in
    let rest = and_parts (leb (length bs) 14) (list_all name_byte bs) parts.1 in
    let few = leb-true (length bs) 14 rest.0 in
    let letter = range_means 97 122 b parts.0 in
    record { short = omega arith; first = letter; bytes = All-cons IsNameByte b bs (inl letter) (bytes_mean bs rest.1) }

pub name_tested : (w : List ℕ) → IsName w → is_name w ≡ true
name_tested [] n = let low = n.first.0 in absurd (omega arith)
name_tested (b ∷ bs) n =
    let short = n.short in
    and_from (lower b) (leb (length bs) 14 && list_all name_byte bs)
    (and_from (leb 97 b) (leb b 122) (le-leb 97 b n.first.0) (le-leb b 122 n.first.1))
    (and_from (leb (length bs) 14) (list_all name_byte bs) (le-leb (length bs) 14 (omega arith)) (bytes_tested bs (All-tail IsNameByte b bs n.bytes)))

-- values

value_means : (a : AttributeModel) (v : Option ℕ) → value_fits a.size v ≡ true → ValueFits a v
value_means a None h = tt
value_means a (Some v) h = ltb-true v a.size h

value_tested : (a : AttributeModel) (v : Option ℕ) → ValueFits a v → value_fits a.size v ≡ true
value_tested a None h = refl
value_tested a (Some v) h = lt-ltb v a.size h

values_mean : (al : List AttributeModel) (vs : List (Option ℕ)) → values_fit (map (λ (a : AttributeModel). a.size) al) vs ≡ true → AllZip ValueFits al vs
values_mean [] [] h = tt
values_mean [] (v ∷ vs) h = absurd (false≢true h)
values_mean (a ∷ al) [] h = absurd (false≢true h)
values_mean (a ∷ al) (v ∷ vs) h =
    let parts = and_parts (value_fits a.size v) (values_fit (map (λ (a : AttributeModel). a.size) al) vs) h in
    (value_means a v parts.0, values_mean al vs parts.1)

pub values_tested : (al : List AttributeModel) (vs : List (Option ℕ)) → AllZip ValueFits al vs → values_fit (map (λ (a : AttributeModel). a.size) al) vs ≡ true
values_tested [] [] all = refl
values_tested [] (v ∷ vs) all = absurd all
values_tested (a ∷ al) [] all = absurd all
values_tested (a ∷ al) (v ∷ vs) all = and_from (value_fits a.size v) (values_fit (map (λ (a : AttributeModel). a.size) al) vs) (value_tested a v all.0) (values_tested al vs all.1)

pub objects_mean : (al : List AttributeModel) (os : List ObjectModel) → objects_fit (map (λ (a : AttributeModel). a.size) al) os ≡ true → All (λ (o : ObjectModel). AllZip ValueFits al o.values) os
objects_mean al [] h = All-nil (λ (o : ObjectModel). AllZip ValueFits al o.values)
objects_mean al (o ∷ os) h =
    let parts = and_parts (values_fit (map (λ (a : AttributeModel). a.size) al) o.values) (objects_fit (map (λ (a : AttributeModel). a.size) al) os) h in
    All-cons (λ (o : ObjectModel). AllZip ValueFits al o.values) o os (values_mean al o.values parts.0) (objects_mean al os parts.1)

pub rights_mean : (n : ℕ) (ps : List PolicyModel) → rights_fit n ps ≡ true → All (λ (p : PolicyModel). p.right < n) ps
rights_mean n [] h = All-nil (λ (p : PolicyModel). p.right < n)
rights_mean n (p ∷ ps) h =
    let parts = and_parts (ltb p.right n) (rights_fit n ps) h in
    All-cons (λ (p : PolicyModel). p.right < n) p ps (ltb-true p.right n parts.0) (rights_mean n ps parts.1)

-- what a scheme has at least

pub complete_means : (m : SchemeModel) → complete m ≡ true → (1 ≤ length m.attributes) × (1 ≤ length m.rights) × (1 ≤ length m.objects)
complete_means m h =
    let parts = and_parts (leb 1 (length m.attributes)) (leb 1 (length m.rights) && leb 1 (length m.objects)) h in
    let rest = and_parts (leb 1 (length m.rights)) (leb 1 (length m.objects)) parts.1 in
    (leb-true 1 (length m.attributes) parts.0, leb-true 1 (length m.rights) rest.0, leb-true 1 (length m.objects) rest.1)

pub complete_tested : (m : SchemeModel) → Writable m → complete m ≡ true
complete_tested m w =
    and_from (leb 1 (length m.attributes)) (leb 1 (length m.rights) && leb 1 (length m.objects)) (le-leb 1 (length m.attributes) w.some_attribute)
    (and_from (leb 1 (length m.rights)) (leb 1 (length m.objects)) (le-leb 1 (length m.rights) w.some_right) (le-leb 1 (length m.objects) w.some_object))

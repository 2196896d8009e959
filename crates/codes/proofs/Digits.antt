-- Codes of objects, digit by digit: codes below their count and objects correspond one to one.
use Rattle.std.proofs.Common.{◌≡◌, ℕ, zero, suc, ◌+◌, ◌*◌, ◌/◌, ◌%◌, ◌<◌, true, List, [], ◌∷◌, length, Some, None, Option, sym, refl, ap, ◌∙◌, mul_assoc, mul_comm, add-mul, div-add-mod', add-one, arith}
use lib.Arith.{digits_lt, digits_div, digits_mod}
use Rattle.std.proofs.lemmas.Nat.{div_below, mod_below}
use Rattle.std.proofs.lemmas.Bool.{false≢true, and_parts, and_from, ltb-true, lt-ltb}
use Rattle.scheme.specs.Sizes.{size_combinations, size_states}
use Rattle.scheme.specs.WellFormed.{value_fits, values_fit}
use Rattle.codes.specs.Objects.{ObjectState, absent, there, object_fits}
use Rattle.codes.specs.Codes.{part, weighed, code, from_part, values_from, object_from, Corresponds}

-- the weighed sum, by Horner's rule
abbrev pub horner : List ℕ → List (Option ℕ) → ℕ
horner [] vs = 0
horner (k ∷ ks) [] = 0
horner (k ∷ ks) (v ∷ vs) = horner ks vs * (k + 1) + part v

pub weighed_horner : (w : ℕ) (ks : List ℕ) (vs : List (Option ℕ)) → weighed w ks vs ≡ horner ks vs * w
weighed_horner w [] vs = omega arith
weighed_horner w (k ∷ ks) [] = omega arith
weighed_horner w (k ∷ ks) (v ∷ vs) =
    let ih = weighed_horner (w * (k + 1)) ks vs in
    let e : horner ks vs * (w * (k + 1)) ≡ horner ks vs * (k + 1) * w = ap (λ x. horner ks vs * x) (mul_comm w (k + 1)) ∙ sym (mul_assoc (horner ks vs) (k + 1) w) in
    omega (arith, add-mul (horner ks vs * (k + 1)) (part v) w)

pub part_lt : (k : ℕ) (v : Option ℕ) → value_fits k v ≡ true → part v < k + 1
part_lt k None h = omega arith
part_lt k (Some v) h = omega (arith, ltb-true v k h)

pub horner_lt : (ks : List ℕ) (vs : List (Option ℕ)) → values_fit ks vs ≡ true → horner ks vs < size_combinations ks
horner_lt [] [] h = omega arith
horner_lt [] (v ∷ vs) h = absurd (false≢true h)
horner_lt (k ∷ ks) [] h = absurd (false≢true h)
horner_lt (k ∷ ks) (v ∷ vs) h =
    let p = and_parts (value_fits k v) (values_fit ks vs) h in
    digits_lt (horner_lt ks vs p.1) (part_lt k v p.0)

pub from_part_part : (v : Option ℕ) → from_part (part v) ≡ v
from_part_part None = refl
from_part_part (Some v) = rw add-one

pub part_from_part : (n : ℕ) → part (from_part n) ≡ n
part_from_part zero = refl
part_from_part (suc v) = add-one v

pub values_horner : (ks : List ℕ) (vs : List (Option ℕ)) → values_fit ks vs ≡ true → values_from ks (horner ks vs) ≡ vs
values_horner [] [] h = refl
values_horner [] (v ∷ vs) h = absurd (false≢true h)
values_horner (k ∷ ks) [] h = absurd (false≢true h)
values_horner (k ∷ ks) (v ∷ vs) h =
    let p = and_parts (value_fits k v) (values_fit ks vs) h in
    let lt = part_lt k v p.0 in
    let d = digits_div (horner ks vs) lt in
    let m = digits_mod (horner ks vs) lt in
    rw (d, m, from_part_part v, values_horner ks vs p.1)

pub horner_values : (ks : List ℕ) (c : ℕ) → c < size_combinations ks → horner ks (values_from ks c) ≡ c
horner_values [] c h = omega arith
horner_values (k ∷ ks) c h =
    rw (horner_values ks (c / (k + 1)) (div_below c (k + 1) (size_combinations ks) (omega arith) h), part_from_part (c % (k + 1))) (div-add-mod' c (k + 1))

fits_from_part : (k m : ℕ) → m < k + 1 → value_fits k (from_part m) ≡ true
fits_from_part k zero h = refl
fits_from_part k (suc v) h = lt-ltb v k (omega arith)

pub fit_values : (ks : List ℕ) (c : ℕ) → values_fit ks (values_from ks c) ≡ true
fit_values [] c = refl
fit_values (k ∷ ks) c =
    and_from _ _ (fits_from_part k (c % (k + 1)) (mod_below c (k + 1) (omega arith))) (fit_values ks (c / (k + 1)))

pub length_values : (ks : List ℕ) (c : ℕ) → length (values_from ks c) ≡ length ks
length_values [] c = refl
length_values (k ∷ ks) c = ap suc (length_values ks (c / (k + 1)))

pub code_horner : (ks : List ℕ) (vs : List (Option ℕ)) → code ks (there vs) ≡ suc (horner ks vs)
code_horner ks vs = omega (arith, weighed_horner 1 ks vs)

-- a code is below the count, and stands for its object
pub code_below : (ks : List ℕ) (x : ObjectState) → object_fits ks x ≡ true → code ks x < size_states ks
code_below ks absent h = omega arith
code_below ks (there vs) h = omega (arith, code_horner ks vs, horner_lt ks vs h)

pub object_code : (ks : List ℕ) (x : ObjectState) → object_fits ks x ≡ true → object_from ks (code ks x) ≡ x
object_code ks absent h = refl
object_code ks (there vs) h = rw (code_horner ks vs, values_horner ks vs h)

-- a number below the count is the code of its object
pub code_object : (ks : List ℕ) (c : ℕ) → c < size_states ks → code ks (object_from ks c) ≡ c
code_object ks zero h = refl
code_object ks (suc c) h = code_horner ks (values_from ks c) ∙ ap suc (horner_values ks c (omega arith))

pub fits_object : (ks : List ℕ) (c : ℕ) → object_fits ks (object_from ks c) ≡ true
fits_object ks zero = refl
fits_object ks (suc c) = fit_values ks c

pub corresponds : (ks : List ℕ) → Corresponds ks
corresponds ks =
    record {
      code_below = code_below ks;
      object_of_code = object_code ks;
      is_object = fits_object ks;
      code_of_object = code_object ks;
    }

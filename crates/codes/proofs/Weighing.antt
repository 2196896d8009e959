-- One part of a code: its weight, how it is read, and the code with another part in its place.
use Rattle.std.proofs.Common.{◌≡◌, ℕ, zero, suc, ◌+◌, ◌-◌, ◌*◌, ◌/◌, ◌%◌, ◌^◌, ◌<◌, ◌≤◌, Bool, true, cond, is_none, List, [], ◌∷◌, ◌++◌, length, get_or, set, map, slice_get, Some, None, Option, MatchOption, Bor, sym, refl, ap, ◌∙◌, ⊎_elim, mul_assoc, mul_comm, add-mul, mul-le-mul, pow-suc, mul-one, one-mul, div-one, arith}
use native.Mathlib.Nat.{mod-one, div-div-eq-div-mul, pow-zero, pow-le-pow_right}
use Rattle.std.proofs.lemmas.List.{take_all, get_or_past, map_push, length-map, length_push, take-append-le}
use Rattle.std.proofs.Math.ListN.{get_or-append}
use Rattle.std.proofs.Math.Seq.{get_or-append_seam}
use Rattle.std.proofs.lemmas.Option.{get_or_from_slice_get, slice_get-map, slice_get-get_or, slice_get_within}
use Rattle.std.proofs.lemmas.Bool.{cases_lt, false≢true, and_parts, and_from, lt-ltb, le-ltb, ltb-true, cond-true}
use Rattle.std.specs.Option.{option_map, option_copied}
use Rattle.scheme.specs.Sizes.{size_combinations, size_states}
use Rattle.scheme.specs.WellFormed.{value_fits, values_fit}
use Rattle.codes.specs.Objects.{ObjectState, there, updated}
use Rattle.codes.specs.Codes.{part, code, from_part, values_from, value_in, object_from, updated_code}
use Rattle.codes.specs.declared.digit.Digit.{Digit}
use Rattle.codes.specs.Weights.{weight, digit_sizes, Weighed}
use Rattle.codes.proofs.Digits.{horner, horner_values, code_horner, part_from_part, fit_values, length_values, code_below}

-- Weights.

pub weight_more : (ks : List ℕ) (a : ℕ) → a < length ks → weight ks (a + 1) ≡ weight ks a * (get_or ks a 0 + 1)
weight_more [] a h = absurd (omega arith)
weight_more (k ∷ ks) zero h = refl
weight_more (k ∷ ks) (suc a) h =
    let w : ℕ = weight ks a in
    let g : ℕ = get_or ks a 0 + 1 in
    let ih : weight ks (a + 1) ≡ w * g = weight_more ks a (omega arith) in
    let e : suc a + 1 ≡ suc (a + 1) = omega arith in
    ap (λ n. weight (k ∷ ks) n) e
    ∙ ap (λ n. n * (k + 1)) ih
    ∙ (mul_assoc w g (k + 1) ∙ ap (λ n. w * n) (mul_comm g (k + 1)) ∙ sym (mul_assoc w (k + 1) g))

pub weight_pos : (ks : List ℕ) (a : ℕ) → 0 < weight ks a
weight_pos ks zero = omega arith
weight_pos [] (suc a) = omega arith
weight_pos (k ∷ ks) (suc a) = let z : 1 ≤ k + 1 = omega arith in let p : 1 * 1 ≤ weight ks a * (k + 1) = mul-le-mul (weight_pos ks a) z in omega arith

pub weight_all : (ks : List ℕ) (a : ℕ) → length ks ≤ a → weight ks a ≡ size_combinations ks
weight_all ks a h = ap size_combinations (take_all a ks h)

pub weight_le : (ks : List ℕ) (a : ℕ) → weight ks a ≤ size_combinations ks
weight_le [] zero = omega arith
weight_le [] (suc a) = omega arith
weight_le (k ∷ ks) zero =
    omega (arith, weight_pos (k ∷ ks) (suc (length ks)), weight_all (k ∷ ks) (suc (length ks)) (omega arith))
weight_le (k ∷ ks) (suc a) = let z : k + 1 ≤ k + 1 = omega arith in mul-le-mul (weight_le ks a) z

-- sizes of a byte each, and four of them
weight_le_pow : (ks : List ℕ) (a : ℕ) → ((i : ℕ) → get_or ks i 0 < 256) → weight ks a ≤ 256 ^ a
weight_le_pow ks zero f = rw pow-zero (omega arith)
weight_le_pow [] (suc a) f =
    let z : 0 < 256 = omega arith in
    let y : 0 ≤ suc a = omega arith in
    omega (arith, pow-le-pow_right z y, pow-zero 256)
weight_le_pow (k ∷ ks) (suc a) f =
    let z : k < 256 = f 0 in
    let y : k + 1 ≤ 256 = omega arith in
    rw pow-suc (mul-le-mul (weight_le_pow ks a (λ i. f (suc i))) y)

pub weight_fits : (ks : List ℕ) (a : ℕ) → a ≤ 4 → ((i : ℕ) → get_or ks i 0 < 256) → weight ks a ≤ 2 ^ 32
weight_fits ks a h f = let z : 0 < 256 = omega arith in omega (arith, weight_le_pow ks a f, pow-le-pow_right z h)

pub weight_before_last_fits : (ks : List ℕ) (a : ℕ) → a < 4 → ((i : ℕ) → get_or ks i 0 < 256) → weight ks a < 2 ^ 32
weight_before_last_fits ks a h f =
    let z : 0 < 256 = omega arith in
    let y : a ≤ 3 = omega arith in
    omega (arith, weight_le_pow ks a f, pow-le-pow_right z y)

-- Reading a part.

pub part_is : (ks : List ℕ) (c a : ℕ) → c / weight ks a % (get_or ks a 0 + 1) ≡ part (get_or (values_from ks c) a None)
part_is [] c a = mod-one (c / weight [] a)
part_is (k ∷ ks) c zero = ap (λ n. n % (k + 1)) (div-one c) ∙ sym (part_from_part (c % (k + 1)))
part_is (k ∷ ks) c (suc a) =
    ap (λ n. n % (get_or ks a 0 + 1)) (ap (λ n. c / n) (mul_comm (weight ks a) (k + 1)) ∙ sym (div-div-eq-div-mul c (k + 1) (weight ks a)))
    ∙ part_is ks (c / (k + 1)) a

pub past_values : (ks : List ℕ) (c a : ℕ) → length ks ≤ a → get_or (values_from ks c) a None ≡ None
past_values ks c a h = get_or_past (values_from ks c) a None (omega (arith, length_values ks c))

-- Digits.

pub size_at : (ds : List Digit) (a : ℕ) (d : Digit) → slice_get ds a ≡ Some d → get_or (digit_sizes ds) a 0 ≡ d.size
size_at ds a d is = get_or_from_slice_get (digit_sizes ds) a d.size 0 (slice_get-map (λ (e : Digit). e.size) ds a ∙ ap (option_map (λ (e : Digit). e.size)) is)

pub none_past : (ds : List Digit) (a : ℕ) → slice_get ds a ≡ None → length (digit_sizes ds) ≤ a
none_past [] a is = omega arith
none_past (d ∷ ds) zero is = cc
none_past (d ∷ ds) (suc a) is = omega (arith, none_past ds a is)

-- what a digit reads is the part
pub digit_reads : (ds : List Digit) (c a : ℕ) (d : Digit) → Weighed ds → slice_get ds a ≡ Some d → c / d.weight.by % (d.size + 1) ≡ part (get_or (values_from (digit_sizes ds) c) a None)
digit_reads ds c a d weighed is =
    ap (λ n. c / n % (d.size + 1)) (weighed a d is)
    ∙ ap (λ n. c / weight (digit_sizes ds) a % (n + 1)) (sym (size_at ds a d is))
    ∙ part_is (digit_sizes ds) c a

-- what is read of a digit, or of none
pub part_read : (ds : List Digit) (c a : ℕ) (o : Option (Bor Digit)) (r : ℕ) → Weighed ds → option_copied o ≡ slice_get ds a → MatchOption o (r ≡ 0) (λ d. r ≡ (c - 1) / d.now.weight.by % (d.now.size + 1)) → r ≡ part (value_in (digit_sizes ds) c a)
part_read ds c a None r weighed is told = told ∙ sym (ap part (past_values (digit_sizes ds) (c - 1) a (none_past ds a (sym is))))
part_read ds c a (Some d) r weighed is told = told ∙ digit_reads ds (c - 1) a d.now weighed (sym is)

-- what fits a digit, or none
pub fit_read : (ds : List Digit) (a : ℕ) (o : Option (Bor Digit)) (v : Option ℕ) (r : Bool) → option_copied o ≡ slice_get ds a → MatchOption o (r ≡ is_none v) (λ d. r ≡ value_fits d.now.size v) → r ≡ value_fits (get_or (digit_sizes ds) a 0) v
fit_read ds a None v r is told = told ∙ only_null v ∙ ap (λ k. value_fits k v) (sym (get_or_past (digit_sizes ds) a 0 (none_past ds a (sym is))))
  where
    only_null : (v : Option ℕ) → is_none v ≡ value_fits 0 v
    only_null None = refl
    only_null (Some x) = sym (le-ltb x 0 (omega arith))
fit_read ds a (Some d) v r is told = told ∙ ap (λ k. value_fits k v) (sym (size_at ds a d.now (sym is)))

-- one digit more
pub weighed_more : (ds : List Digit) (d : Digit) → Weighed ds → d.weight.by ≡ weight (digit_sizes ds) (length ds) → Weighed (ds ++ d ∷ [])
weighed_more ds d weighed is_weight a e is = ⊎_elim inside last (cases_lt a (length ds))
  where
    sizes : digit_sizes (ds ++ d ∷ []) ≡ digit_sizes ds ++ d.size ∷ []
    sizes = map_push (λ (x : Digit). x.size) ds d

    -- the weights of those before it stay, and its own is the next
    kept : a ≤ length ds → weight (digit_sizes (ds ++ d ∷ [])) a ≡ weight (digit_sizes ds) a
    kept low = ap (λ l. weight l a) sizes ∙ ap size_combinations (take-append-le a (digit_sizes ds) (d.size ∷ []) (omega (arith, length-map ds (λ (x : Digit). x.size))))

    read : get_or (ds ++ d ∷ []) a e ≡ e
    read = get_or_from_slice_get (ds ++ d ∷ []) a e e is

    inside : a < length ds → e.weight.by ≡ weight (digit_sizes (ds ++ d ∷ [])) a
    inside low =
        weighed a e (slice_get-get_or ds a e low ∙ ap Some (sym (get_or-append ds (d ∷ []) e a low) ∙ read)) ∙ sym (kept (omega arith))

    last : length ds ≤ a → e.weight.by ≡ weight (digit_sizes (ds ++ d ∷ [])) a
    last high =
        let end : a ≡ length ds = omega (arith, slice_get_within (ds ++ d ∷ []) a e is, length_push ds d) in
        let it : e ≡ d = sym read ∙ ap (λ n. get_or (ds ++ d ∷ []) n e) end ∙ get_or-append_seam ds d [] e in
        ap (λ (x : Digit). x.weight.by) it ∙ is_weight ∙ ap (weight (digit_sizes ds)) (sym end) ∙ sym (kept (omega arith))

-- Another part.

horner_set : (ks : List ℕ) (vs : List (Option ℕ)) (a : ℕ) (v : Option ℕ) → values_fit ks vs ≡ true → value_fits (get_or ks a 0) v ≡ true
    → horner ks (set vs a v) + part (get_or vs a None) * weight ks a ≡ horner ks vs + part v * weight ks a
horner_set [] [] a None h f = refl
horner_set [] [] a (Some x) h f = absurd (omega (arith, ltb-true x 0 f))
horner_set [] (x ∷ vs) a v h f = absurd (false≢true h)
horner_set (k ∷ ks) [] a v h f = absurd (false≢true h)
horner_set (k ∷ ks) (x ∷ vs) zero v h f = omega (arith, mul-one (part x), mul-one (part v))
horner_set (k ∷ ks) (x ∷ vs) (suc a) v h f =
    let w : ℕ = weight ks a in
    let p : ℕ = part (get_or vs a None) in
    let ih : horner ks (set vs a v) + p * w ≡ horner ks vs + part v * w =
    horner_set ks vs a v (and_parts (value_fits k x) (values_fit ks vs) h).1 f in
    let e : (horner ks (set vs a v) + p * w) * (k + 1) ≡ (horner ks vs + part v * w) * (k + 1) = ap (λ (x : ℕ). x * (k + 1)) ih in
    omega (
      arith,
      e,
      add-mul (horner ks (set vs a v)) (p * w) (k + 1),
      add-mul (horner ks vs) (part v * w) (k + 1),
      mul_assoc p w (k + 1),
      mul_assoc (part v) w (k + 1),
    )

pub fit_set : (ks : List ℕ) (vs : List (Option ℕ)) (a : ℕ) (v : Option ℕ) → values_fit ks vs ≡ true → value_fits (get_or ks a 0) v ≡ true
    → values_fit ks (set vs a v) ≡ true
fit_set [] [] a v h f = refl
fit_set [] (x ∷ vs) a v h f = absurd (false≢true h)
fit_set (k ∷ ks) [] a v h f = absurd (false≢true h)
fit_set (k ∷ ks) (x ∷ vs) zero v h f = and_from _ _ f (and_parts (value_fits k x) (values_fit ks vs) h).1
fit_set (k ∷ ks) (x ∷ vs) (suc a) v h f =
    let p = and_parts (value_fits k x) (values_fit ks vs) h in
    and_from _ _ p.0 (fit_set ks vs a v p.1 f)

pub present : (ks : List ℕ) (c : ℕ) → 0 < c → object_from ks c ≡ there (values_from ks (c - 1))
present ks zero q = absurd (omega arith)
present ks (suc c) q = let e : c ≡ suc c - 1 = omega arith in ap (λ (x : ℕ). there (values_from ks x)) e

-- the code c with the value v in place of the part p of an attribute of weight w
pub record Exchanged (ks : List ℕ) (c a : ℕ) (v : Option ℕ) (p w new : ℕ) : Type 0 where
  pub within : p * w ≤ c
  pub below : c - p * w + new * w < size_states ks
  pub value : Some (c - p * w + new * w) ≡ updated_code ks c a v

exchange : (ks : List ℕ) (c a : ℕ) (v : Option ℕ) → 0 < c → c < size_states ks → value_fits (get_or ks a 0) v ≡ true
    → Exchanged ks c a v (part (value_in ks c a)) (weight ks a) (part v)
exchange ks c a v pos h f =
    let vs : List (Option ℕ) = values_from ks (c - 1) in
    let old : ℕ = part (value_in ks c a) * weight ks a in
    let new : ℕ = part v * weight ks a in
    let whole : horner ks vs ≡ c - 1 = horner_values ks (c - 1) (omega arith) in
    let sum : horner ks (set vs a v) + old ≡ horner ks vs + new = horner_set ks vs a v (fit_values ks (c - 1)) f in
    let none : horner ks (set vs a None) + old ≡ horner ks vs + part None * weight ks a = horner_set ks vs a None (fit_values ks (c - 1)) refl in
    let changed : ObjectState = there (set vs a v) in
    let same : c - old + new ≡ code ks changed = omega (arith, code_horner ks (set vs a v)) in
    record {
      within = omega arith;
      below = omega (arith, code_below ks changed (fit_set ks vs a v (fit_values ks (c - 1)) f));
      value =
          ap Some same
          ∙ sym (cond-true _ _ _ (lt-ltb c (size_states ks) h)
          ∙ ap (λ (x : ObjectState). option_map (code ks) (updated ks x a v)) (present ks c pos)
          ∙ ap (λ b. option_map (code ks) (cond b (Some changed) None)) f);
    }

-- the same with the numbers that the program holds
pub exchanged : (ks : List ℕ) (c a : ℕ) (v : Option ℕ) (p w new : ℕ) → 0 < c → c < size_states ks → value_fits (get_or ks a 0) v ≡ true
    → p ≡ part (value_in ks c a) → w ≡ weight ks a → new ≡ part v → Exchanged ks c a v p w new
exchanged ks c a v p w new pos h f is-part is-weight is_new =
    rw (is-part, is-weight, is_new) (exchange ks c a v pos h f)

-- an attribute that is not there can only be null, and stays so
pub updated_past : (ks : List ℕ) (c a : ℕ) (v : Option ℕ) → 0 < c → c < size_states ks → length ks ≤ a → value_fits (get_or ks a 0) v ≡ true
    → Some c ≡ updated_code ks c a v
updated_past ks c a v pos h past f =
    let e = exchange ks c a v pos h f in
    let old : part (value_in ks c a) * weight ks a ≡ 0 * weight ks a = ap (λ x. part x * weight ks a) (past_values ks (c - 1) a past) in
    let new : part v * weight ks a ≡ 0 * weight ks a = ap (λ x. part x * weight ks a) (only_null v (ap (λ k. value_fits k v) (sym (get_or_past ks a 0 past)) ∙ f)) in
    let same : c ≡ c - part (value_in ks c a) * weight ks a + part v * weight ks a = omega arith in
    ap Some same ∙ e.value
  where
    only_null : (v : Option ℕ) → value_fits 0 v ≡ true → v ≡ None
    only_null None f = refl
    only_null (Some x) f = absurd (omega (arith, ltb-true x 0 f))

-- the exchange that a digit makes
pub digit_exchanges : (ds : List Digit) (d : Digit) (c a : ℕ) (v : Option ℕ) (p new : ℕ) → Weighed ds → slice_get ds a ≡ Some d → 0 < c → c < size_states (digit_sizes ds) → value_fits (get_or (digit_sizes ds) a 0) v ≡ true
    → p ≡ (c - 1) / d.weight.by % (d.size + 1) → new ≡ part v → Exchanged (digit_sizes ds) c a v p d.weight.by new
digit_exchanges ds d c a v p new weighed is pos h f told is_new =
    exchanged (digit_sizes ds) c a v p d.weight.by new pos h f (told ∙ digit_reads ds (c - 1) a d weighed is) (weighed a d is) is_new

-- Whole objects.

-- the value of a digit in a sum
abbrev pub value_read : ℕ → Digit → Option ℕ
value_read c d = from_part (c / d.weight.by % (d.size + 1))

-- the digits whose weights are w times theirs have the values of c / w
values_over : (ds : List Digit) (w c : ℕ) → ((a : ℕ) (d : Digit) → slice_get ds a ≡ Some d → d.weight.by ≡ w * weight (digit_sizes ds) a) → map (value_read c) ds ≡ values_from (digit_sizes ds) (c / w)
values_over [] w c weights = refl
values_over (d ∷ ds) w c weights =
    let k : ℕ = d.size + 1 in
    let head : d.weight.by ≡ w = weights 0 d refl ∙ mul-one w in
    let tail : map (value_read c) ds ≡ values_from (digit_sizes ds) (c / (w * k)) =
    values_over ds (w * k) c (λ a e is. weights (suc a) e is ∙ ap (λ n. w * n) (mul_comm (weight (digit_sizes ds) a) k) ∙ sym (mul_assoc w k (weight (digit_sizes ds) a))) in
    ap (λ n. from_part (c / n % k) ∷ map (value_read c) ds) head
    ∙ ap (λ l. from_part (c / w % k) ∷ l) (tail ∙ ap (values_from (digit_sizes ds)) (sym (div-div-eq-div-mul c w k)))

pub values_read : (ds : List Digit) (c : ℕ) → Weighed ds → map (value_read c) ds ≡ values_from (digit_sizes ds) c
values_read ds c weighed =
    values_over ds 1 c (λ a d is. weighed a d is ∙ sym (one-mul (weight (digit_sizes ds) a))) ∙ ap (values_from (digit_sizes ds)) (div-one c)

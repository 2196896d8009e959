-- The number of a move, taken apart and put together.
use Rattle.std.proofs.Common.{◌≡◌, ℕ, zero, suc, ◌+◌, ◌*◌, ◌/◌, ◌%◌, ◌<◌, ◌≤◌, ◌∷◌, map, refl, sym, ap, ◌∙◌, mul_assoc, mul_comm, add-mul, mul-le-mul, div-add-mod', arith}
use Rattle.std.proofs.Math.Nat.{mod-eq_of_lt}
use Rattle.std.proofs.lemmas.Nat.{mod_below}
use Rattle.std.specs.List.{range_with_len}
use Rattle.record.specs.Moves.{move_at}
use Rattle.record.specs.Entries.{packed, unpacked}
use Rattle.record.specs.SystemLaws.{objects_some, policy_below}
use native.Mathlib.Nat.{div-div-eq-div-mul}
use lib.Arith.{digits_lt, digits_div, digits_mod}

-- at most eight objects and 32 policies
pub square_le : (n : ℕ) → n ≤ 8 → n * n ≤ 64
square_le n h = let p : n * n ≤ 8 * 8 = mul-le-mul h h in omega arith

pub moves_le : (n k : ℕ) → n ≤ 8 → k ≤ 32 → n * n * k ≤ 2048
moves_le n k h l = let p : n * n * k ≤ 64 * 32 = mul-le-mul (square_le n h) l in omega arith

-- what is made of each of some numbers and then read back
map_back : {X Y : Type 0} (u : Y → X) (f : ℕ → Y) (g : ℕ → X) (a n : ℕ) → ((v : ℕ) → a ≤ v → v < a + n → u (f v) ≡ g v)
    → map u (map f (range_with_len a n)) ≡ map g (range_with_len a n)
map_back u f g a zero h = refl
map_back u f g a (suc n) h =
    let here : u (f a) ≡ g a = h a (omega arith) (omega arith) in
    let more = map_back u f g (a + 1) n (λ v lo hi. h v (omega arith) (omega arith)) in
    ap (λ x. x ∷ map u (map f (range_with_len (a + 1) n))) here ∙ ap (λ l. g a ∷ l) more

-- an entry of the table of moves stands for its move
pub unpacked_packed : (n k v : ℕ) → n ≤ 8 → k ≤ 32 → v < n * n * k → unpacked (packed (move_at n v)) ≡ move_at n v
unpacked_packed n k v few policies h =
    let some = objects_some n k v h in
    let byte : (x : ℕ) → x < 256 → x % 256 ≡ x = λ x l. mod-eq_of_lt l in
    let p = byte (v / (n * n)) (omega (arith, policy_below n k v h)) in
    let s = byte (v / n % n) (omega (arith, mod_below (v / n) n some)) in
    let o = byte (v % n) (omega (arith, mod_below v n some)) in
    ap (λ a. record { policy = a; subject = v / n % n % 256; object = v % n % 256 }) p
    ∙ ap (λ a. record { policy = v / (n * n); subject = a; object = v % n % 256 }) s
    ∙ ap (λ a. record { policy = v / (n * n); subject = v / n % n; object = a }) o

-- the table of moves stands for the moves
pub entries_are_moves : (n k : ℕ) → n ≤ 8 → k ≤ 32
    → map unpacked (map (λ v. packed (move_at n v)) (range_with_len 0 (n * n * k))) ≡ map (move_at n) (range_with_len 0 (n * n * k))
entries_are_moves n k few policies =
    map_back unpacked (λ v. packed (move_at n v)) (move_at n) 0 (n * n * k)
    (λ v lo hi. unpacked_packed n k v few policies (omega (arith, hi)))

pub whole : (n v : ℕ) → v ≡ v / (n * n) * (n * n) + v / n % n * n + v % n
whole n v =
    let a = div-add-mod' v n in
    let b = div-add-mod' (v / n) n in
    let q : v / n / n ≡ v / (n * n) = div-div-eq-div-mul v n n in
    let b' : (v / (n * n) * n + v / n % n) * n ≡ v / n * n = ap (λ x. (x * n + v / n % n) * n) (sym q) ∙ ap (λ x. x * n) b in
    omega (arith, a, b', add-mul (v / (n * n) * n) (v / n % n) n, mul_assoc (v / (n * n)) n n)

pub record Together (n k p s o v : ℕ) : Type 0 where
  pub policy : v / (n * n) ≡ p
  pub subject : v / n % n ≡ s
  pub object : v % n ≡ o
  pub within : v < n * n * k

pub together : (n k p s o v : ℕ) → p < k → s < n → o < n → v ≡ p * (n * n) + s * n + o → Together n k p s o v
together n k p s o v hp hs ho e =
    let w : v ≡ (p * n + s) * n + o = omega (arith, e, add-mul (p * n) s n, mul_assoc p n n) in
    let d : v / n ≡ p * n + s = ap (λ x. x / n) w ∙ digits_div (p * n + s) ho in
    let l : (p * n + s) * n + o < k * n * n = digits_lt (digits_lt hp hs) ho in
    record {
      policy = sym (div-div-eq-div-mul v n n) ∙ (ap (λ x. x / n) d ∙ digits_div p hs);
      subject = ap (λ x. x % n) d ∙ digits_mod p hs;
      object = ap (λ x. x % n) w ∙ digits_mod (p * n + s) ho;
      within = omega (arith, w, l, mul_assoc k n n, mul_comm k (n * n));
    }

-- Division by a multiplication and a shift.
use Rattle.std.proofs.Common.{◌≡◌, ℕ, ◌+◌, ◌-◌, ◌*◌, ◌/◌, ◌^◌, ◌<◌, ◌≤◌, mul-le-mul, arith}
use Rattle.std.proofs.Math.Nat.{div-eq_of_lt-le, lt_of_mul-lt-mul_right, le_of_mul-le-mul_right}

-- m is the greatest number with m * by below the power, and q is n / by
module _ (power by m n q : ℕ) (some : 0 < by) (low : m * by < power) (high : power ≤ m * by + by) (few : (n + 1) * by ≤ power) (at_least : q * by ≤ n) (below : n < q * by + by) where
  enough : q * power ≤ (n + 1) * m
  enough =
      let z : n + 1 ≤ n + 1 = omega arith in
      let product : (n + 1) * power ≤ (n + 1) * (m * by + by) = mul-le-mul z high in
      let y : power ≤ power = omega arith in
      let quotient : q * by * power ≤ n * power = mul-le-mul at_least y in
      le_of_mul-le-mul_right (omega arith) some

  not_more : (n + 1) * m < (q + 1) * power
  not_more =
      let z : n + 1 ≤ n + 1 = omega arith in
      let product : (n + 1) * (m * by + 1) ≤ (n + 1) * power = mul-le-mul z (omega arith) in
      let y : power ≤ power = omega arith in
      let quotient : (n + 1) * power ≤ (q * by + by) * power = mul-le-mul (omega arith) y in
      lt_of_mul-lt-mul_right by (omega arith)

  shifted : (n + 1) * m / power ≡ q
  shifted = div-eq_of_lt-le power enough not_more

-- the quotient of two numbers of 32 bits
pub quotient : (n by m : ℕ) → 0 < by → m ≡ (2 ^ 64 - 1) / by → by < 2 ^ 32 → n < 2 ^ 32 → (n + 1) * m / 2 ^ 64 ≡ n / by
quotient n by m some greatest by_fits n_fits =
    let k : ℕ = (2 ^ 64 - 1) / by in
    let below : k * by < 2 ^ 64 = omega arith in
    let next : 2 ^ 64 ≤ k * by + by = omega arith in
    let n_high : n + 1 ≤ 2 ^ 32 = omega arith in
    let by_high : by ≤ 2 ^ 32 = omega arith in
    let few : (n + 1) * by ≤ 2 ^ 32 * 2 ^ 32 = mul-le-mul n_high by_high in
    rw greatest (shifted (2 ^ 64) by k n (n / by) some below next few (omega arith) (omega arith))

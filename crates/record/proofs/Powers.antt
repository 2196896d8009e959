-- Powers, one factor more at a time.
use Rattle.std.proofs.Common.{◌≡◌, ℕ, ◌+◌, ◌*◌, ◌^◌, ◌<◌, ◌≤◌, sym, ap, ◌∙◌, pow-suc, add-one, arith}
use native.Mathlib.Nat.{pow-zero, pow-le-pow_right}

pub pow_more : (b i p : ℕ) → p ≡ b ^ i → p * b ≡ b ^ (i + 1)
pow_more b i p e = ap (λ n. n * b) e ∙ sym (pow-suc b i) ∙ ap (λ n. b ^ n) (sym (add-one i))

pub pow_le : (b i n : ℕ) → 0 < b → i ≤ n → b ^ i ≤ b ^ n
pow_le b i n pos h = pow-le-pow_right pos h

pub pow_pos : (b i : ℕ) → 0 < b → 0 < b ^ i
pow_pos b i pos = omega (arith, pow_le b 0 i pos (omega arith), pow-zero b)

-- How many sets up to ten things have. Assumes nothing.
use Rattle.std.proofs.Common.{◌≡◌, ℕ, ◌%◌, ◌*◌, ◌^◌, ◌≤◌, pow_mono, arith}
use lib.Pow.{shl_exact}

pub sets_of_few : (k : ℕ) → k ≤ 10 → (1 ≤ (1 * 2 ^ k) % 2 ^ 64) × ((1 * 2 ^ k) % 2 ^ 64 ≤ 1024) × (k ≤ 6 → (1 * 2 ^ k) % 2 ^ 64 ≤ 64)
sets_of_few k low =
    let q : (1 * 2 ^ k) % 2 ^ 64 ≡ 1 * 2 ^ k = shl_exact 1 k 64 (omega arith) (omega arith) in (
      omega (arith, q, pow_mono {i = 0} {j = k} (omega arith)),
      omega (arith, q, pow_mono {i = k} {j = 10} low),
      λ few. omega (arith, q, pow_mono {i = k} {j = 6} few),
    )

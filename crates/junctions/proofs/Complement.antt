-- What the complement of a set holds, and a set with one more junction on top. Assumes nothing.
use mathlib.Core.Path.{◌≡◌, ap}
use mathlib.Core.Bool.{true, not}
use Prim.Native.Nat.{ℕ, zero, suc, ◌+◌, ◌-◌, ◌/◌, ◌^◌, ◌≤◌, ◌<◌}
use native.Mathlib.Nat.{pow-suc}
use native.Mathlib.Omega.{arith}
use lib.Dec.{eqb}
use lib.Pow.{pow_pos}
use borrow.Author.Tests.{eq-eqb, ne_eqb, eqb-true, eqb-false}
use Rattle.laws.proofs.Booleans.{by_bool}
use Rattle.junctions.specs.Sets.{holds, full}
use Rattle.junctions.proofs.Bits.{bit, bit_suc, top_one, low_same}

rest_bit : (n s k : ℕ) → s < 2 ^ n → k < n → bit (2 ^ n - 1 - s) k + bit s k ≡ 1
rest_bit zero s k h l = absurd (omega arith)
rest_bit (suc n) s zero h l = omega (arith, pow-suc 2 n, pow_pos n)
rest_bit (suc n) s (suc k) h l =
    let half : (2 ^ suc n - 1 - s) / 2 ≡ 2 ^ n - 1 - s / 2 = omega (arith, pow-suc 2 n, pow_pos n) in
    let up : bit (2 ^ n - 1 - s / 2) k + bit (s / 2) k ≡ 1 = rest_bit n (s / 2) k (omega (arith, pow-suc 2 n)) (omega arith) in
    omega (arith, bit_suc (2 ^ suc n - 1 - s) k, ap (λ (m : ℕ). bit m k) half, bit_suc s k)

-- the junctions that a set leaves out
pub rest_holds : (n s j : ℕ) → s < 2 ^ n → 1 ≤ j → j ≤ n → holds (full n - s) j ≡ not (holds s j)
unfolding holds full
rest_holds n s j h l m =
    let e : bit (2 ^ n - 1 - s) (j - 1) + bit s (j - 1) ≡ 1 = rest_bit n s (j - 1) h (omega arith) in
    by_bool (eqb (bit s (j - 1)) 1)
    (λ p. rw p (ne_eqb (bit (2 ^ n - 1 - s) (j - 1)) 1 (λ q. omega (arith, eqb-true (bit s (j - 1)) 1 p))))
    (λ p. rw p (eq-eqb (bit (2 ^ n - 1 - s) (j - 1)) 1 (omega (arith, eqb-false (bit s (j - 1)) 1 p))))

-- junction n + 1 put into a set of junctions 1 to n
pub top_holds : (n s : ℕ) → s < 2 ^ n → holds (2 ^ n + s) (suc n) ≡ true
unfolding holds
top_holds n s h =
    let e : suc n - 1 ≡ n = omega arith in
    let c : 2 ^ n + s ≡ s + 2 ^ n = omega arith in
    rw (e, c) (eq-eqb (bit (s + 2 ^ n) n) 1 (top_one n s h))

pub low_holds : (n s j : ℕ) → 1 ≤ j → j ≤ n → holds (2 ^ n + s) j ≡ holds s j
unfolding holds
low_holds n s j l m = let c : 2 ^ n + s ≡ s + 2 ^ n = omega arith in rw c (ap (λ (b : ℕ). eqb b 1) (low_same n s (j - 1) (omega arith)))

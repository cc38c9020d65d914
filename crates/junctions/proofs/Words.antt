-- The machine's way to take the lowest junction out. Assumes nothing.
use mathlib.Core.Path.{◌≡◌, sym, ap, ◌∙◌}
use mathlib.Core.Bool.{Bool, not, ◌&&◌}
use Prim.Native.Nat.{ℕ, ◌+◌, ◌-◌, ◌*◌, ◌^◌, ◌≤◌, ◌<◌}
use native.Mathlib.Omega.{arith}
use lib.Dec.{eqb}
use lib.Count.{count_trailing_zeros}
use lib.Bits.{bit_xor, xor_add_and, bit_and}
use Rattle.junctions.specs.Sets.{holds}
use Rattle.junctions.proofs.Bits.{and_pow, trailing_bit, clear_lowest}
use Rattle.junctions.proofs.Sets.{less_holds, one_holds}

-- s & (s - 1) is s without its lowest junction
pub clear_holds : (s i : ℕ) → 0 < s → s < 2 ^ 64 → 1 ≤ i → holds (bit_and s (s - 1)) i ≡ (holds s i && not (eqb i (count_trailing_zeros 64 s + 1)))
clear_holds s i p h l =
    let t = count_trailing_zeros 64 s in
    let e : t + 1 - 1 ≡ t = omega arith in
    let one : bit_and s (2 ^ t) ≡ 2 ^ t = and_pow s t ∙ ap (λ (b : ℕ). b * 2 ^ t) (trailing_bit 64 s p h) ∙ omega arith in
    let inside : bit_and s (bit_and s (2 ^ t)) ≡ 2 ^ t = ap (bit_and s) one ∙ one in
    let less : bit_and s (s - 1) ≡ bit_xor s (bit_and s (2 ^ t)) =
    clear_lowest 64 s p h ∙ omega (arith, xor_add_and s (bit_and s (2 ^ t)), inside, one) in
    ap (λ (m : ℕ). holds m i) less ∙ less_holds s (2 ^ t) i
    ∙ ap (λ (b : Bool). holds s i && not b) (ap (λ (m : ℕ). holds (2 ^ m) i) (sym e) ∙ one_holds i (t + 1) l (omega arith))

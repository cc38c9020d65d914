-- A set without another, as the code writes `a & !z`. Assumes nothing.
use mathlib.Core.Path.{◌≡◌, sym, ap, ◌∙◌}
use mathlib.Core.Bool.{◌&&◌, not}
use Prim.Native.Nat.{ℕ, ◌-◌, ◌^◌, ◌<◌}
use native.Mathlib.Omega.{arith}
use lib.Bits.{bit_and, bit_xor}
use Rattle.std.specs.Int.Bits.{xor_add_and, and_self, and_comm}
use Rattle.std.proofs.lemmas.Nat.{and-not, and_assoc}
use Rattle.junctions.specs.Sets.{holds}
use Rattle.junctions.proofs.Sets.{less_holds}

pub without_is : (a z : ℕ) → a < 2 ^ 64 → z < 2 ^ 64 → bit_and a (18446744073709551615 - z) ≡ bit_xor a (bit_and a z)
without_is a z small fits =
    let twice : bit_and a (bit_and a z) ≡ bit_and a z = sym (and_assoc z a a) ∙ ap (λ (w : ℕ). bit_and w z) (and_self a) in
    omega (arith, and-not 64 z a fits small, and_comm (18446744073709551615 - z) a, and_comm z a, xor_add_and a (bit_and a z), twice)

pub without : (a z : ℕ) → a < 2 ^ 64 → z < 2 ^ 64 → (u : ℕ) → holds (bit_and a (18446744073709551615 - z)) u ≡ (holds a u && not (holds z u))
without a z small fits u = ap (λ (w : ℕ). holds w u) (without_is a z small fits) ∙ less_holds a z u

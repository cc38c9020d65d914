-- A number under 2 to the 31st has its negative in 32 bits. Assumes nothing.
use mathlib.Core.Path.{◌≡◌, sym, ap, ◌∙◌, subst}
use Prim.Native.Nat.{ℕ, zero, suc, ◌-◌, ◌^◌, ◌≤◌, ◌<◌}
use native.Mathlib.Omega.{arith}
use lib.IntN.{pos, negsuc, ◌-ℤ◌, +ℤ_idl}
use mir.Syntax.{w32}
use mir.Val.{SFits, to_z, of_z}
use mir.ValLaws.{to_z_pos, to_z-of_z}

pub negative_fits : (d : ℕ) → d < 2 ^ 31 → SFits w32 (pos 0 -ℤ pos d)
negative_fits zero h = record { sfits = omega arith }
negative_fits (suc d) h = subst (SFits w32) (sym (+ℤ_idl (negsuc d))) (record { sfits = omega arith })

negative_is : (d : ℕ) → 1 ≤ d → pos 0 -ℤ pos d ≡ negsuc (d - 1)
negative_is d l = let e : d ≡ suc (d - 1) = omega arith in ap (λ (k : ℕ). pos 0 -ℤ pos k) e ∙ +ℤ_idl (negsuc (d - 1))

-- the machine's negative
pub below_zero_is : (d : ℕ) → 1 ≤ d → d < 2 ^ 31 → to_z w32 (of_z w32 (pos 0 -ℤ to_z w32 d)) ≡ negsuc (d - 1)
below_zero_is d l h = rw (to_z_pos w32 d h) (to_z-of_z w32 (pos 0 -ℤ pos d) (negative_fits d h) ∙ negative_is d l)

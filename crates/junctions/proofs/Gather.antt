-- Tests that agree on junctions 1 to n gather the same set. Assumes nothing.
use mathlib.Core.Path.{◌≡◌, refl, ap₂}
use mathlib.Core.Bool.{Bool, cond}
use Prim.Native.Nat.{ℕ, zero, suc, ◌+◌, ◌^◌, ◌≤◌}
use native.Mathlib.Omega.{arith}
use Rattle.junctions.specs.Sets.{gather}

pub gather_ext : (n : ℕ) (p q : ℕ → Bool) → ((j : ℕ) → 1 ≤ j → j ≤ n → p j ≡ q j) → gather n p ≡ gather n q
unfolding gather
gather_ext zero p q h = refl
gather_ext (suc n) p q h =
    ap₂ (λ (s : ℕ) (b : Bool). s + cond b (2 ^ n) 0) (gather_ext n p q (λ j l m. h j l (omega arith))) (h (suc n) (omega arith) (omega arith))

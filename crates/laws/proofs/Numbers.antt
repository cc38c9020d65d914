-- Three cases for two numbers. Assumes nothing.
use mathlib.Core.Path.{◌≡◌}
use mathlib.Core.Logic.{◌⊎◌, inl, inr}
use Prim.Native.Nat.{ℕ, ◌<◌}
use native.Mathlib.Omega.{arith}
use lib.Dec.{ltb, eqb}
use borrow.Author.Tests.{ltb-true, ltb-false, eqb-true, eqb-false}
use Rattle.laws.proofs.Booleans.{by_bool}

pub compare-numbers : (x y : ℕ) → (x ≡ y) ⊎ ((x < y) ⊎ (y < x))
compare-numbers x y =
    by_bool (ltb x y) (λ l. inr (inl (ltb-true x y l)))
    (λ l. by_bool (eqb x y) (λ e. inl (eqb-true x y e)) (λ e. let ne = eqb-false x y e in inr (inr (omega (arith, ltb-false x y l)))))

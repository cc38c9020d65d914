-- When a conjunction or a disjunction fails, and what tests count for. Assumes nothing.
use mathlib.Core.Path.{◌≡◌, refl}
use mathlib.Core.Bool.{Bool, true, false, ◌&&◌, ◌||◌}
use Prim.Native.Nat.{◌+◌, ◌≤◌}
use native.Mathlib.Omega.{arith}
use Rattle.laws.specs.Finite.{one_if}
use Rattle.laws.proofs.Booleans.{clash}

pub one_true : (b : Bool) → b ≡ true → one_if b ≡ 1
unfolding one_if
one_true b e = rw e

pub one_false : (b : Bool) → b ≡ false → one_if b ≡ 0
unfolding one_if
one_false b e = rw e

pub one_le : (b : Bool) → one_if b ≤ 1
unfolding one_if
one_le true = omega arith
one_le false = omega arith

-- two tests count as much as both together and either
pub one_modular : (a b : Bool) → one_if a + one_if b ≡ one_if (a && b) + one_if (a || b)
unfolding one_if
one_modular true true = refl
one_modular true false = refl
one_modular false true = refl
one_modular false false = refl

pub and_false_l : (a b : Bool) → a ≡ false → (a && b) ≡ false
and_false_l true b e = clash refl e
and_false_l false b e = refl

pub and_false_r : (a b : Bool) → b ≡ false → (a && b) ≡ false
and_false_r true b e = e
and_false_r false b e = refl

pub or_false_i : (a b : Bool) → a ≡ false → b ≡ false → (a || b) ≡ false
or_false_i true b e f = e
or_false_i false b e f = f

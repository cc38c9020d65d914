-- Full is the set of junctions 1 to n. Assumes nothing.
use mathlib.Core.Path.{ap}
use Prim.Native.Nat.{ℕ, ◌-◌}
use native.Mathlib.Omega.{arith}
use lib.Pow.{pow_pos}
use Rattle.junctions.specs.Sets.{full}
use Rattle.junctions.proofs.Bits.{one_shl}
use Rattle.junctions.proofs.Junctions.full.Goals as goal

pub overflow_sub-result : goal.overflow_sub-result
overflow_sub-result c = omega (arith, one_shl c.args.n (omega (arith, c.if-n-eq64.false)), pow_pos c.args.n)

pub returns-then-n-eq64 : goal.returns-then-n-eq64
unfolding full
returns-then-n-eq64 c = rw c.if-n-eq64.true

pub returns-else-n-eq64 : goal.returns-else-n-eq64
unfolding full
returns-else-n-eq64 c = ap (λ (m : ℕ). m - 1) (one_shl c.args.n (omega (arith, c.if-n-eq64.false)))

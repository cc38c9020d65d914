-- `ledger::costs::costs`: the goals that its invariant leaves. Assumes nothing.
use mathlib.Core.Bool.{Bool, true, false}
use Prim.Native.Nat.{ℕ, ◌+◌, ◌*◌, ◌^◌, ◌≤◌, ◌<◌}
use native.Mathlib.Omega.{arith}
use Rattle.std.proofs.Math.Nat.{mul-le-mul_left}
use Rattle.order.specs.Ranked.{charge_of}
use Rattle.ledger.specs.Padded.{charged}
use Rattle.ledger.proofs.Padded.{padded_none, padded_low}
use Rattle.ledger.proofs.costs.costs.Goals as goal
use Rattle.ledger.proofs.costs.costs.Goals.{After-charge}

-- a charge of a price that fits four bytes does too
charge_fits : (fixed : Bool) (price : ℕ) → price < 2 ^ 32 → charge_of fixed price < 2 ^ 32
unfolding charge_of
charge_fits true price h = omega arith
charge_fits false price h = h

-- a row's cost is small
small : (by extra charge : ℕ) → by ≤ 257 → extra ≤ 1 → charge < 2 ^ 32 → by * charge + extra < 2 ^ 62
small by extra charge b e c = let most : by * charge ≤ by * 2 ^ 32 = mul-le-mul_left by (omega arith) in omega (arith, most)

charge_small : (c : After-charge) → c.args.by * c.charge.result + c.args.extra < 2 ^ 62
charge_small c = small c.args.by c.args.extra c.charge.result c.requires.1 c.requires.2 (rw c.charge.ensures (charge_fits _ _ (omega arith)))

pub loop-k-init : goal.loop-k-init
loop-k-init c = padded_none 256 (λ (i : ℕ). c.args.by * charged c.args.prices.now c.args.fixed.now i + c.args.extra)

pub overflow_mul-rows : goal.overflow_mul-rows
overflow_mul-rows c = omega (arith, charge_small c)

pub overflow_add-rows : goal.overflow_add-rows
overflow_add-rows c = omega (arith, charge_small c)

pub invariant_of-result : goal.invariant_of-result
invariant_of-result c =
    record {
      low = padded_low 256 (λ (i : ℕ). c.args.by * charged c.args.prices.now c.args.fixed.now i + c.args.extra) c.loop-k.k c.loop-k.rows (2 ^ 62) c.loop-k.invariant
          (λ i l. small c.args.by c.args.extra _ c.requires.1 c.requires.2 (charge_fits _ _ (c.fits-prices i))) (omega arith);
    }

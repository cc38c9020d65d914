-- The goal that `tryroutes::walks::Asked::first` leaves open: one step more has at most 32 times as many sequences. Assumes nothing.
use Rattle.std.proofs.Common.{◌≡◌, ℕ, ◌+◌, ◌*◌, ◌^◌, ◌≤◌, mul-le-mul_left, arith, pow-add}
use Rattle.tryroutes.proofs.walks.Asked.first.Goals as goal

grown : (sequences steps length : ℕ) → sequences ≤ 2 ^ (5 * length) → steps ≤ 20 → sequences * steps ≤ 2 ^ (5 * (length + 1))
grown sequences steps length few h =
    let five : 5 * (length + 1) ≡ 5 * length + 5 = omega arith in
    rw five (rw (pow-add 2 (5 * length) 5) (omega (arith, few, mul-le-mul_left sequences h)))

pub loop-length-preserved : goal.loop-length-preserved
loop-length-preserved c = grown _ _ c.loop-length.length-counter c.loop-length.invariant c.base-base.ensures.1

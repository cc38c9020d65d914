-- The goals that `choice::flags` leaves open, by the lemmas of Ascent. Assumes nothing.
use Prim.Native.Nat.{◌≤◌}
use native.Mathlib.Omega.{arith}
use lib.ListN.{get_or}
use Rattle.choice.proofs.Ascent.{flagged_none, flagged_more, ascends_at}
use Rattle.choice.proofs.flags.Goals as goal
use Rattle.choice.proofs.flags.Goals.{In-loop-number}

-- the number at hand is one of 1 to 256
in_range : (c : In-loop-number) → let number = get_or c.args.numbers.now c.loop-number.number-index 0 in (1 ≤ number) × (number ≤ 256)
in_range c = ascends_at 1 256 c.args.numbers.now c.loop-number.number-index c.requires c.loop-number-test.true

pub loop-number-init : goal.loop-number-init
loop-number-init c = flagged_none c.args.numbers.now

pub overflow_sub-chosen : goal.overflow_sub-chosen
overflow_sub-chosen c = (in_range (goal.at.overflow_sub-chosen c).In-loop-number).0

pub bounds-chosen-number : goal.bounds-chosen-number
bounds-chosen-number c = let r = in_range (goal.at.bounds-chosen-number c).In-loop-number in omega (arith, r.0, r.1)

pub loop-number-preserved : goal.loop-number-preserved
loop-number-preserved c = let r = in_range (goal.at.loop-number-preserved c).In-loop-number in
    flagged_more c.args.numbers.now c.loop-number.number-index _ c.loop-number.chosen c.loop-number-test.true (omega (arith, r.0, r.1)) (omega (arith, r.0)) c.loop-number.invariant

-- The goals that `screening::screen` leaves open: each row that is read stands in the hall, and the prices so far tell what is promised. Assumes nothing.
use Prim.Native.Nat.{◌≤◌}
use native.Mathlib.Omega.{arith}
use lib.ListN.{get_or}
use Rattle.hall.specs.Plan.{total}
use Rattle.choice.proofs.Ascent.{ascends_at}
use Rattle.screening.proofs.Figure.{chosen_price, front_next, screens_over, screens_within}
use Rattle.screening.proofs.screen.Goals as goal
use Rattle.screening.proofs.screen.Goals.{In-loop-k}

-- the row at hand is one of 1 to 256
in_range : (c : In-loop-k) → let row = get_or c.args.choice.now c.loop-k.k 0 in (1 ≤ row) × (row ≤ 256)
in_range c = ascends_at 1 256 c.args.choice.now c.loop-k.k c.requires c.loop-k-test.true

pub loop-k-init : goal.loop-k-init
unfolding total
loop-k-init c h is chosen = omega arith

pub overflow_sub-price : goal.overflow_sub-price
overflow_sub-price c = (in_range (goal.at.overflow_sub-price c).In-loop-k).0

pub bounds-hall-row : goal.bounds-hall-row
bounds-hall-row c = let r = in_range (goal.at.bounds-hall-row c).In-loop-k in omega (arith, r.0, r.1)

pub returns-then-left-price : goal.returns-then-left-price
returns-then-left-price c h is chosen = let choice = c.args.choice.now in let k = c.loop-k.k in
    screens_over h c.args.figure choice k c.loop-k.left (c.loop-k.invariant h is chosen) c.loop-k-test.true
    (omega (arith, c.if-left-price.true, chosen_price h c.args.hall.now is choice chosen k c.loop-k-test.true))

pub loop-k-preserved : goal.loop-k-preserved
loop-k-preserved c h is chosen = let choice = c.args.choice.now in let k = c.loop-k.k in
    omega (arith, c.loop-k.invariant h is chosen, c.if-left-price.false, chosen_price h c.args.hall.now is choice chosen k c.loop-k-test.true, front_next h k choice c.loop-k-test.true)

pub returns : goal.returns
returns c h is chosen = screens_within h c.args.figure c.args.choice.now c.loop-k.k c.loop-k.left (c.loop-k.invariant h is chosen) c.loop-k-test.false

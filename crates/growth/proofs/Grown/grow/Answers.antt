-- The goals that `growth::Grown::grow` leaves open, by the lemmas and the invariant of its loop. Assumes nothing.
use mathlib.Core.Path.{◌≡◌}
use Prim.Native.Nat.{ℕ, ◌^◌, ◌<◌}
use native.Mathlib.Omega.{arith}
use lib.Bits.{bit_or}
use lib.ListN.{get_or}
use Rattle.junctions.specs.Sets.{Within}
use Rattle.growth.proofs.Sure.{sure_of, sure_fits, growing_step, within_more, more_within}
use Rattle.growth.proofs.Expanding.{pending_less, pending_within}
use Rattle.growth.proofs.Grown.grow.Goals as goal
use Rattle.growth.proofs.Grown.grow.Goals.{In-Some}

-- what a turn finds
abbrev sure : (c : In-Some) → ℕ
sure c = let a = c.args in let x = c.in-Some.x in
    sure_of (get_or a.arcs.now x 0) (get_or a.solid.now x 0) c.loop-x.once (get_or a.known.now x 0)

fits : (c : In-Some) → (c.loop-x.set < 2 ^ 64) × (sure c < 2 ^ 64)
fits c = let a = c.args in let x = c.in-Some.x in (
  omega arith,
  sure_fits (get_or a.arcs.now x 0) (get_or a.solid.now x 0) c.loop-x.once (get_or a.known.now x 0) (c.fits-arcs x) (c.fits-known x),
)

pub loop-x-init : goal.loop-x-init
unfolding Within
loop-x-init c = let all : c.of-todo.result.left ≡ c.args.more = cc in
    rw all (more_within c.args.self.set c.args.more, λ j l t. t, λ v known g. g)

pub loop-x-smaller : goal.loop-x-smaller
loop-x-smaller c = let l = c.loop-x in let turn = (goal.at.loop-x-smaller c).In-Some in let small = fits turn in
    rw c.add.ensures (pending_less l.set l.todo.left (sure turn) _ _ small.0 small.1 c.in-Some.ensures.steps l.invariant.0)

pub loop-x-preserved : goal.loop-x-preserved
loop-x-preserved c = let l = c.loop-x in let a = c.args in let taken = c.in-Some.ensures.steps in
    let turn = (goal.at.loop-x-preserved c).In-Some in let found = sure turn in let small = fits turn in
    rw c.add.ensures (
      pending_within l.set l.todo.left found _ _ small.0 small.1 taken l.invariant.0,
      within_more (bit_or a.self.set a.more) l.set found l.invariant.1,
      λ v known g. growing_step a.arcs.now a.solid.now a.known.now v l.set l.todo.left l.once _ _ small.0 small.1 taken known (l.invariant.2 v known g),
    )

pub returns : goal.returns
returns c = let l = c.loop-x in let done : l.todo.left ≡ 0 = c.in_default.ensures.steps.0 in (l.invariant.1, λ v known g. rw done at (l.invariant.2 v known g))

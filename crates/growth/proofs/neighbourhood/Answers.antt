-- The goals that `growth::neighbourhood` leaves open, by the lemmas and the invariant of its loop. Assumes nothing.
use mathlib.Core.Path.{◌≡◌}
use Prim.Native.Nat.{◌-◌}
use native.Mathlib.Omega.{arith}
use lib.Bits.{bit_and, or_zero_r}
use lib.Pow.{pow_pos}
use Rattle.laws.specs.Lists.{at}
use Rattle.junctions.proofs.Bits.{one_shl}
use Rattle.junctions.proofs.Sets.{none_holds}
use Rattle.junctions.proofs.Without.{without_is}
use Rattle.growth.proofs.Meetings.{less, less_r}
use Rattle.growth.proofs.Meets.{growing_start, growing_meeting, grown_all, set_more}
use Rattle.growth.proofs.neighbourhood.Goals as goal
use Rattle.growth.proofs.neighbourhood.Goals.{After-grow-grown}

pub loop-met-init : goal.loop-met-init
loop-met-init c = let a = c.args in
    rw (one_shl (a.v - 1) (omega arith)) (
      omega arith,
      λ y l t. none_holds y,
      λ known. growing_start (at a.arcs.now) (at a.solid.now) a.v c.requires.0,
      λ e. absurd (omega (arith, pow_pos (a.v - 1))),
    )

-- the heads are what arcs from the set lead to outside it
heads : (c : After-grow-grown) → let g = c.grow-grown.result in bit_and g.once (18446744073709551615 - g.set) ≡ less g.once g.set
heads c = let g = c.grow-grown in without_is g.result.once g.result.set (omega (arith, g.type_inv)) (omega (arith, g.type_inv))

pub meeting-met-requires : goal.meeting-met-requires
meeting-met-requires c = let g = c.grow-grown.result in
    rw (heads (goal.at.meeting-met-requires c).After-grow-grown) (λ y l t. less_r g.once g.set y t)

pub loop-met-smaller : goal.loop-met-smaller
loop-met-smaller c = let l = c.loop-met in let g = c.grow-grown in
    omega (arith, set_more l.grown.set l.met g.result.set (omega arith) l.invariant.1 g.ensures.0, g.type_inv)

pub loop-met-preserved : goal.loop-met-preserved
loop-met-preserved c = let l = c.loop-met in let a = c.args in let g = c.grow-grown in
    let meets = rw (heads (goal.at.loop-met-preserved c).After-grow-grown) at c.meeting-met.ensures in (
      omega (arith, g.type_inv),
      λ y k t. (meets.met y k t).0,
      λ known.
          growing_meeting (at a.arcs.now) (at a.solid.now) a.v g.result.set g.result.once
          (g.ensures.1 a.v known (l.invariant.2 known)) c.meeting-met.result meets,
      meets.none,
    )

pub returns : goal.returns
returns c = let l = c.loop-met in let a = c.args in let p = c.requires in
    let done : l.met ≡ 0 = c.loop-met-test.false in
    let last = l.invariant.3 done in
    λ known.
    grown_all (at a.arcs.now) (at a.solid.now) a.v l.grown.set l.grown.once
    (rw (done, or_zero_r l.grown.set) at (l.invariant.2 known)) p.0 p.1 l.invariant.0 last.0 last.1

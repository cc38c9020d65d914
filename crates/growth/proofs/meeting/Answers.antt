-- The goals that `growth::meeting` leaves open, by the lemmas and the invariant of its loop. Assumes nothing.
use mathlib.Core.Path.{◌≡◌}
use Prim.Native.Nat.{suc}
use native.Mathlib.Numerals.{add-one}
use native.Mathlib.Omega.{arith}
use Rattle.laws.specs.Lists.{at}
use Rattle.junctions.proofs.Taking.{taken_in, taken_left}
use Rattle.growth.proofs.Searches.{HeldBeside, searched_beside}
use Rattle.growth.proofs.Meetings.{keeping_start, head_free, keeping_met, keeping_step, keeping_end}
use Rattle.growth.proofs.meeting.Goals as goal
use Rattle.growth.proofs.meeting.Goals.{After-reach_until-held}

-- a turn's search is one beside the set
beside : (c : After-reach_until-held) → let l = c.loop-place in let a = c.args in
    HeldBeside (at a.arcs.now) a.set l.other (suc c.in-Some.place) c.reach_until-held.result.set
beside c = let l = c.loop-place in let a = c.args in let h = suc c.in-Some.place in let taken = c.in-Some.ensures.steps in
    searched_beside (at a.arcs.now) a.set l.other h c.reach_until-held.result.set _ _ (omega arith) (omega arith)
    (head_free (at a.arcs.now) a.set a.heads l.other l.place-iterator.left h (omega arith) (taken_in taken) c.requires l.invariant)
    (omega (arith, c.reach_until-held.type_inv)) (rw (add-one c.in-Some.place) at c.reach_until-held.ensures)

pub loop-place-init : goal.loop-place-init
loop-place-init c = let a = c.args in
    let all : c.into_iter-place-iterator.result.left ≡ a.heads = cc in
    rw all (keeping_start (at a.arcs.now) a.set a.heads)

pub returns-then-met-ne0 : goal.returns-then-met-ne0
returns-then-met-ne0 c = let l = c.loop-place in let a = c.args in
    keeping_met (at a.arcs.now) a.set a.heads l.other l.place-iterator.left (suc c.in-Some.place) c.reach_until-held.result.set
    (omega arith) (taken_in c.in-Some.ensures.steps) l.invariant (beside (goal.at.returns-then-met-ne0 c).After-reach_until-held) c.if-met-ne0.true

pub loop-place-preserved : goal.loop-place-preserved
loop-place-preserved c = let l = c.loop-place in let a = c.args in let taken = c.in-Some.ensures.steps in
    keeping_step (at a.arcs.now) a.set a.heads l.other l.place-iterator.left (suc c.in-Some.place) c.reach_until-held.result.set
    (omega arith) (taken_in taken) l.invariant (beside (goal.at.loop-place-preserved c).After-reach_until-held) _ c.if-met-ne0.false
    (taken_left taken)

pub returns : goal.returns
returns c = let l = c.loop-place in let a = c.args in
    keeping_end (at a.arcs.now) a.set a.heads l.other _ c.in-None.ensures.steps.0 l.invariant

-- Each turn narrows the room by the neighbourhood of one junction more; once none is left it is the most that all of them allow. Assumes nothing.
use Rattle.junctions.proofs.Without.{without}
use Rattle.raise.specs.Rooms.{NearAllow}
use Rattle.raise.proofs.Rooms.{beyond, beyond_down, beyond_narrow, members_room_more, members_room_none}
use Rattle.raise.proofs.near_room.Goals as goal

pub loop-j-preserved : goal.loop-j-preserved
loop-j-preserved c = let a = c.args in let l = c.loop-j in
    λ r most.
    l.invariant r
    (members_room_more (beyond a.around.now a.potential.now a.set) c.in-Some.ensures.steps (beyond_down a.around.now a.potential.now a.set) l.room c.set_room-room.result
    (beyond_narrow a.around.now a.potential.now a.set c.in-Some.j l.room c.set_room-room.result _ (without _ a.set (c.fits-around c.in-Some.j) c.ranges.set.fits) c.set_room-room.ensures) r most)

pub returns : goal.returns
unfolding NearAllow
returns c = c.loop-j.invariant c.loop-j.room (members_room_none (beyond c.args.around.now c.args.potential.now c.args.set) c.loop-j.j-iterator.left c.loop-j.room c.in-None.ensures.steps.0)

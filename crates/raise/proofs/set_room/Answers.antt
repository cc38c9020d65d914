-- Each turn narrows the room by one junction more; once none is left it is the most that all of them allow. Assumes nothing.
use Rattle.std.proofs.Common.{◌∙◌, ap}
use Prim.Native.Nat.{min}
use Rattle.raise.specs.Rooms.{OverSet}
use Rattle.raise.proofs.Rooms.{over, over_down, over_narrow, members_room_more, members_room_none}
use Rattle.raise.proofs.set_room.Goals as goal

pub loop-j-preserved : goal.loop-j-preserved
loop-j-preserved c = let a = c.args in let l = c.loop-j in
    λ r most.
    l.invariant r
    (members_room_more (over a.potential.now a.low) c.in-Some.ensures.steps (over_down a.potential.now a.low) l.room c.min-room.result
    (over_narrow a.potential.now a.low c.in-Some.j l.room c.min-room.result (c.min-room.ensures ∙ ap (min l.room) c.saturating_sub.ensures)) r most)

pub returns : goal.returns
unfolding OverSet
returns c = c.loop-j.invariant c.loop-j.room (members_room_none (over c.args.potential.now c.args.low) c.loop-j.j-iterator.left c.loop-j.room c.in-None.ensures.steps.0)

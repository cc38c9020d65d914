-- Raise_for raises by the room up to the row's gap. Assumes nothing.
use Rattle.std.proofs.Common.{◌≡◌, suc, [], ◌∙◌}
use Rattle.laws.specs.Lists.{at}
use Rattle.potentials.specs.Potential.{gap}
use Rattle.zerograph.proofs.Rows.{gap_here}
use Rattle.raise.proofs.raise_for.Goals as goal

pub returns : goal.returns
returns c = let room = c.raise_room-room in let lane = c.lane in let net = c.args.network.now in
    λ h n F cols near.
    let gap_is : c.gap-gap.result ≡ gap h (at net.costs.now.rows) (at net.potential.now) (suc c.args.row) =
    c.gap-gap.ensures ∙ gap_here h _ _ _ _ _ net.movable.now [] _ cols c.args.row lane.result.tail lane.result.head c.requires lane.ensures.tail lane.ensures.head in
    (room.result, rw gap_is at (room.ensures.room h n F cols near), c.raise.ensures)

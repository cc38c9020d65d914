-- Raise_room has the room that rows and neighbourhoods leave. Assumes nothing.
use Rattle.raise.proofs.Raising.{room_all}
use Rattle.raise.proofs.raise_room.Goals as goal

pub returns-clause-room : goal.returns-clause-room
returns-clause-room c = let rows = c.row_room-room in let near = c.near_room in
    λ h n F cols around. room_all h _ _ _ F c.args.around.now _ c.args.set c.args.start rows.result near.result cols.rows around (rows.ensures.most h n cols) near.ensures

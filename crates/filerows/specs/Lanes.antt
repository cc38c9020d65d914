-- The row that a lane is. Assumes nothing: this is a definition.
use Rattle.std.specs.Prelude.{is_none}
use Rattle.std.specs.Option.{unwrap_or}
use Rattle.hall.specs.Hall.{Row}
use Rattle.filerows.specs.declared.places.Lane.{Lane}

-- the row that a lane is: one with no price is fixed
unfoldable pub lane_row : Lane → Row
lane_row l = record { from = l.from; to = l.to; price = unwrap_or l.price 0; fixed = is_none l.price }

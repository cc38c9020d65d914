-- `smallhalls::drawing::Size::hall`: there are as many rows as were drawn. Assumes nothing.
use Rattle.std.proofs.Common.{◌≡◌}
use Rattle.smallhalls.proofs.drawing.Size.hall.Given as goal

abbrev pub invariant-loop : goal.invariant-loop
invariant-loop l = l.rows.count ≡ l.counter

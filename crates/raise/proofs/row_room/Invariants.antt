-- Row_room takes one row a turn. The invariant: the room is the most, up to the start, that the first k rows allow. Assumes nothing.
use Prim.Native.Nat.{ℕ, ◌≤◌}
use Rattle.laws.specs.Lists.{at}
use Rattle.hall.specs.Hall.{Hall}
use Rattle.columns.specs.Columns.{flagged}
use Rattle.columns.specs.Lanes.{RowsOf}
use Rattle.raise.specs.Rooms.{Most, RowsAllow}
use Rattle.raise.proofs.row_room.Given as goal

abbrev pub invariant-loop-k : goal.invariant-loop-k
invariant-loop-k l = record {
  low : l.room ≤ l.start;
  most : (h : Hall) (n : ℕ) → RowsOf h n l.network.lanes.now →
      Most (λ e. (e ≤ l.start) × RowsAllow h (flagged l.network.movable.now) (at l.network.costs.now.rows) (at l.network.potential.now) l.set l.k e) l.room;
}

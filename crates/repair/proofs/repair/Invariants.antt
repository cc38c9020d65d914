-- Repair makes one step a turn. The invariant: P1 and P3 hold, the neighbourhoods are those of the choice, no level has grown by more than the slack has fallen, and there are 64 levels. The measure is the slack. Assumes nothing.
use Rattle.std.proofs.Common.{◌≡◌, length}
use Rattle.laws.specs.Lists.{at}
use Rattle.hall.specs.Hall.{Hall}
use Rattle.dicuts.specs.Shores.{Ranged}
use Rattle.columns.specs.Columns.{flagged, Neighbourhoods}
use Rattle.columns.specs.Lanes.{LanesOf}
use Rattle.potentials.specs.Repair.{Repairable}
use Rattle.repair.proofs.Repairing.{Kept, lanes_slack}
use Rattle.repair.proofs.repair.Given as goal

abbrev pub invariant-loop-state : goal.invariant-loop-state
invariant-loop-state l = (length l.state.potential ≡ 64) × ((h : Hall) → LanesOf h l.lanes → Ranged h →
    Repairable h (at l.costs.rows) (at l.fn.state.potential) (flagged l.fn.state.chosen) → Neighbourhoods h (flagged l.fn.state.chosen) l.fn.state.around →
    Kept h (at l.costs.rows) l.fn.state l.state)

abbrev pub decreases-loop-state : goal.decreases-loop-state
decreases-loop-state l = lanes_slack l.lanes (at l.costs.rows) (at l.state.potential) (flagged l.state.chosen)

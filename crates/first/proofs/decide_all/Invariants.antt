-- `first::decide_all` decides one row a turn. The invariant: the first k rows are decided and no longer movable, and no level has grown by more than k. Assumes nothing.
use Rattle.std.proofs.Common.{◌≡◌, ℕ, ◌+◌, ◌≤◌, length, get_or}
use Rattle.laws.specs.Lists.{at}
use Rattle.hall.specs.Hall.{Hall}
use Rattle.dicuts.specs.Shores.{Ranged}
use Rattle.potentials.specs.Repair.{Repaired}
use Rattle.order.specs.Ranked.{ranked}
use Rattle.columns.specs.Columns.{flagged, Neighbourhoods}
use Rattle.columns.specs.Lanes.{LanesOf}
use Rattle.first.specs.Standing.{Movable, Standing}
use Rattle.first.proofs.decide_all.Given as goal

abbrev pub invariant-loop-k : goal.invariant-loop-k
invariant-loop-k l = (length l.movable ≡ 256) × Movable l.k l.movable
    × ((j : ℕ) → get_or l.state.potential j 0 ≤ get_or l.fn.state.potential j 0 + l.k)
    × ((h : Hall) → LanesOf h l.lanes → Ranged h → ((i : ℕ) → 1 ≤ i → i ≤ l.lanes.count → at l.costs.rows i ≡ ranked h i)
    → Repaired h (ranked h) (at l.fn.state.potential) (flagged l.fn.state.chosen) → Neighbourhoods h (flagged l.fn.state.chosen) l.fn.state.around
    → Standing h l.costs.rows l.k l.state.potential l.state.chosen l.state.around)

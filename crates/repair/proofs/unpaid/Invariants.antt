-- Unpaid asks one row a turn. The invariant: none from the given place on before place k is chosen and has a gap. Assumes nothing.
use Rattle.std.proofs.Common.{◌≡◌, false, suc, ℕ, ◌≤◌, ◌<◌}
use Rattle.laws.specs.Lists.{at}
use Rattle.hall.specs.Hall.{Hall}
use Rattle.columns.specs.Columns.{flagged}
use Rattle.columns.specs.Lanes.{RowsOf}
use Rattle.repair.specs.Repairs.{unpaid}
use Rattle.repair.proofs.unpaid.Given as goal

abbrev pub invariant-loop-k : goal.invariant-loop-k
invariant-loop-k l = (h : Hall) (n : ℕ) → RowsOf h n l.network.lanes.now → (i : ℕ) → i < l.k → l.from ≤ i → unpaid h (at l.network.costs.now.rows) (at l.network.potential.now) (flagged l.chosen) (suc i) ≡ false

-- `pruning::backed` asks one row a turn. The invariant: if one is found, the rows make the arc. Assumes nothing.
use Rattle.std.proofs.Common.{◌≡◌, true, suc}
use Rattle.hall.specs.Hall.{Hall}
use Rattle.columns.specs.Columns.{flagged}
use Rattle.columns.specs.Lanes.{LanesOf}
use Rattle.pruning.specs.Backed.{Backed}
use Rattle.pruning.proofs.backed.Given as goal

abbrev pub invariant-loop-i : goal.invariant-loop-i
invariant-loop-i l = (h : Hall) → LanesOf h l.lanes → l.found ≡ true → Backed h (flagged l.rows) (suc l.k)

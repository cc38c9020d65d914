-- What planning starts from, and what its first stage leaves. Assumes nothing: these are definitions.
use Rattle.std.specs.Prelude.{◌≡◌, Bool, List, ℕ, ◌^◌, ◌≤◌, ◌<◌, get_or}
use Rattle.laws.specs.Lists.{at}
use Rattle.hall.specs.Hall.{Hall, row, count}
use Rattle.dicuts.specs.Shores.{Ranged, Linked, once, Joining}
use Rattle.potentials.specs.Potential.{cost}
use Rattle.potentials.specs.Repair.{Repaired}
use Rattle.order.specs.Ranked.{charge, Plannable}
use Rattle.columns.specs.Columns.{flagged, Marks, Neighbourhoods}
use Rattle.columns.specs.Lanes.{LanesOf}
use Rattle.columns.specs.declared.Lanes.{Lanes}
use Rattle.hallfile.specs.declared.record.HallRecord.{HallRecord}
use Rattle.repair.specs.declared.State.{State}

-- every cost is below 2 to the power 53: those of 256 rows together are below 2 to the power 61
abbrev pub Modest : (costs : List ℕ) → Type 0
Modest costs = (k : ℕ) → get_or costs k 0 < 2 ^ 53

-- the lanes are those of a hall that the rows join
pub record Ready (h : Hall) (lanes : Lanes) (rows : List Bool) : Type 0 where
  pub columns : LanesOf h lanes
  pub ranged : Ranged h
  pub joining : Joining h (once (flagged rows))

-- A CHOICE OF LEAST COST with its neighbourhoods: P1, P2 and P3 hold, and no level is over what the rows at the start cost
pub record Cheapest (h : Hall) (costs : List ℕ) (rows : List Bool) (s : State) : Type 0 where
  pub repaired : Repaired h (at costs) (at s.potential) (flagged s.chosen)
  pub around : Neighbourhoods h (flagged s.chosen) s.around
  pub low : (j : ℕ) → 1 ≤ j → j ≤ 64 → at s.potential j ≤ cost h (at costs) (flagged rows)

-- the record holds an accepted hall, its prices and its marks
pub record Accepted (h : Hall) (x : HallRecord) : Type 0 where
  pub columns : LanesOf h x.lanes
  pub ranged : Ranged h
  pub linked : Linked h
  pub able : Plannable h
  pub price : (i : ℕ) → 1 ≤ i → i ≤ count h → at x.prices i ≡ (row h i).price
  pub marks : Marks h x.fixed

-- A CHOICE OF LEAST TOTAL with its neighbourhoods: P1, P2 and P3 hold for the charges, and no level is over the largest total
pub record Least (h : Hall) (s : State) : Type 0 where
  pub repaired : Repaired h (charge h) (at s.potential) (flagged s.chosen)
  pub around : Neighbourhoods h (flagged s.chosen) s.around
  pub low : (j : ℕ) → 1 ≤ j → j ≤ 64 → at s.potential j ≤ 256000000

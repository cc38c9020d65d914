-- What a change of one row's cost starts from, over the lanes of a hall. Assumes nothing: this is a definition.
use Rattle.std.specs.Prelude.{List, ℕ, ◌+◌, ◌^◌, ◌≤◌, ◌<◌}
use Rattle.laws.specs.Lists.{at}
use Rattle.hall.specs.Hall.{Hall}
use Rattle.dicuts.specs.Shores.{Ranged}
use Rattle.potentials.specs.Potential.{cost}
use Rattle.potentials.specs.Flip.{put}
use Rattle.potentials.specs.Repair.{Repaired}
use Rattle.columns.specs.Columns.{flagged, Neighbourhoods}
use Rattle.columns.specs.Lanes.{LanesOf}
use Rattle.columns.specs.declared.Lanes.{Lanes}
use Rattle.repair.specs.declared.State.{State}

-- A CHOICE OF LEAST COST, with its neighbourhoods, in which row i may cost e: no level and what the choice costs then reach 2 to the power 61 together
pub record Repriceable (h : Hall) (lanes : Lanes) (costs : List ℕ) (s : State) (i e : ℕ) : Type 0 where
  pub columns : LanesOf h lanes
  pub ranged : Ranged h
  pub repaired : Repaired h (at costs) (at s.potential) (flagged s.chosen)
  pub around : Neighbourhoods h (flagged s.chosen) s.around
  pub low : (j : ℕ) → 1 ≤ j → j ≤ 64 → at s.potential j + cost h (put i e (at costs)) (flagged s.chosen) < 2 ^ 61
  pub cheap : e < 2 ^ 61

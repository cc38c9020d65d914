-- What a step of repair starts from and leaves, over the lanes of a hall. Assumes nothing: these are definitions.
use Rattle.std.specs.Prelude.{◌≡◌, Bool, true, false, ◌&&◌, List, ℕ, suc, ◌+◌, ◌^◌, ◌≤◌, ◌<◌, ltb, Option, Some, None}
use Rattle.laws.specs.Lists.{at}
use Rattle.hall.specs.Hall.{Hall, row, count}
use Rattle.dicuts.specs.Shores.{Ranged}
use Rattle.columns.specs.Columns.{flagged, Neighbourhoods}
use Rattle.columns.specs.Lanes.{LanesOf}
use Rattle.columns.specs.declared.Lanes.{Lanes}
use Rattle.potentials.specs.Potential.{slack}
use Rattle.potentials.specs.Repair.{Repairable, Repaired}
use Rattle.repair.specs.declared.State.{State}

-- row i is chosen and has a gap
unfoldable pub unpaid : Hall → (c p : ℕ → ℕ) → (F : ℕ → Bool) → (i : ℕ) → Bool
unpaid h c p F i = F i && ltb (p (row h i).to) (p (row h i).from + c i)

-- the place of the first of m rows from place a on that is chosen and has a gap, or that there is none
abbrev pub FirstUnpaid : Hall → (c p : ℕ → ℕ) → (F : ℕ → Bool) → (a m : ℕ) → Option ℕ → Type 0
FirstUnpaid h c p F a m (Some r) =
    (r < m) × (unpaid h c p F (suc r) ≡ true) × ((k : ℕ) → a ≤ k → k < r → unpaid h c p F (suc k) ≡ false)
FirstUnpaid h c p F a m None = (k : ℕ) → a ≤ k → k < m → unpaid h c p F (suc k) ≡ false

-- the place of one of m rows that is chosen and has a gap, or that there is none
abbrev pub SomeUnpaid : Hall → (c p : ℕ → ℕ) → (F : ℕ → Bool) → (m : ℕ) → Option ℕ → Type 0
SomeUnpaid h c p F m (Some r) = (r < m) × (unpaid h c p F (suc r) ≡ true)
SomeUnpaid h c p F m None = (k : ℕ) → k < m → unpaid h c p F (suc k) ≡ false

-- every row of the hall is movable
abbrev pub Free : Hall → (movable : ℕ → Bool) → Type 0
Free h m = (i : ℕ) → 1 ≤ i → i ≤ count h → m i ≡ true

-- A STEP from p and F to a state: it can be repaired, the slack is less, and no level grows by more than the slack falls
pub record Stepped (h : Hall) (c p : ℕ → ℕ) (F : ℕ → Bool) (to : State) : Type 0 where
  pub repairable : Repairable h c (at to.potential) (flagged to.chosen)
  pub around : Neighbourhoods h (flagged to.chosen) to.around
  pub less : slack h c (at to.potential) (flagged to.chosen) < slack h c p F
  pub bound : (j : ℕ) → 1 ≤ j → j ≤ 64 → at to.potential j + slack h c (at to.potential) (flagged to.chosen) ≤ p j + slack h c p F

-- WHERE REPAIR STARTS: the lanes are those of a hall in which the choice joins, P1 and P3 hold, the choice has these neighbourhoods, and no level and the slack together reach 2 to the power 61
pub record RepairStart (lanes : Lanes) (costs : List ℕ) (from : State) : Type 0 where
  pub hall : Hall
  pub columns : LanesOf hall lanes
  pub ranged : Ranged hall
  pub repairable : Repairable hall (at costs) (at from.potential) (flagged from.chosen)
  pub around : Neighbourhoods hall (flagged from.chosen) from.around
  pub bound : (j : ℕ) → 1 ≤ j → j ≤ 64 → at from.potential j + slack hall (at costs) (at from.potential) (flagged from.chosen) < 2 ^ 61

-- WHERE REPAIR ENDS, from one state in another: that one is repaired, and no level has grown by more than the slack
pub record RepairEnd (h : Hall) (c : ℕ → ℕ) (from to : State) : Type 0 where
  pub repaired : Repaired h c (at to.potential) (flagged to.chosen)
  pub around : Neighbourhoods h (flagged to.chosen) to.around
  pub bound : (j : ℕ) → 1 ≤ j → j ≤ 64 → at to.potential j ≤ at from.potential j + slack h c (at from.potential) (flagged from.chosen)

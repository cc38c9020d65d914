-- From rows that join to the start of repair, and from its end on: the levels of a choice of least cost are low, and it is repaired at the ranked costs. Assumes nothing.
use mathlib.Core.Path.{◌≡◌, refl}
use mathlib.Core.Bool.{Bool}
use mathlib.Core.List.{List}
use Prim.Native.Nat.{ℕ, ◌-◌, ◌^◌, ◌<◌, ◌≤◌}
use native.Mathlib.Nat.{mul-le-mul_right}
use native.Mathlib.Omega.{arith}
use lib.ListN.{length, get_or, replicate, get_or-replicate}
use Rattle.laws.specs.Lists.{at}
use Rattle.hall.specs.Hall.{Hall, count}
use Rattle.dicuts.specs.Shores.{Ranged, once, Joining}
use Rattle.columns.specs.Columns.{flagged, Neighbourhoods}
use Rattle.columns.specs.Lanes.{LanesOf}
use Rattle.columns.specs.declared.Lanes.{Lanes}
use Rattle.potentials.specs.Potential.{slack, cost}
use Rattle.potentials.specs.Repair.{Repairable, Repaired}
use Rattle.potentials.proofs.Same.{repaired_same}
use Rattle.potentials.proofs.Starts.{cost_mono, cost_most, flat_repairable, flat_slack}
use Rattle.order.specs.Ranked.{ranked}
use Rattle.repair.specs.declared.State.{State}
use Rattle.repair.specs.Repairs.{RepairStart, RepairEnd}
use Rattle.repair.proofs.Repairing.{levels_below}
use Rattle.pruning.specs.Start.{Among}
use Rattle.plan.specs.Ready.{Modest, Ready, Cheapest}

module _ (h : Hall) (ln : Lanes) (costs : List ℕ) (rows : List Bool) (rd : Ready h ln rows) (modest : Modest costs) where
  -- what the rows cost together
  rows_low : cost h (at costs) (flagged rows) < 2 ^ 61
  rows_low =
      omega (
        arith,
        cost_most h (at costs) (flagged rows) (2 ^ 53 - 1) (λ i low high t. omega (arith, modest (i - 1))),
        rd.columns.rows,
        ln.ends.few,
        mul-le-mul_right {m = count h} {n = 256} (2 ^ 53 - 1) (omega (arith, rd.columns.rows, ln.ends.few)),
      )

  -- no level of a choice of least cost is higher
  pub cheapest_low : (s : State) → length s.potential ≡ 64 → Cheapest h costs rows s → (j : ℕ) → get_or s.potential j 0 < 2 ^ 61
  cheapest_low s long least = levels_below (2 ^ 61) s.potential (omega arith) long (λ j l u. omega (arith, least.low j l u, rows_low))

-- a choice that joins at the potential 0, with its neighbourhoods
module _ (h : Hall) (ln : Lanes) (costs : List ℕ) (rows : List Bool) (rd : Ready h ln rows)
    (chosen : List Bool) (inside : Among chosen rows) (joins : Joining h (once (flagged chosen)))
    (s : State) (is : s.chosen ≡ chosen) (flat : s.potential ≡ replicate 64 0) (around : Neighbourhoods h (flagged chosen) s.around) where
  zero_level : (j : ℕ) → 1 ≤ j → j ≤ 64 → at s.potential j ≡ 0
  zero_level j l u = rw flat (get_or-replicate 64 (j - 1) 0 0 (omega arith))

  flat_level : (j : ℕ) → 1 ≤ j → j ≤ h.n → at s.potential j ≡ 0
  flat_level j l u = zero_level j l (omega (arith, rd.columns.junctions, ln.ends.size))

  -- the slack is at most what the rows cost
  slack_rows : slack h (at costs) (at s.potential) (flagged s.chosen) ≤ cost h (at costs) (flagged rows)
  slack_rows =
      rw is
      (omega (
        arith,
        flat_slack h rd.ranged (at costs) (at s.potential) (flagged chosen) flat_level,
        cost_mono h (at costs) (flagged chosen) (flagged rows) (λ i l u t. inside (i - 1) t),
      ))

  flat_can : Repairable h (at costs) (at s.potential) (flagged s.chosen)
  flat_can = rw is (flat_repairable h rd.ranged (at costs) (at s.potential) (flagged chosen) flat_level joins)

  near : Neighbourhoods h (flagged s.chosen) s.around
  near = rw is around

  pub flat_start : Modest costs → RepairStart ln costs s
  flat_start modest =
      record {
        hall = h;
        columns = rd.columns;
        ranged = rd.ranged;
        repairable = flat_can;
        around = near;
        bound = λ j l u. omega (arith, zero_level j l u, slack_rows, rows_low h ln costs rows rd modest);
      }

  pub flat_end :
      (end : State) → (Repairable h (at costs) (at s.potential) (flagged s.chosen) → Neighbourhoods h (flagged s.chosen) s.around →
      RepairEnd h (at costs) s end) → Cheapest h costs rows end
  flat_end end repair = let done = repair flat_can near in record {
    repaired = done.repaired;
    around = done.around;
    low = λ j l u. omega (arith, done.bound j l u, zero_level j l u, slack_rows);
  }

-- at costs that are the ranked ones, what is repaired is repaired at these
pub ranked_repaired :
    (h : Hall) (ln : Lanes) → LanesOf h ln → Ranged h → (costs : List ℕ) → ((i : ℕ) → 1 ≤ i → i ≤ ln.count → at costs i ≡ ranked h i) → (s : State) →
    Repaired h (at costs) (at s.potential) (flagged s.chosen) → Repaired h (ranked h) (at s.potential) (flagged s.chosen)
ranked_repaired h ln lanes rg costs are s done =
    repaired_same h rg (at costs) (ranked h) (λ i l u. are i l (omega (arith, lanes.rows))) (at s.potential) (at s.potential) (λ j l u. refl)
    (flagged s.chosen) (flagged s.chosen) (λ i l u. refl) done

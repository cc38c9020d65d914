-- From the prices and marks of an accepted hall to the costs of both calls: the rows that are not fixed are a start at the charges and at the ranked costs. Assumes nothing.
use mathlib.Core.Path.{◌≡◌, refl, ap, ap₂, ◌∙◌}
use mathlib.Core.Bool.{Bool, false, not}
use mathlib.Core.List.{List}
use Prim.Native.Nat.{ℕ, ◌+◌, ◌*◌, ◌-◌, ◌<◌, ◌≤◌}
use native.Mathlib.Omega.{arith}
use lib.Dec.{ltb}
use lib.ListN.{get_or}
use borrow.Author.Tests.{ltb-true, ltb-false}
use Rattle.laws.specs.Lists.{at}
use Rattle.laws.proofs.Booleans.{by_bool}
use Rattle.hall.specs.Hall.{Hall, count}
use Rattle.dicuts.specs.Shores.{unfixed_row}
use Rattle.joining.proofs.Joining.{joining_mono}
use Rattle.potentials.proofs.Same.{cost_same, cost_rows_same, repaired_same}
use Rattle.order.specs.Ranked.{charge_of, charge, ranked}
use Rattle.order.proofs.Ranked.{charge_most}
use Rattle.certificates.proofs.Charges.{rest_cheap}
use Rattle.columns.specs.Columns.{flagged}
use Rattle.choice.proofs.Marked.{opposite_unfixed}
use Rattle.hallfile.specs.declared.record.HallRecord.{HallRecord}
use Rattle.repair.specs.declared.State.{State}
use Rattle.ledger.specs.Padded.{Padded, charged}
use Rattle.plan.specs.Ready.{Modest, Ready, Cheapest, Accepted, Least}

-- the flags of the rows that are not fixed
abbrev pub Others : (fixed rows : List Bool) → Type 0
Others fixed rows = (k : ℕ) → k < 256 → get_or rows k false ≡ not (get_or fixed k false)

module _ (h : Hall) (x : HallRecord) (rd : Accepted h x) where
  are_charges : (i : ℕ) → 1 ≤ i → i ≤ count h → charged x.prices x.fixed (i - 1) ≡ charge h i
  unfolding charge
  are_charges i l u = ap₂ charge_of (rd.marks i l u) (rd.price i l u)

  -- the rows that are not fixed
  module _ (rows : List Bool) (others : Others x.fixed rows) where
    are_unfixed : (i : ℕ) → 1 ≤ i → i ≤ count h → flagged rows i ≡ unfixed_row h i
    are_unfixed = opposite_unfixed h x.fixed rd.marks rd.able.few rows others

    pub unfixed_ready : Ready h x.lanes rows
    unfixed_ready =
        record {
          columns = rd.columns;
          ranged = rd.ranged;
          joining = joining_mono h (unfixed_row h) (flagged rows) (λ i l u e. are_unfixed i l u ∙ e) rd.able.joining;
        }

  -- at the charges, from the rows that are not fixed
  module _ (charges : List ℕ) (filled : Padded 256 (charged x.prices x.fixed) x.lanes.count charges) where
    pub charge-at : (i : ℕ) → 1 ≤ i → i ≤ count h → at charges i ≡ charge h i
    charge-at i l u = filled.first (i - 1) (omega (arith, rd.columns.rows)) ∙ are_charges i l u

    pub charge_modest : Modest charges
    charge_modest k =
        by_bool (ltb k x.lanes.count) (λ t. let in_it = ltb-true k x.lanes.count t in omega (arith, filled.first k in_it, charge_most (get_or x.fixed k false) (get_or x.prices k 0) (x.prices_low k in_it)))
        (λ t. omega (arith, filled.rest k (ltb-false k x.lanes.count t)))

    pub charge_least : (rows : List Bool) → Others x.fixed rows → (s : State) → Cheapest h charges rows s → Least h s
    charge_least rows others s end =
        record {
          repaired = repaired_same h rd.ranged (at charges) (charge h) charge-at (at s.potential) (at s.potential) (λ j l u. refl) (flagged s.chosen) (flagged s.chosen) (λ i l u. refl) end.repaired;
          around = end.around;
          low = λ j l u.
              omega (
                arith,
                end.low j l u,
                cost_same h (at charges) (charge h) charge-at (flagged rows),
                cost_rows_same h (flagged rows) (unfixed_row h) (are_unfixed rows others) (charge h),
                rest_cheap h rd.able,
              );
        }

  -- at the ranked costs, from the rows that are not fixed
  module _ (costs : List ℕ) (filled : Padded 256 (λ k. 257 * charged x.prices x.fixed k + 1) x.lanes.count costs) where
    pub ranked_modest : Modest costs
    ranked_modest k =
        by_bool (ltb k x.lanes.count) (λ t. let in_it = ltb-true k x.lanes.count t in omega (arith, filled.first k in_it, charge_most (get_or x.fixed k false) (get_or x.prices k 0) (x.prices_low k in_it)))
        (λ t. omega (arith, filled.rest k (ltb-false k x.lanes.count t)))

    pub costs_ranked : (i : ℕ) → 1 ≤ i → i ≤ x.lanes.count → at costs i ≡ ranked h i
    unfolding ranked
    costs_ranked i l u = filled.first (i - 1) (omega arith) ∙ ap (λ (z : ℕ). 257 * z + 1) (are_charges i l (omega (arith, rd.columns.rows)))

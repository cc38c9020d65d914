-- The record of a hall holds its columns. Assumes nothing.
use mathlib.Core.Path.{◌≡◌, sym, ap, ◌∙◌}
use mathlib.Core.Bool.{Bool, false}
use mathlib.Core.List.{List}
use Prim.Native.Nat.{ℕ, ◌-◌, ◌≤◌}
use native.Mathlib.Omega.{arith}
use lib.ListN.{get_or}
use Rattle.laws.specs.Lists.{at}
use Rattle.hall.specs.Hall.{Hall, Row, row, row_of, count}
use Rattle.columns.specs.Columns.{Marks}
use Rattle.columns.specs.Lanes.{LanesOf}
use Rattle.hallfile.specs.declared.record.HallRecord.{HallRecord}
use Rattle.hallfile.specs.Record.{column, RecordOf}
use Rattle.hallfile.proofs.Columns.{column-at}

module _ (h : Hall) (x : HallRecord) (is : RecordOf h x) where
  few : count h ≤ 256
  few = omega (arith, is.rows, x.lanes.ends.few)

  column-row : {A : Type 0} (d : A) (f : Row → A) (i : ℕ) → 1 ≤ i → i ≤ count h → get_or (column d f h.rows) (i - 1) d ≡ f (row h i)
  unfolding row count
  column-row d f i l m = column-at d f h.rows (i - 1) (row_of 0 0 0) (omega arith) (omega (arith, few))

  pub record_lanes : LanesOf h x.lanes
  record_lanes =
      record {
        junctions = sym is.junctions;
        rows = sym is.rows;
        tail = λ i l m. ap (λ (c : List ℕ). at c i) is.tails ∙ column-row 0 (λ r. r.from) i l (omega (arith, is.rows));
        head = λ i l m. ap (λ (c : List ℕ). at c i) is.heads ∙ column-row 0 (λ r. r.to) i l (omega (arith, is.rows));
      }

  pub record_prices : (i : ℕ) → 1 ≤ i → i ≤ count h → at x.prices i ≡ (row h i).price
  record_prices i l m = ap (λ (c : List ℕ). at c i) is.prices ∙ column-row 0 (λ r. r.price) i l m

  pub record_marks : Marks h x.fixed
  record_marks i l m = ap (λ (c : List Bool). get_or c (i - 1) false) is.marks ∙ column-row false (λ r. r.fixed) i l m

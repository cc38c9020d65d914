-- A hall with lanes and a junction is ranged. Assumes nothing.
use Prim.Native.Nat.{◌-◌, ◌≤◌}
use native.Mathlib.Omega.{arith}
use Rattle.hall.specs.Hall.{Hall}
use Rattle.dicuts.specs.Shores.{Ranged}
use Rattle.columns.specs.Lanes.{LanesOf}
use Rattle.columns.specs.declared.Lanes.{Lanes}

pub lanes_ranged : (h : Hall) (l : Lanes) → 1 ≤ l.n → LanesOf h l → Ranged h
lanes_ranged h l some are =
    record {
      some = omega (arith, are.junctions);
      from_low = λ i u v. omega (arith, are.rows, are.tail i u (omega (arith, are.rows)), l.ends.tail_low (i - 1) (omega (arith, are.rows)));
      from_high = λ i u v. omega (arith, are.junctions, are.tail i u (omega (arith, are.rows)), l.ends.tail_high (i - 1) (omega (arith, are.rows)));
      to_low = λ i u v. omega (arith, are.rows, are.head i u (omega (arith, are.rows)), l.ends.head_low (i - 1) (omega (arith, are.rows)));
      to_high = λ i u v. omega (arith, are.junctions, are.head i u (omega (arith, are.rows)), l.ends.head_high (i - 1) (omega (arith, are.rows)));
    }

-- The ends of the row at a place of the columns, counted from 0. Assumes nothing.
use mathlib.Core.Path.{◌≡◌}
use mathlib.Core.List.{List}
use Prim.Native.Nat.{ℕ, suc, ◌-◌, ◌<◌}
use native.Mathlib.Omega.{arith}
use lib.ListN.{get_or}
use Rattle.hall.specs.Hall.{Hall, row}
use Rattle.columns.specs.Columns.{Columns}
use Rattle.columns.specs.Lanes.{LanesOf}
use Rattle.columns.specs.declared.Lanes.{Lanes}

module _ (h : Hall) (n m : ℕ) (tails heads : List ℕ) (cols : Columns h n m tails heads) (k : ℕ) (less : k < m) where
  pub place_tail : get_or tails k 0 ≡ (row h (suc k)).from
  place_tail = let back : suc k - 1 ≡ k = omega arith in rw back at (cols.tail (suc k) (omega arith) less)

  pub place_head : get_or heads k 0 ≡ (row h (suc k)).to
  place_head = let back : suc k - 1 ≡ k = omega arith in rw back at (cols.head (suc k) (omega arith) less)

-- of the lanes of a hall
module _ (h : Hall) (l : Lanes) (lanes_of : LanesOf h l) (k : ℕ) (less : k < l.count) where
  pub lane_tail : get_or l.tails k 0 ≡ (row h (suc k)).from
  lane_tail = place_tail h l.n l.count l.tails l.heads lanes_of k less

  pub lane_head : get_or l.heads k 0 ≡ (row h (suc k)).to
  lane_head = place_head h l.n l.count l.tails l.heads lanes_of k less

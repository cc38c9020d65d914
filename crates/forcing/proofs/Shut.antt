-- Where repair may start when one row costs otherwise: from a choice of least cost, with its potential shut between two levels. Assumes nothing.
use mathlib.Core.Path.{◌≡◌}
use mathlib.Core.Bool.{Bool, true, cond}
use Prim.Native.Nat.{ℕ, suc, ◌+◌, ◌≤◌}
use native.Mathlib.Omega.{arith}
use lib.Dec.{eqb}
use borrow.Author.Tests.{eqb-true, eqb-false}
use Rattle.laws.proofs.Booleans.{by_bool}
use Rattle.laws.proofs.Finite.{sum_le}
use Rattle.hall.specs.Hall.{Hall, row, count}
use Rattle.dicuts.specs.Shores.{once}
use Rattle.potentials.specs.Potential.{Under, Paid, Parted, gap, slack, cost}
use Rattle.potentials.specs.Flip.{put}
use Rattle.potentials.specs.Repair.{Repairable, Repaired}
use Rattle.potentials.proofs.Weights.{put_same, put_other}
use Rattle.forcing.specs.Shut.{shut}

-- no level is higher
pub shut_low : (a b : ℕ) (p : ℕ → ℕ) (j : ℕ) → shut a b p j ≤ p j
unfolding shut
shut_low a b p j = omega arith

module _ (h : Hall) (c p : ℕ → ℕ) (F : ℕ → Bool) (i e a b : ℕ) (done : Repaired h c p F)
    (from_is : a ≡ p (row h i).from + e) (low : a ≤ b) (high : p (row h i).to ≤ b) where
  -- no two levels are farther apart than they were; row i ends no higher than a
  shut_under : Under h (put i e c) (shut a b p)
  unfolding Under shut
  shut_under k l u =
      by_bool (eqb k i) (λ t. let same : k ≡ i = eqb-true k i t in rw same (omega (arith, put_same i e c, from_is, low, high)))
      (λ t. omega (arith, put_other i e c k (eqb-false k i t), done.under k l u, low))

  shut_parted : Parted h (once F) (shut a b p)
  unfolding Parted shut
  shut_parted v u lv kv lu ku less = done.parted v u lv kv lu ku (omega (arith, less, low))

  pub shut_repairable : Repairable h (put i e c) (shut a b p) F
  shut_repairable = record { joining = done.joining; under = shut_under; parted = shut_parted }

  -- along a chosen row the potential does not fall
  shut_gap : (k : ℕ) → 1 ≤ k → k ≤ count h → F k ≡ true → gap h (put i e c) (shut a b p) k ≤ put i e c k
  unfolding Paid gap shut
  shut_gap k l u t = omega (arith, done.paid k l u t, low)

  pub shut_slack : slack h (put i e c) (shut a b p) F ≤ cost h (put i e c) F
  unfolding slack cost
  shut_slack =
      sum_le (count h) (λ k. cond (F (suc k)) (gap h (put i e c) (shut a b p) (suc k)) 0) (λ k. cond (F (suc k)) (put i e c (suc k)) 0)
      (λ k l. by_bool (F (suc k)) (λ t. rw t (shut_gap (suc k) (omega arith) l t)) (λ t. rw t (omega arith)))

-- What sets of rows cost, and where repair may start: from the potential 0. Assumes nothing.
use mathlib.Core.Path.{◌≡◌, ap₂}
use mathlib.Core.Bool.{Bool, true, cond}
use Prim.Native.Nat.{ℕ, zero, suc, ◌+◌, ◌-◌, ◌*◌, ◌≤◌}
use native.Mathlib.Omega.{arith}
use Rattle.laws.proofs.Booleans.{by_bool, cond_true}
use Rattle.laws.proofs.DoubleSums.{sum_constant}
use Rattle.laws.proofs.Finite.{sum_le, sum-at_least}
use Rattle.laws.proofs.Places.{sum_change}
use Rattle.hall.specs.Hall.{Hall, row, count}
use Rattle.dicuts.specs.Shores.{Ranged, once, Joining}
use Rattle.potentials.specs.Potential.{Under, Parted, gap, slack, cost}
use Rattle.potentials.specs.Repair.{Repairable}

-- more rows cost no less
pub cost_mono : (h : Hall) (c : ℕ → ℕ) (F G : ℕ → Bool) → ((i : ℕ) → 1 ≤ i → i ≤ count h → F i ≡ true → G i ≡ true) → cost h c F ≤ cost h c G
unfolding cost
cost_mono h c F G more =
    sum_le (count h) (λ k. cond (F (suc k)) (c (suc k)) 0) (λ k. cond (G (suc k)) (c (suc k)) 0)
    (λ k l. by_bool (F (suc k)) (λ t. rw (t, more (suc k) (omega arith) l t) (omega arith)) (λ t. rw t (omega arith)))

-- a set costs no less than one of its rows
pub cost_row : (h : Hall) (c : ℕ → ℕ) (F : ℕ → Bool) (k : ℕ) → 1 ≤ k → k ≤ count h → F k ≡ true → c k ≤ cost h c F
unfolding cost
cost_row h c F zero low high t = absurd (omega arith)
cost_row h c F (suc k) low high t =
    omega (arith, cond_true (F (suc k)) (c (suc k)) 0 t, sum-at_least (count h) (λ j. cond (F (suc j)) (c (suc j)) 0) k (omega arith))

-- costs and sets that differ at most in one row
pub cost_change :
    (h : Hall) (c d : ℕ → ℕ) (F G : ℕ → Bool) (i : ℕ) → 1 ≤ i → i ≤ count h → ((k : ℕ) → (k ≡ i → ⊥) → c k ≡ d k) → ((k : ℕ) → (k ≡ i → ⊥) → F k ≡ G k) →
    cost h c F + cond (G i) (d i) 0 ≡ cost h d G + cond (F i) (c i) 0
unfolding cost
cost_change h c d F G zero low high costs rows = absurd (omega arith)
cost_change h c d F G (suc i) low high costs rows =
    sum_change (count h) (λ k. cond (F (suc k)) (c (suc k)) 0) (λ k. cond (G (suc k)) (d (suc k)) 0) i (cond (G (suc i)) (d (suc i)) 0)
    (cond (F (suc i)) (c (suc i)) 0) (omega arith)
    (λ k l away. let other : suc k ≡ suc i → ⊥ = λ q. away (omega arith) in ap₂ (λ (b : Bool) (x : ℕ). cond b x 0) (rows (suc k) other) (costs (suc k) other))
    (omega arith)

-- chosen rows that cost at most e each
pub cost_most : (h : Hall) (c : ℕ → ℕ) (F : ℕ → Bool) (e : ℕ) → ((i : ℕ) → 1 ≤ i → i ≤ count h → F i ≡ true → c i ≤ e) → cost h c F ≤ count h * e
unfolding cost
cost_most h c F e most =
    omega (
      arith,
      sum_constant (count h) e,
      sum_le (count h) (λ k. cond (F (suc k)) (c (suc k)) 0) (λ k. e)
          (λ k l. by_bool (F (suc k)) (λ t. rw t (most (suc k) (omega arith) l t)) (λ t. rw t (omega arith))),
    )

module _ (h : Hall) (rg : Ranged h) (c p : ℕ → ℕ) (F : ℕ → Bool) where
  -- a joining set of rows and the potential 0
  module _ (none : (j : ℕ) → 1 ≤ j → j ≤ h.n → p j ≡ 0) where
    pub flat_repairable : Joining h (once F) → Repairable h c p F
    unfolding Under Parted
    flat_repairable joining =
        record {
          joining = joining;
          under = λ i l u. omega (arith, none (row h i).to (rg.to_low i l u) (rg.to_high i l u));
          parted = λ v u lv kv lu ku less. absurd (omega (arith, none v lv kv));
        }

    pub flat_slack : slack h c p F ≤ cost h c F
    unfolding slack cost gap
    flat_slack =
        sum_le (count h) (λ k. cond (F (suc k)) (p (row h (suc k)).from + c (suc k) - p (row h (suc k)).to) 0) (λ k. cond (F (suc k)) (c (suc k)) 0)
        (λ k l.
        by_bool (F (suc k))
        (λ t. rw t (omega (arith, none (row h (suc k)).from (rg.from_low (suc k) (omega arith) l) (rg.from_high (suc k) (omega arith) l))))
        (λ t. rw t (omega arith)))

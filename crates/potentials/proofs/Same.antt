-- What is said of a set of rows, of costs and of a potential is said of any that are the same on the rows and junctions of the hall. Assumes nothing.
use mathlib.Core.Path.{◌≡◌, sym, ap, ap₂, ◌∙◌}
use mathlib.Core.Bool.{Bool, cond}
use Prim.Native.Nat.{ℕ, suc, ◌+◌, ◌-◌, ◌≤◌}
use native.Mathlib.Omega.{arith}
use Rattle.laws.proofs.Finite.{sum_ext}
use Rattle.hall.specs.Hall.{Hall, row, count}
use Rattle.dicuts.specs.Shores.{Ranged, once}
use Rattle.dicuts.proofs.Same.{sep_same}
use Rattle.joining.proofs.Joining.{joining_mono}
use Rattle.potentials.specs.Potential.{Under, Paid, Parted, gap, slack, cost}
use Rattle.potentials.specs.Repair.{Repairable, Repaired}
use Rattle.potentials.specs.Compare.{Priced}

-- the same rows
pub cost_rows_same : (h : Hall) (F G : ℕ → Bool) → ((i : ℕ) → 1 ≤ i → i ≤ count h → F i ≡ G i) → (c : ℕ → ℕ) → cost h c F ≡ cost h c G
unfolding cost
cost_rows_same h F G same c =
    sum_ext (count h) (λ k. cond (F (suc k)) (c (suc k)) 0) (λ k. cond (G (suc k)) (c (suc k)) 0)
    (λ k l. ap (λ (b : Bool). cond b (c (suc k)) 0) (same (suc k) (omega arith) (omega arith)))

-- the same costs
pub cost_same : (h : Hall) (c d : ℕ → ℕ) → ((i : ℕ) → 1 ≤ i → i ≤ count h → c i ≡ d i) → (F : ℕ → Bool) → cost h c F ≡ cost h d F
unfolding cost
cost_same h c d same F =
    sum_ext (count h) (λ k. cond (F (suc k)) (c (suc k)) 0) (λ k. cond (F (suc k)) (d (suc k)) 0)
    (λ k l. ap (λ (x : ℕ). cond (F (suc k)) x 0) (same (suc k) (omega arith) (omega arith)))

-- the same levels and rows
pub parted_same :
    (h : Hall) (p q : ℕ → ℕ) → ((j : ℕ) → 1 ≤ j → j ≤ h.n → p j ≡ q j) → (F G : ℕ → Bool) → ((i : ℕ) → 1 ≤ i → i ≤ count h → F i ≡ G i) →
    Parted h (once F) p → Parted h (once G) q
unfolding Parted
parted_same h p q levels F G rows parted v u lv kv lu ku less =
    sep_same h F G rows v u (parted v u lv kv lu ku (omega (arith, levels v lv kv, levels u lu ku)))

module _ (h : Hall) (rg : Ranged h) (c d : ℕ → ℕ) (costs : (i : ℕ) → 1 ≤ i → i ≤ count h → c i ≡ d i)
    (p q : ℕ → ℕ) (levels : (j : ℕ) → 1 ≤ j → j ≤ h.n → p j ≡ q j)
    (F G : ℕ → Bool) (rows : (i : ℕ) → 1 ≤ i → i ≤ count h → F i ≡ G i) where
  from_same : (i : ℕ) → 1 ≤ i → i ≤ count h → p (row h i).from ≡ q (row h i).from
  from_same i l u = levels (row h i).from (rg.from_low i l u) (rg.from_high i l u)

  to_same : (i : ℕ) → 1 ≤ i → i ≤ count h → p (row h i).to ≡ q (row h i).to
  to_same i l u = levels (row h i).to (rg.to_low i l u) (rg.to_high i l u)

  pub under_same : Under h c p → Under h d q
  unfolding Under
  under_same under i l u = omega (arith, under i l u, from_same i l u, to_same i l u, costs i l u)

  pub paid_same : Paid h c p F → Paid h d q G
  unfolding Paid
  paid_same paid i l u e = omega (arith, paid i l u (rows i l u ∙ e), from_same i l u, to_same i l u, costs i l u)

  pub slack_same : slack h c p F ≡ slack h d q G
  unfolding slack gap
  slack_same =
      sum_ext (count h) (λ k. cond (F (suc k)) (p (row h (suc k)).from + c (suc k) - p (row h (suc k)).to) 0)
      (λ k. cond (G (suc k)) (q (row h (suc k)).from + d (suc k) - q (row h (suc k)).to) 0)
      (λ k l.
      ap₂ (λ (b : Bool) (x : ℕ). cond b x 0) (rows (suc k) (omega arith) (omega arith))
      (omega (arith, from_same (suc k) (omega arith) (omega arith), to_same (suc k) (omega arith) (omega arith), costs (suc k) (omega arith) (omega arith))))

  pub repairable_same : Repairable h c p F → Repairable h d q G
  repairable_same start =
      record {
        joining = joining_mono h F G (λ i l u e. sym (rows i l u) ∙ e) start.joining;
        under = under_same start.under;
        parted = parted_same h p q levels F G rows start.parted;
      }

  pub repaired_same : Repaired h c p F → Repaired h d q G
  repaired_same done =
      record {
        joining = joining_mono h F G (λ i l u e. sym (rows i l u) ∙ e) done.joining;
        under = under_same done.under;
        paid = paid_same done.paid;
        parted = parted_same h p q levels F G rows done.parted;
      }

  pub priced_same :
      (m k : ℕ → Bool) → ((i : ℕ) → 1 ≤ i → i ≤ count h → m i ≡ k i) → Priced h c p m F → Priced h d q k G
  priced_same m k movable priced =
      record {
        under = λ i l u t. omega (arith, priced.under i l u (movable i l u ∙ t), from_same i l u, to_same i l u, costs i l u);
        paid = λ i l u t e.
            omega (arith, priced.paid i l u (movable i l u ∙ t) (rows i l u ∙ e), from_same i l u, to_same i l u, costs i l u);
      }

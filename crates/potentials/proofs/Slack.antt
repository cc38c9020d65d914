-- The slack, the sum of the gaps of the chosen rows, is lowered by a raise and by a flip. Assumes nothing.
use mathlib.Core.Path.{◌≡◌, refl}
use mathlib.Core.Bool.{Bool, true, false, cond}
use Prim.Native.Nat.{ℕ, zero, suc, ◌+◌, ◌≤◌}
use native.Mathlib.Omega.{arith}
use Rattle.laws.proofs.Booleans.{by_bool}
use Rattle.laws.proofs.Places.{sum_less}
use Rattle.junctions.specs.Sets.{holds}
use Rattle.digraph.specs.Reach.{Closed}
use Rattle.hall.specs.Hall.{Hall, row, count}
use Rattle.dicuts.specs.Shores.{Ranged}
use Rattle.potentials.specs.Potential.{gap, slack}
use Rattle.potentials.specs.ZeroGraph.{zero_arcs, raised, Raisable}
use Rattle.potentials.proofs.Raise.{raised_in, raised_out, raised_most, raised_keeps_rise}

-- gaps that nowhere grow over chosen rows, and fall by a at one of them, take a from the slack
slack_less :
    (h : Hall) (c p q : ℕ → ℕ) (F G : ℕ → Bool) (i a : ℕ) → 1 ≤ i → i ≤ count h →
    ((k : ℕ) → 1 ≤ k → k ≤ count h → cond (G k) (gap h c q k) 0 ≤ cond (F k) (gap h c p k) 0) →
    cond (G i) (gap h c q i) 0 + a ≤ cond (F i) (gap h c p i) 0 → slack h c q G + a ≤ slack h c p F
unfolding slack
slack_less h c p q F G zero a l u le at = absurd (omega arith)
slack_less h c p q F G (suc i) a l u le at =
    sum_less (count h) (λ k. cond (G (suc k)) (gap h c q (suc k)) 0) (λ k. cond (F (suc k)) (gap h c p (suc k)) 0) i a (omega arith)
    (λ k s. le (suc k) (omega arith) s) at

cond_le : (b : Bool) (x y : ℕ) → (b ≡ true → x ≤ y) → cond b x 0 ≤ cond b y 0
cond_le true x y f = f refl
cond_le false x y f = omega arith

-- a raise on a closed set, which a chosen row enters, lowers the slack by as much
module _ (h : Hall) (rg : Ranged h) (m : ℕ → Bool) (c p : ℕ → ℕ) (F : ℕ → Bool) (z e : ℕ) where
  pub slack-raised :
      Closed h.n (zero_arcs h m c p F) z → Raisable h m c p F z e → ((k : ℕ) → 1 ≤ k → k ≤ count h → F k ≡ true → m k ≡ true) →
      (i : ℕ) → 1 ≤ i → i ≤ count h → F i ≡ true → holds z (row h i).from ≡ false → holds z (row h i).to ≡ true →
      slack h c (raised z e p) F + e ≤ slack h c p F
  unfolding gap
  slack-raised closed able free i l u f from_out to_in =
      slack_less h c p (raised z e p) F F i e l u
      (λ k lk uk.
      cond_le (F k) (gap h c (raised z e p) k) (gap h c p k)
      (λ t. omega (arith, raised_keeps_rise h rg m c p F z closed e k lk uk (free k lk uk t) t)))
      (rw f
      (omega (arith, able.rows i l u (free i l u f) from_out to_in, raised_in z e p (row h i).to to_in, raised_out z e p (row h i).from from_out)))

  -- so no junction's potential and the slack together grow
  pub raised_bound :
      (j : ℕ) → slack h c (raised z e p) F + e ≤ slack h c p F → raised z e p j + slack h c (raised z e p) F ≤ p j + slack h c p F
  raised_bound j less = omega (arith, raised_most z e p j)

-- a set without a chosen row, in which only rows with no gap are new, has less slack by that row's gap
pub slack-flipped :
    (h : Hall) (c p : ℕ → ℕ) (F G : ℕ → Bool) →
    ((k : ℕ) → 1 ≤ k → k ≤ count h → G k ≡ true → F k ≡ false → p (row h k).from + c k ≤ p (row h k).to) →
    (i : ℕ) → 1 ≤ i → i ≤ count h → F i ≡ true → G i ≡ false → slack h c p G + gap h c p i ≤ slack h c p F
unfolding gap
slack-flipped h c p F G new i l u f g =
    slack_less h c p p F G i (gap h c p i) l u
    (λ k lk uk.
    by_bool (G k)
    (λ s. by_bool (F k) (λ t. rw (s, t) (omega arith)) (λ t. rw (s, t) (omega (arith, new k lk uk s t))))
    (λ s. rw s (omega arith)))
    (rw (f, g) (omega arith))

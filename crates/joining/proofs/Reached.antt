-- What is reached from a junction is the least set that holds it and that no row leaves and no chosen row enters. Assumes nothing.
-- The trick: a pass that changes anything adds a junction, so n passes settle.
use mathlib.Core.Path.{◌≡◌, refl, sym, ap, ◌∙◌}
use mathlib.Core.Bool.{Bool, true}
use mathlib.Core.List.{List}
use mathlib.Core.Logic.{⊎_elim}
use Prim.Native.Nat.{ℕ, zero, suc, ◌+◌, ◌-◌, ◌^◌, ◌≤◌, ◌<◌}
use native.Mathlib.Omega.{arith}
use lib.ListN.{length, get_or}
use Rattle.laws.proofs.Growth.{count_le}
use Rattle.junctions.specs.Sets.{holds, Within}
use Rattle.junctions.proofs.Single.{one_lt}
use Rattle.junctions.proofs.Growth.{size, within_grows}
use Rattle.digraph.specs.Reach.{Reach}
use Rattle.hall.specs.Hall.{Hall, row, row_of, count, member, over_rows, spread, reached}
use Rattle.dicuts.specs.Shores.{Ranged}
use Rattle.dicuts.specs.Arcs.{arcs}
use Rattle.joining.specs.Sound.{RowEnds}
use Rattle.joining.specs.Sealed.{Sealed}
use Rattle.joining.proofs.Sealed.{sealed_closed, closed_sealed}
use Rattle.joining.proofs.Passes.{over_grows, over_lt, over_within, over_forward, over_backward}

module _ (h : Hall) (rg : Ranged h) where
  -- the rows by their place in the list
  ends_at : (k : ℕ) → k < length h.rows → RowEnds h.n (get_or h.rows k (row_of 0 0 0))
  unfolding row count
  ends_at k l =
      let e : suc k - 1 ≡ k = omega arith in
      record {
        from_low = rw e at (rg.from_low (suc k) (omega arith) (omega arith));
        from_high = rw e at (rg.from_high (suc k) (omega arith) (omega arith));
        to_low = rw e at (rg.to_low (suc k) (omega arith) (omega arith));
        to_high = rw e at (rg.to_high (suc k) (omega arith) (omega arith));
      }

  module _ (c : List ℕ) where
    abbrev once_over : ℕ → ℕ
    once_over s = over_rows 1 h.rows c s

    once_lt : (s : ℕ) → s < 2 ^ h.n → once_over s < 2 ^ h.n
    once_lt s l = over_lt h.n c 1 h.rows s ends_at l

    pub spread_lt : (k s : ℕ) → s < 2 ^ h.n → spread k h c s < 2 ^ h.n
    unfolding spread
    spread_lt zero s l = l
    spread_lt (suc k) s l = spread_lt k (once_over s) (once_lt s l)

    pub spread_grows : (k s : ℕ) → Within s (spread k h c s)
    unfolding spread Within
    spread_grows zero s j l t = t
    spread_grows (suc k) s j l t = spread_grows k (once_over s) j l (over_grows c 1 h.rows s j l t)

    spread-fixed : (k s : ℕ) → once_over s ≡ s → spread k h c s ≡ s
    unfolding spread
    spread-fixed zero s e = refl
    spread-fixed (suc k) s e = ap (spread k h c) e ∙ spread-fixed k s e

    -- settled once there are as many passes as junctions that are not held yet
    pub settles : (k s : ℕ) → s < 2 ^ h.n → h.n ≤ size h.n s + k → once_over (spread k h c s) ≡ spread k h c s
    unfolding spread
    settles zero s l m =
        ⊎_elim (λ (e : s ≡ once_over s). sym e)
        (λ (more : size h.n s < size h.n (once_over s)). absurd (omega (arith, more, count_le h.n (λ k. holds (once_over s) (suc k)))))
        (within_grows h.n s (once_over s) l (once_lt s l) (over_grows c 1 h.rows s))
    settles (suc k) s l m =
        ⊎_elim (λ (e : s ≡ once_over s). ap once_over (spread-fixed (suc k) s (sym e)) ∙ sym e ∙ sym (spread-fixed (suc k) s (sym e)))
        (λ (more : size h.n s < size h.n (once_over s)). settles k (once_over s) (once_lt s l) (omega (arith, more)))
        (within_grows h.n s (once_over s) l (once_lt s l) (over_grows c 1 h.rows s))

    abbrev chosen : ℕ → Bool
    chosen i = member i c

    fixed_sealed : (s : ℕ) → once_over s ≡ s → Sealed h chosen s
    unfolding row count
    fixed_sealed s e =
        record {
          kept = λ i l m t.
              ap (λ (x : ℕ). holds x (row h i).to) (sym e) ∙ over_forward h.n c 1 h.rows s ends_at (i - 1) (omega arith) t;
          shut = λ i l m f t.
              let at : 1 + (i - 1) ≡ i = omega arith in
              ap (λ (x : ℕ). holds x (row h i).from) (sym e)
              ∙ over_backward h.n c 1 h.rows s ends_at (i - 1) (omega arith) (ap chosen at ∙ f) t;
        }

    pub spread_within : (k s t : ℕ) → Sealed h chosen t → Within s t → Within (spread k h c s) t
    unfolding spread row count
    spread_within zero s t sl w = w
    spread_within (suc k) s t sl w = spread_within k (once_over s) t sl (over_within h.n c 1 h.rows s t ends_at along against w)
      where
        along : (k : ℕ) → k < length h.rows → holds t (get_or h.rows k (row_of 0 0 0)).from ≡ true → holds t (get_or h.rows k (row_of 0 0 0)).to ≡ true
        along k l = let e : suc k - 1 ≡ k = omega arith in rw e at (sl.kept (suc k) (omega arith) (omega arith))

        against : (k : ℕ) → k < length h.rows → member (1 + k) c ≡ true →
            holds t (get_or h.rows k (row_of 0 0 0)).to ≡ true → holds t (get_or h.rows k (row_of 0 0 0)).from ≡ true
        against k l f =
            let e : suc k - 1 ≡ k = omega arith in
            let n : 1 + k ≡ suc k = omega arith in
            rw e at (sl.shut (suc k) (omega arith) (omega arith) (ap chosen (sym n) ∙ f))

    -- n passes from any set reach all that is reached
    pub spread_is : (s : ℕ) → s < 2 ^ h.n → Reach h.n (arcs h chosen) s (spread h.n h c s)
    spread_is s l =
        record {
          contains = spread_grows h.n s;
          closed = sealed_closed h chosen (spread h.n h c s) (fixed_sealed (spread h.n h c s) (settles h.n s l (omega arith)));
          least = λ t w cl. spread_within h.n s t (closed_sealed h chosen t rg cl) w;
        }

    pub reached_lt : (j : ℕ) → 1 ≤ j → j ≤ h.n → reached h c j < 2 ^ h.n
    unfolding reached
    reached_lt j l m = spread_lt h.n (2 ^ (j - 1)) (one_lt h.n j l m)

    pub reached_is : (j : ℕ) → 1 ≤ j → j ≤ h.n → Reach h.n (arcs h (λ i. member i c)) (2 ^ (j - 1)) (reached h c j)
    unfolding reached
    reached_is j l m = spread_is (2 ^ (j - 1)) (one_lt h.n j l m)

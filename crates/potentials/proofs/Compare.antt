-- A set of rows with a potential made of tight shores costs no more than any joining set that agrees with it on the rows that may not change, less the gaps of that set. Assumes nothing.
use mathlib.Core.Path.{◌≡◌, refl, sym, ◌∙◌}
use mathlib.Core.Bool.{Bool, true, false, ◌&&◌, cond}
use Prim.Native.Nat.{ℕ, zero, suc, ◌+◌, ◌*◌, ◌^◌, ◌≤◌, ◌<◌}
use native.Mathlib.Nat.{mul-le-mul_left}
use native.Mathlib.Omega.{arith}
use lib.Dec.{ltb}
use borrow.Author.Tests.{ltb-true, ltb-false}
use Rattle.laws.specs.Finite.{sum_below, one_if}
use Rattle.laws.proofs.Booleans.{by_bool, clash, and_i, cond_true}
use Rattle.laws.proofs.Finite.{sum_ext, sum_le, sum_add, sum-zero, sum-at_least}
use Rattle.hall.specs.Hall.{Hall, row, count, enters}
use Rattle.dicuts.specs.Shores.{cover, once, Joining}
use Rattle.potentials.specs.Potential.{Under, Paid, gap, cost}
use Rattle.potentials.specs.Compare.{rise, Weighs, Priced, Agree, gaps}

-- the rises of a set of rows, as a cost
module _ (h : Hall) (w : ℕ → ℕ) (X : ℕ → Bool) where
  one-row : (i : ℕ) → cond (X i) (rise h w i) 0 ≡ sum_below (2 ^ h.n) (λ s. w s * cond (enters s (row h i)) (once X i) 0)
  unfolding rise once one_if
  one-row i =
      by_bool (X i) (λ e. rw e (sum_ext (2 ^ h.n) (λ s. cond (enters s (row h i)) (w s) 0) (λ s. w s * cond (enters s (row h i)) 1 0) (λ s l. taken (enters s (row h i)) (w s))))
      (λ e. rw e (sym (sum-zero (2 ^ h.n) (λ s. w s * cond (enters s (row h i)) 0 0) (λ s l. left (enters s (row h i)) (w s)))))
    where
      taken : (b : Bool) (v : ℕ) → cond b v 0 ≡ v * cond b 1 0
      taken true v = omega arith
      taken false v = omega arith

      left : (b : Bool) (v : ℕ) → v * cond b 0 0 ≡ 0
      left true v = omega arith
      left false v = omega arith

  first_rows : (m : ℕ) → sum_below m (λ k. cond (X (suc k)) (rise h w (suc k)) 0)
      ≡ sum_below (2 ^ h.n) (λ s. w s * sum_below m (λ k. cond (enters s (row h (suc k))) (once X (suc k)) 0))
  unfolding sum_below
  first_rows zero = sym (sum-zero (2 ^ h.n) (λ s. w s * 0) (λ s l. omega arith))
  first_rows (suc m) =
      let part : ℕ → ℕ = λ s. sum_below m (λ k. cond (enters s (row h (suc k))) (once X (suc k)) 0) in
      let last : ℕ → ℕ = λ s. cond (enters s (row h (suc m))) (once X (suc m)) 0 in
      omega (
        arith,
        first_rows m,
        one-row (suc m),
        sum_add (2 ^ h.n) (λ s. w s * part s) (λ s. w s * last s),
        sum_ext (2 ^ h.n) (λ s. w s * part s + w s * last s) (λ s. w s * (part s + last s)) (λ s l. omega arith),
      )

  pub rises_cover : cost h (rise h w) X ≡ sum_below (2 ^ h.n) (λ s. w s * cover h (once X) s)
  unfolding cost cover
  rises_cover = first_rows (count h)

-- one row: a movable one carries its gap and its rise in its cost, any other is in both sets or in neither
one_place : (m f g : Bool) (cost gap rise : ℕ) → (m ≡ true → gap + rise ≡ cost) → (m ≡ true → f ≡ true → cost ≤ rise) → (m ≡ false → f ≡ g)
    → cond f cost 0 + cond (m && g) gap 0 + cond g rise 0 ≤ cond g cost 0 + cond f rise 0
one_place true true true c g r u v a = omega (arith, u refl, v refl refl)
one_place true true false c g r u v a = omega (arith, v refl refl)
one_place true false true c g r u v a = omega (arith, u refl)
one_place true false false c g r u v a = omega arith
one_place false true true c g r u v a = omega arith
one_place false true false c g r u v a = clash refl (a refl)
one_place false false true c g r u v a = clash (a refl) refl
one_place false false false c g r u v a = omega arith

module _ (h : Hall) (F : ℕ → Bool) (p w : ℕ → ℕ) (weighs : Weighs h (once F) p w) where
  -- each weighted shore is entered once
  pub rises_all : cost h (rise h w) F ≡ sum_below (2 ^ h.n) w
  rises_all = rises_cover h w F ∙ sum_ext (2 ^ h.n) (λ s. w s * cover h (once F) s) w (λ s l. once-each s l)
    where
      once-each : (s : ℕ) → s < 2 ^ h.n → w s * cover h (once F) s ≡ w s
      once-each s l =
          by_bool (ltb 0 (w s)) (λ e. let t = weighs.on_tight s l (ltb-true 0 (w s) e) in rw t.one (omega arith))
          (λ e. let z : w s ≡ 0 = omega (arith, ltb-false 0 (w s) e) in rw z (omega arith))

  -- a joining set enters each at least once
  pub rises_least : (G : ℕ → Bool) → Joining h (once G) → cost h (rise h w) F ≤ cost h (rise h w) G
  unfolding Joining
  rises_least G joining =
      omega (arith, rises_all, rises_cover h w G, sum_le (2 ^ h.n) w (λ s. w s * cover h (once G) s) (λ s l. at_least s l))
    where
      at_least : (s : ℕ) → s < 2 ^ h.n → w s ≤ w s * cover h (once G) s
      at_least s l =
          by_bool (ltb 0 (w s))
          (λ e. let t = weighs.on_tight s l (ltb-true 0 (w s) e) in omega (arith, mul-le-mul_left (w s) (joining s t.shore)))
          (λ e. omega (arith, ltb-false 0 (w s) e))

  module _ (c : ℕ → ℕ) (movable : ℕ → Bool) (priced : Priced h c p movable F) (G : ℕ → Bool) (agree : Agree h movable F G) where
    -- row by row, costs beside rises
    row_compares : (i : ℕ) → 1 ≤ i → i ≤ count h
        → cond (F i) (c i) 0 + cond (movable i && G i) (gap h c p i) 0 + cond (G i) (rise h w i) 0 ≤ cond (G i) (c i) 0 + cond (F i) (rise h w i) 0
    unfolding gap Agree
    row_compares i low high =
        let same = weighs.rises i low high in
        one_place (movable i) (F i) (G i) (c i) (gap h c p i) (rise h w i) (λ m. omega (arith, priced.under i low high m))
        (λ m f. omega (arith, priced.paid i low high m f)) (agree i low high)

    pub compare-cost : Joining h (once G) → cost h c F + gaps h c p movable G ≤ cost h c G
    unfolding cost gaps
    compare-cost joining =
        let cost_f : ℕ → ℕ = λ k. cond (F (suc k)) (c (suc k)) 0 in
        let cost_g : ℕ → ℕ = λ k. cond (G (suc k)) (c (suc k)) 0 in
        let rise_f : ℕ → ℕ = λ k. cond (F (suc k)) (rise h w (suc k)) 0 in
        let rise_g : ℕ → ℕ = λ k. cond (G (suc k)) (rise h w (suc k)) 0 in
        let gap_g : ℕ → ℕ = λ k. cond (movable (suc k) && G (suc k)) (gap h c p (suc k)) 0 in
        omega (
          arith,
          rises_least G joining,
          sum_add (count h) cost_f gap_g,
          sum_add (count h) (λ k. cost_f k + gap_g k) rise_g,
          sum_add (count h) cost_g rise_f,
          sum_le (count h) (λ k. cost_f k + gap_g k + rise_g k) (λ k. cost_g k + rise_f k) (λ k l. row_compares (suc k) (omega arith) (omega arith)),
        )

    -- a movable row of G with a gap makes G dearer
    pub gap_dearer : Joining h (once G) → (i : ℕ) → 1 ≤ i → i ≤ count h → movable i ≡ true → G i ≡ true → p (row h i).to < p (row h i).from + c i
        → cost h c F < cost h c G
    unfolding gaps gap
    gap_dearer joining zero low high m g l = absurd (omega arith)
    gap_dearer joining (suc i) low high m g l =
        let here = cond_true (movable (suc i) && G (suc i)) (gap h c p (suc i)) 0 (and_i (movable (suc i)) (G (suc i)) m g) in
        omega (arith, compare-cost joining, sum-at_least (count h) (λ k. cond (movable (suc k) && G (suc k)) (gap h c p (suc k)) 0) i (omega arith))

  -- where every row may change, no joining set costs less
  pub cheapest : (c : ℕ → ℕ) → Under h c p → Paid h c p F → (G : ℕ → Bool) → Joining h (once G) → cost h c F ≤ cost h c G
  unfolding Under Paid Agree
  cheapest c under paid G joining =
      omega (
        arith,
        compare-cost c (λ i. true) (record { under = λ i low high m. under i low high; paid = λ i low high m. paid i low high }) G
            (λ i low high m. clash refl m) joining,
      )

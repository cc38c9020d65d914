-- The first ball that holds a junction tells its distance. Assumes nothing.
use mathlib.Core.Path.{◌≡◌, refl, sym, ap, ◌∙◌}
use mathlib.Core.Bool.{true, false}
use mathlib.Core.Logic.{⊎_elim}
use Prim.Native.Nat.{ℕ, suc, ◌-◌, ◌^◌, ◌≤◌, ◌<◌}
use native.Mathlib.Omega.{arith}
use lib.Dec.{ltb}
use borrow.Author.Tests.{eq-eqb, eqb-true, ltb-true, ltb-false}
use Rattle.laws.proofs.Booleans.{by_bool, clash}
use Rattle.laws.proofs.First.{first_le, first_passes, first_least, first_at_most}
use Rattle.junctions.proofs.Sets.{one_holds}
use Rattle.junctions.specs.Sets.{holds}
use Rattle.digraph.specs.Closure.{arc_from, ball}
use Rattle.digraph.specs.Distances.{distances}
use Rattle.digraph.specs.Paths.{Distances}
use Rattle.digraph.proofs.Closure.{arc_from_found, widen-arc, widen_cases}

module _ (n : ℕ) (out : ℕ → ℕ) (start : ℕ) where
  abbrev round : ℕ → ℕ
  round k = ball n out (2 ^ (start - 1)) k

  in_ball : (y : ℕ) → distances n out start y < n → holds (round (distances n out start y)) y ≡ true
  unfolding distances
  in_ball y h = first_passes n (λ k. holds (round k) y) h

  before_ball : (y k : ℕ) → k < distances n out start y → holds (round k) y ≡ false
  unfolding distances
  before_ball y k h = first_least n (λ i. holds (round i) y) k h

  pub distances_le : (y : ℕ) → distances n out start y ≤ n
  unfolding distances
  distances_le y = first_le n (λ k. holds (round k) y)

  pub distances-at_most : (y k : ℕ) → holds (round k) y ≡ true → distances n out start y ≤ k
  unfolding distances
  distances-at_most y k t = first_at_most n (λ i. holds (round i) y) k t

  next_ball : (x y : ℕ) → 1 ≤ x → x ≤ n → 1 ≤ y → y ≤ n → holds (out x) y ≡ true → distances n out start x < n
      → holds (round (suc (distances n out start x))) y ≡ true
  unfolding ball
  next_ball x y l m p q a h = widen-arc n out (round (distances n out start x)) x y l m p q (in_ball x h) a

  one-ahead : (x y : ℕ) → 1 ≤ x → x ≤ n → 1 ≤ y → y ≤ n → holds (out x) y ≡ true → distances n out start y ≤ suc (distances n out start x)
  one-ahead x y l m p q a =
      by_bool (ltb (distances n out start x) n)
      (λ e. distances-at_most y (suc (distances n out start x)) (next_ball x y l m p q a (ltb-true (distances n out start x) n e)))
      (λ e. omega (arith, ltb-false (distances n out start x) n e, distances_le y))

  -- what the next ball adds, an arc from the last one leads to
  added : (y k : ℕ) → 1 ≤ y → holds (round (suc k)) y ≡ true → holds (round k) y ≡ false
      → (x : ℕ) × (1 ≤ x) × (x ≤ n) × (holds (round k) x ≡ true) × (holds (out x) y ≡ true)
  unfolding ball
  added y k l t f =
      ⊎_elim (λ (e : holds (round k) y ≡ true). clash e f) (λ (e : arc_from n out (round k) y ≡ true). arc_from_found n out (round k) y e)
      (widen_cases n out (round k) y l t)

  one_behind : (y : ℕ) → 1 ≤ y → y ≤ n → 0 < distances n out start y → distances n out start y < n
      → (x : ℕ) × (1 ≤ x) × (x ≤ n) × (suc (distances n out start x) ≡ distances n out start y) × (holds (out x) y ≡ true)
  one_behind y l m pos less =
      let k = distances n out start y - 1 in
      let e : distances n out start y ≡ suc k = omega arith in
      let w = added y k l (ap (λ (i : ℕ). holds (round i) y) (sym e) ∙ in_ball y less) (before_ball y k (omega arith)) in
      (w.0, w.1, w.2, omega (arith, distances-at_most w.0 k w.3, one-ahead w.0 y w.1 w.2 l m w.4), w.4)

  pub distances_are : 1 ≤ start → start ≤ n → Distances n out start (distances n out start)
  unfolding ball
  distances_are l m = record {
    here = let z = distances-at_most start 0 (one_holds start start l l ∙ eq-eqb start start refl) in omega (arith, z);
    alone = λ y p q z. eqb-true y start (sym (one_holds y start p l) ∙ ap (λ (k : ℕ). holds (round k) y) (sym z) ∙ in_ball y (omega (arith, z)));
    ahead = one-ahead;
    behind = one_behind;
  }

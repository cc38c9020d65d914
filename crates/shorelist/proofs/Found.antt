-- In a list the shore of a place weighs what stands beside it, and a shore that weighs something has a place. Assumes nothing.
use mathlib.Core.Path.{◌≡◌, sym, ap, ◌∙◌}
use mathlib.Core.Bool.{Bool, cond}
use mathlib.Core.Logic.{◌⊎◌, ⊎_elim}
use Prim.Native.Nat.{ℕ, ◌<◌}
use native.Mathlib.Omega.{arith}
use lib.Dec.{eqb}
use borrow.Author.Tests.{eqb-true, eq-eqb, ne_eqb}
use Rattle.laws.proofs.Booleans.{by_bool, cond_false}
use Rattle.laws.proofs.DoubleSums.{sum_found}
use Rattle.laws.proofs.Finite.{sum_ext, sum_one}
use Rattle.laws.proofs.Numbers.{compare-numbers}
use Rattle.shorelist.specs.Listed.{weight_in, Listed}

module _ (count : ℕ) (shores weights : ℕ → ℕ) (listed : Listed count shores weights) where
  alone_there : (i k : ℕ) → i < count → k < count → eqb (shores i) (shores k) ≡ eqb k i
  alone_there i k l m =
      ⊎_elim (λ (e : k ≡ i). eq-eqb (shores i) (shores k) (ap shores (sym e)) ∙ sym (eq-eqb k i e))
      (λ (o : (k < i) ⊎ (i < k)).
      ⊎_elim
      (λ (b : k < i). ne_eqb (shores i) (shores k) (λ e. omega (arith, listed.ascending k i b l)) ∙ sym (ne_eqb k i (λ e. omega arith)))
      (λ (b : i < k). ne_eqb (shores i) (shores k) (λ e. omega (arith, listed.ascending i k b m)) ∙ sym (ne_eqb k i (λ e. omega arith))) o)
      (compare-numbers k i)

  -- the shore of a place weighs what stands beside it
  pub weight_there : (i : ℕ) → i < count → weight_in count shores weights (shores i) ≡ weights i
  unfolding weight_in
  weight_there i l =
      sum_ext count (λ k. cond (eqb (shores i) (shores k)) (weights k) 0) (λ k. cond (eqb k i) (weights k) 0) (λ k m. ap (λ (b : Bool). cond b (weights k) 0) (alone_there i k l m))
      ∙ sum_one count weights i l

  -- a shore that weighs something has a place
  pub place_found : (s : ℕ) → 0 < weight_in count shores weights s → (i : ℕ) × (i < count) × (shores i ≡ s)
  unfolding weight_in
  place_found s h =
      let w = sum_found count (λ k. cond (eqb s (shores k)) (weights k) 0) h in
      by_bool (eqb s (shores w.0))
      (λ e. (w.0, w.1, sym (eqb-true s (shores w.0) e)))
      (λ e. absurd (omega (arith, w.2, cond_false (eqb s (shores w.0)) (weights w.0) 0 e)))

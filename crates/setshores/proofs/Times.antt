-- A weight of k on the shores of a set is k weights of 1. Assumes nothing.
use mathlib.Core.Path.{◌≡◌, refl, ◌∙◌}
use mathlib.Core.Bool.{Bool, true, false, cond}
use Prim.Native.Nat.{ℕ, zero, suc, ◌+◌}
use native.Mathlib.Omega.{arith}
use lib.Dec.{eqb}
use Rattle.laws.specs.Finite.{sum_below}
use Rattle.laws.proofs.Booleans.{cond-zero}
use Rattle.certificates.specs.Pieces.{piece}
use Rattle.certificates.specs.Cuts.{outside}
use Rattle.certificates.proofs.PieceSums.{over_ext, over_swap}
use Rattle.shorelist.specs.Listed.{alone}
use Rattle.setshores.specs.Shores.{components_weigh, classes_weigh}

cond_more : (b : Bool) (k : ℕ) → cond b (suc k) 0 ≡ cond b k 0 + cond b 1 0
cond_more true k = omega arith
cond_more false k = refl

alone_times : (shore s k : ℕ) → alone shore k s ≡ sum_below k (λ i. alone shore 1 s)
unfolding alone sum_below
alone_times shore s zero = cond-zero (eqb s shore) 0 refl
alone_times shore s (suc k) = omega (arith, cond_more (eqb s shore) k, alone_times shore s k)

module _ (n : ℕ) (links mates : ℕ → ℕ) (k s : ℕ) where
  components_times : (class : ℕ) → components_weigh n links class k s ≡ sum_below k (λ i. components_weigh n links class 1 s)
  unfolding components_weigh
  components_times class =
      over_ext n links (outside n class) (λ c. alone (outside n c) k s) (λ c. sum_below k (λ i. alone (outside n c) 1 s)) (λ a l m e. alone_times (outside n (piece n links (outside n class) a)) s k)
      ∙ over_swap n links (outside n class) k (λ i c. alone (outside n c) 1 s)

  pub classes_times : (set : ℕ) → classes_weigh n links mates set k s ≡ sum_below k (λ i. classes_weigh n links mates set 1 s)
  unfolding classes_weigh
  classes_times set =
      over_ext n mates set (λ class. components_weigh n links class k s) (λ class. sum_below k (λ i. components_weigh n links class 1 s)) (λ a l m e. components_times (piece n mates set a))
      ∙ over_swap n mates set k (λ i class. components_weigh n links class 1 s)

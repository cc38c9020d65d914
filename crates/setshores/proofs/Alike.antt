-- Adjacencies with the same arcs from junctions 1 to n have the same pieces, and their shores weigh the same. Assumes nothing.
use mathlib.Core.Path.{◌≡◌, refl, sym, ap, ap₂, ◌∙◌}
use mathlib.Core.Bool.{Bool, ◌&&◌, ◌||◌, not, cond}
use Prim.Native.Nat.{ℕ, zero, suc, ◌-◌, ◌^◌, ◌≤◌}
use native.Mathlib.Omega.{arith}
use lib.Bits.{bit_and}
use Rattle.laws.specs.Finite.{any_below, all_below}
use Rattle.laws.proofs.Agree.{any_ext}
use Rattle.laws.proofs.Finite.{sum_ext}
use Rattle.junctions.specs.Sets.{holds}
use Rattle.junctions.proofs.Gather.{gather_ext}
use Rattle.digraph.specs.Closure.{arc_from, widen, ball, closure}
use Rattle.certificates.specs.Pieces.{Mutual, inside, piece, leads, over_pieces}
use Rattle.certificates.specs.Cuts.{outside}
use Rattle.shorelist.specs.Listed.{alone}
use Rattle.setshores.specs.Shores.{components_weigh, classes_weigh}

module _ (n : ℕ) (out to : ℕ → ℕ) (same : (j : ℕ) → 1 ≤ j → j ≤ n → out j ≡ to j) where
  widen_alike : (s t : ℕ) → s ≡ t → widen n out s ≡ widen n to t
  unfolding widen arc_from
  widen_alike s t e =
      gather_ext n (λ y. holds s y || any_below n (λ k. holds s (suc k) && holds (out (suc k)) y)) (λ y. holds t y || any_below n (λ k. holds t (suc k) && holds (to (suc k)) y))
      (λ y l m. ap₂ ◌||◌ (ap (λ (a : ℕ). holds a y) e)
      (any_ext n (λ k. holds s (suc k) && holds (out (suc k)) y) (λ k. holds t (suc k) && holds (to (suc k)) y)
      (λ k b. ap₂ (λ (a : ℕ) (o : ℕ). holds a (suc k) && holds o y) e (same (suc k) (omega arith) (omega arith)))))

  ball_alike : (start k : ℕ) → ball n out start k ≡ ball n to start k
  unfolding ball
  ball_alike start zero = refl
  ball_alike start (suc k) = widen_alike (ball n out start k) (ball n to start k) (ball_alike start k)

module _ (n : ℕ) (out to : ℕ → ℕ) (same : (j : ℕ) → 1 ≤ j → j ≤ n → out j ≡ to j) where
  pub piece_alike : (w a : ℕ) → piece n out w a ≡ piece n to w a
  unfolding piece closure inside
  piece_alike w a = ball_alike n (inside w out) (inside w to) (λ j l m. ap (bit_and w) (same j l m)) (2 ^ (a - 1)) n

  all_alike : (k : ℕ) (s t : ℕ) → s ≡ t → all_below k (λ i. not (holds s (suc i))) ≡ all_below k (λ i. not (holds t (suc i)))
  all_alike k s t e = ap (λ (a : ℕ). all_below k (λ i. not (holds a (suc i)))) e

  pub over_alike : (w : ℕ) (f g : ℕ → ℕ) → ((c : ℕ) → f c ≡ g c) → over_pieces n out w f ≡ over_pieces n to w g
  unfolding over_pieces leads
  over_alike w f g like =
      sum_ext n (λ k. cond (leads n out w k) (f (piece n out w (suc k))) 0) (λ k. cond (leads n to w k) (g (piece n to w (suc k))) 0)
      (λ k l. ap₂ (λ (b : Bool) (m : ℕ). cond b m 0) (ap (λ (b : Bool). holds w (suc k) && b) (all_alike k (piece n out w (suc k)) (piece n to w (suc k)) (piece_alike w (suc k))))
      (like (piece n out w (suc k)) ∙ ap g (piece_alike w (suc k))))

  pub mutual_alike : Mutual n out → Mutual n to
  unfolding Mutual
  mutual_alike m a b la ma lb mb e =
      ap (λ (s : ℕ). holds s a) (sym (same b lb mb)) ∙ m a b la ma lb mb (ap (λ (s : ℕ). holds s b) (same a la ma) ∙ e)

module _ (n : ℕ) (links mates links' mates' : ℕ → ℕ) (same_links : (j : ℕ) → 1 ≤ j → j ≤ n → links j ≡ links' j) (same_mates : (j : ℕ) → 1 ≤ j → j ≤ n → mates j ≡ mates' j) where
  pub classes_alike : (set weight s : ℕ) → classes_weigh n links mates set weight s ≡ classes_weigh n links' mates' set weight s
  unfolding classes_weigh components_weigh
  classes_alike set weight s =
      over_alike n mates mates' same_mates set (λ class. components_weigh n links class weight s) (λ class. components_weigh n links' class weight s)
      (λ class. over_alike n links links' same_links (outside n class) (λ c. alone (outside n c) weight s) (λ c. alone (outside n c) weight s) (λ c. refl))

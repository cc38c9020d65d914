-- Length, total and entering rows of a choice, as sums over all rows of the hall. Assumes nothing.
use mathlib.Core.Path.{◌≡◌, refl, ap, ◌∙◌}
use mathlib.Core.Bool.{Bool, true, cond}
use mathlib.Core.List.{List, [], ◌∷◌}
use Prim.Native.Nat.{ℕ, suc}
use native.Mathlib.Omega.{arith}
use lib.ListN.{length}
use Rattle.laws.specs.Finite.{sum_below, one_if, count_below}
use Rattle.laws.proofs.Finite.{sum_ext}
use Rattle.hall.specs.Hall.{Hall, row, count, is_choice, member}
use Rattle.hall.specs.Plan.{total}
use Rattle.dicuts.specs.Listed.{listed}
use Rattle.dicuts.proofs.Choices.{over, over_members, choice_ascends, total_over}
use Rattle.dicuts.proofs.Listed.{listed_ascends, listed-member}

pub length_over : (c : List ℕ) → length c ≡ over (λ i. 1) c
unfolding over
length_over [] = refl
length_over (i ∷ is) = omega (arith, length_over is)

module _ (h : Hall) where
  -- a sum over a choice, and over a listed set
  pub over_choice : (f : ℕ → ℕ) (c : List ℕ) → is_choice h c ≡ true → over f c ≡ sum_below (count h) (λ k. cond (member (suc k) c) (f (suc k)) 0)
  over_choice f c e = over_members f 1 (count h) c (omega arith) (choice_ascends h c e)

  pub over_listed : (f : ℕ → ℕ) (F : ℕ → Bool) → over f (listed h F) ≡ sum_below (count h) (λ k. cond (F (suc k)) (f (suc k)) 0)
  over_listed f F =
      over_members f 1 (count h) (listed h F) (omega arith) (listed_ascends h F)
      ∙ sum_ext (count h) (λ k. cond (member (suc k) (listed h F)) (f (suc k)) 0) (λ k. cond (F (suc k)) (f (suc k)) 0)
      (λ k l. ap (λ (b : Bool). cond b (f (suc k)) 0) (listed-member h F (suc k) (omega arith) (omega arith)))

  pub listed-total : (F : ℕ → Bool) → total h (listed h F) ≡ sum_below (count h) (λ k. cond (F (suc k)) (row h (suc k)).price 0)
  listed-total F = total_over h (listed h F) ∙ over_listed (λ i. (row h i).price) F

  pub listed-count : (F : ℕ → Bool) → length (listed h F) ≡ count_below (count h) (λ k. F (suc k))
  unfolding count_below one_if
  listed-count F = length_over (listed h F) ∙ over_listed (λ i. 1) F

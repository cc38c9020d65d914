-- Sets of rows that differ in one row: what they are charged, and how often they enter a shore. Assumes nothing.
use mathlib.Core.Path.{◌≡◌, refl, sym, ap, ◌∙◌}
use mathlib.Core.Bool.{Bool, true, false}
use mathlib.Core.List.{List}
use Prim.Native.Nat.{ℕ, ◌+◌, ◌≤◌}
use native.Mathlib.Omega.{arith}
use lib.Dec.{eqb}
use borrow.Author.Tests.{eqb-true, eqb-false}
use Rattle.laws.specs.Finite.{one_if}
use Rattle.laws.proofs.Booleans.{by_bool, clash, cond_true, cond_false}
use Rattle.laws.proofs.Connectives.{one_true, one_false}
use Rattle.hall.specs.Hall.{Hall, row, count, enters, is_choice, member}
use Rattle.dicuts.specs.Shores.{cover, once}
use Rattle.dicuts.specs.Listed.{NoneFixed}
use Rattle.dicuts.proofs.Choices.{choice_unfixed}
use Rattle.potentials.specs.Potential.{cost}
use Rattle.potentials.specs.Flip.{put}
use Rattle.potentials.proofs.Starts.{cost_change}
use Rattle.potentials.proofs.Weights.{put_same, put_other, cover_step}
use Rattle.order.specs.Ranked.{charge}
use Rattle.order.proofs.Ranked.{charge_price}

module _ (h : Hall) (i : ℕ) (low : 1 ≤ i) (high : i ≤ count h) where
  -- with the row a set is charged its price more
  pub row-charged :
      (row h i).fixed ≡ false → (D G : ℕ → Bool) → D i ≡ false → G i ≡ true → ((k : ℕ) → (k ≡ i → ⊥) → D k ≡ G k) →
      cost h (charge h) D + (row h i).price ≡ cost h (charge h) G
  row-charged free D G out has same =
      omega (
        arith,
        cost_change h (charge h) (charge h) D G i low high (λ k d. refl) same,
        cond_false (D i) (charge h i) 0 out,
        cond_true (G i) (charge h i) 0 has,
        charge_price h i free,
      )

  -- and enters a shore that the row enters once more
  pub row-entering : (D : ℕ → Bool) → D i ≡ true → (s : ℕ) → cover h (once (put i false D)) s + one_if (enters s (row h i)) ≡ cover h (once D) s
  unfolding once
  row-entering D has s =
      cover_step h (once (put i false D)) (once D) i low high (λ k d. ap one_if (put_other i false D k d))
      (omega (arith, one_false (put i false D i) (put_same i false D), one_true (D i) has)) s

  -- a choice with the row put in or taken out has no fixed row
  module _ (c : List ℕ) (choice : is_choice h c ≡ true) where
    pub put_in-unfixed : (row h i).fixed ≡ false → NoneFixed h (put i true (λ k. member k c))
    put_in-unfixed free k l u t =
        by_bool (eqb k i) (λ e. ap (λ (j : ℕ). (row h j).fixed) (eqb-true k i e) ∙ free)
        (λ e. choice_unfixed h c k choice (sym (put_other i true (λ k. member k c) k (eqb-false k i e)) ∙ t))

    pub taken_out-unfixed : NoneFixed h (put i false (λ k. member k c))
    taken_out-unfixed k l u t =
        let F : ℕ → Bool = λ k. member k c in
        by_bool (eqb k i) (λ e. clash t (ap (put i false F) (eqb-true k i e) ∙ put_same i false F))
        (λ e. choice_unfixed h c k choice (sym (put_other i false F k (eqb-false k i e)) ∙ t))

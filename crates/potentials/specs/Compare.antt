-- Weights on tight shores that make up a potential, and the conditions on rows that may still change. Assumes nothing: these are definitions.
use Rattle.std.specs.Prelude.{◌≡◌, Bool, true, false, ◌&&◌, cond, ℕ, suc, ◌+◌, ◌^◌, ◌≤◌, ◌<◌}
use Rattle.laws.specs.Finite.{sum_below}
use Rattle.hall.specs.Hall.{Hall, row, count, enters}
use Rattle.dicuts.specs.Shores.{Tight}
use Rattle.potentials.specs.Potential.{gap}

-- how much of the weights a row meets: the sum over the shores that it enters
unfoldable pub rise : Hall → (w : ℕ → ℕ) → (i : ℕ) → ℕ
rise h w i = sum_below (2 ^ h.n) (λ s. cond (enters s (row h i)) (w s) 0)

-- WEIGHTS OF A POTENTIAL: only tight shores have any, and along each row the potential rises by those of the shores that it enters
pub record Weighs (h : Hall) (x p w : ℕ → ℕ) : Type 0 where
  pub on_tight : (s : ℕ) → s < 2 ^ h.n → 0 < w s → Tight h x s
  pub rises : (i : ℕ) → 1 ≤ i → i ≤ count h → rise h w i + p (row h i).from ≡ p (row h i).to

-- what ties costs and a potential to the rows F, on the movable rows alone
pub record Priced (h : Hall) (c p : ℕ → ℕ) (movable F : ℕ → Bool) : Type 0 where
  pub under : (i : ℕ) → 1 ≤ i → i ≤ count h → movable i ≡ true → p (row h i).to ≤ p (row h i).from + c i
  pub paid : (i : ℕ) → 1 ≤ i → i ≤ count h → movable i ≡ true → F i ≡ true → p (row h i).from + c i ≤ p (row h i).to

-- two sets of rows agree outside the movable rows
unfoldable pub Agree : Hall → (movable F G : ℕ → Bool) → Type 0
Agree h movable F G = (i : ℕ) → 1 ≤ i → i ≤ count h → movable i ≡ false → F i ≡ G i

-- the sum of the gaps of the movable rows of G
unfoldable pub gaps : Hall → (c p : ℕ → ℕ) → (movable G : ℕ → Bool) → ℕ
gaps h c p movable G = sum_below (count h) (λ k. cond (movable (suc k) && G (suc k)) (gap h c p (suc k)) 0)

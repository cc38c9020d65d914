-- The first number that passes a test. Assumes nothing: this is a definition.
use Rattle.std.specs.Prelude.{Bool, cond, ℕ, zero, suc}

-- the least number below the bound that passes, or the bound where none does
unfoldable pub first_below : (bound : ℕ) → (ℕ → Bool) → ℕ
first_below zero p = zero
first_below (suc k) p = cond (p zero) zero (suc (first_below k (λ i. p (suc i))))

-- Tests, counts and sums over all numbers below a bound. Assumes nothing: these are definitions.
use Rattle.std.specs.Prelude.{Bool, true, false, ◌&&◌, ◌||◌, cond, ℕ, zero, suc, ◌+◌}

-- every number below the bound passes
unfoldable pub all_below : (bound : ℕ) → (ℕ → Bool) → Bool
all_below zero p = true
all_below (suc k) p = all_below k p && p k

-- some number below the bound passes
unfoldable pub any_below : (bound : ℕ) → (ℕ → Bool) → Bool
any_below zero p = false
any_below (suc k) p = any_below k p || p k

-- the sum over all numbers below the bound
unfoldable pub sum_below : (bound : ℕ) → (ℕ → ℕ) → ℕ
sum_below zero f = 0
sum_below (suc k) f = sum_below k f + f k

-- 1 for a test that passes, else 0
unfoldable pub one_if : Bool → ℕ
one_if b = cond b 1 0

-- how many numbers below the bound pass
unfoldable pub count_below : (bound : ℕ) → (ℕ → Bool) → ℕ
count_below k p = sum_below k (λ i. one_if (p i))

-- Sums of functions that differ at one place. Assumes nothing.
use mathlib.Core.Path.{◌≡◌, ap}
use mathlib.Core.Logic.{⊎_elim}
use Prim.Native.Nat.{ℕ, zero, suc, ◌+◌, ◌≤◌, ◌<◌}
use native.Mathlib.Omega.{arith}
use lib.Dec.{leb}
use borrow.Author.Tests.{leb-true, leb-false}
use Rattle.laws.specs.Finite.{sum_below}
use Rattle.laws.proofs.Finite.{last_or_below, sum_le, sum_ext}
use Rattle.laws.proofs.Booleans.{by_bool}

-- one place changes by as much as the sum does
pub sum_change :
    (n : ℕ) (f g : ℕ → ℕ) (k a b : ℕ) → k < n → ((i : ℕ) → i < n → (i ≡ k → ⊥) → f i ≡ g i) → f k + a ≡ g k + b →
    sum_below n f + a ≡ sum_below n g + b
unfolding sum_below
sum_change zero f g k a b l same at = absurd (omega arith)
sum_change (suc n) f g k a b l same at =
    ⊎_elim
    (λ (e : k ≡ n).
    omega (arith, at, ap f e, ap g e, sum_ext n f g (λ i h. same i (omega arith) (λ q. omega arith))))
    (λ (m : k < n).
    omega (arith, same n (omega arith) (λ q. omega arith), sum_change n f g k a b m (λ i h q. same i (omega arith) q) at))
    (last_or_below k n l)

-- a sum that is nowhere larger, and smaller by a at one place, is smaller by a
pub sum_less :
    (n : ℕ) (f g : ℕ → ℕ) (k a : ℕ) → k < n → ((i : ℕ) → i < n → f i ≤ g i) → f k + a ≤ g k → sum_below n f + a ≤ sum_below n g
unfolding sum_below
sum_less zero f g k a l le at = absurd (omega arith)
sum_less (suc n) f g k a l le at =
    ⊎_elim (λ (e : k ≡ n). omega (arith, at, ap f e, ap g e, sum_le n f g (λ i h. le i (omega arith))))
    (λ (m : k < n). omega (arith, le n (omega arith), sum_less n f g k a m (λ i h. le i (omega arith)) at)) (last_or_below k n l)

-- a sum that has something has it where another sum has something
pub sum_some : (n : ℕ) (f g : ℕ → ℕ) → ((i : ℕ) → i < n → 1 ≤ f i → 1 ≤ g i) → 1 ≤ sum_below n f → 1 ≤ sum_below n g
unfolding sum_below
sum_some zero f g up s = s
sum_some (suc n) f g up s =
    by_bool (leb 1 (f n)) (λ t. omega (arith, up n (omega arith) (leb-true 1 (f n) t)))
    (λ t. omega (arith, sum_some n f g (λ i h. up i (omega arith)) (omega (arith, leb-false 1 (f n) t))))

-- The first number that passes does pass, and none before it does. Assumes nothing.
use mathlib.Core.Path.{◌≡◌}
use mathlib.Core.Bool.{Bool, true, false}
use Prim.Native.Nat.{ℕ, zero, suc, ◌<◌, ◌≤◌}
use native.Mathlib.Omega.{arith}
use lib.Dec.{ltb}
use borrow.Author.Tests.{ltb-true, ltb-false}
use Rattle.laws.specs.First.{first_below}
use Rattle.laws.proofs.Booleans.{by_bool, clash}

pub first_le : (n : ℕ) (p : ℕ → Bool) → first_below n p ≤ n
unfolding first_below
first_le zero p = omega arith
first_le (suc n) p = by_bool (p zero) (λ e. rw e (omega arith)) (λ e. rw e (omega (arith, first_le n (λ i. p (suc i)))))

pub first_passes : (n : ℕ) (p : ℕ → Bool) → first_below n p < n → p (first_below n p) ≡ true
unfolding first_below
first_passes zero p h = absurd (omega arith)
first_passes (suc n) p h =
    by_bool (p zero) (λ e. rw e e)
    (λ e. let less : suc (first_below n (λ i. p (suc i))) < suc n = rw e at h in
    rw e (first_passes n (λ i. p (suc i)) (omega (arith, less))))

pub first_least : (n : ℕ) (p : ℕ → Bool) (k : ℕ) → k < first_below n p → p k ≡ false
unfolding first_below
first_least zero p k h = absurd (omega arith)
first_least (suc n) p zero h = by_bool (p zero) (λ e. let none : 0 < 0 = rw e at h in absurd (omega (arith, none))) (λ e. e)
first_least (suc n) p (suc k) h =
    by_bool (p zero)
    (λ e. let none : suc k < 0 = rw e at h in absurd (omega (arith, none)))
    (λ e. let less : suc k < suc (first_below n (λ i. p (suc i))) = rw e at h in first_least n (λ i. p (suc i)) k (omega (arith, less)))

-- a number that passes is not before the first
pub first_at_most : (n : ℕ) (p : ℕ → Bool) (k : ℕ) → p k ≡ true → first_below n p ≤ k
first_at_most n p k t = by_bool (ltb k (first_below n p)) (λ e. clash t (first_least n p k (ltb-true k (first_below n p) e))) (λ e. ltb-false k (first_below n p) e)

-- one number more that fails
pub first_more : (n : ℕ) (p : ℕ → Bool) → (k : ℕ) → k < n → ((i : ℕ) → i < k → p i ≡ false) → p k ≡ true → first_below n p ≡ k
first_more n p k l none t =
    let low : first_below n p ≤ k = first_at_most n p k t in
    by_bool (ltb (first_below n p) k)
    (λ e. let m = ltb-true (first_below n p) k e in clash (first_passes n p (omega (arith, m))) (none (first_below n p) m))
    (λ e. omega (arith, low, ltb-false (first_below n p) k e))

pub first_none : (n : ℕ) (p : ℕ → Bool) → ((i : ℕ) → i < n → p i ≡ false) → first_below n p ≡ n
first_none n p none =
    by_bool (ltb (first_below n p) n)
    (λ e. let m = ltb-true (first_below n p) n e in clash (first_passes n p m) (none (first_below n p) m))
    (λ e. omega (arith, first_le n p, ltb-false (first_below n p) n e))

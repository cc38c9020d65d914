-- Sums of sums may be taken in either order, a sum over 0 has a place over 0, and the first place that passes a test. Assumes nothing.
use mathlib.Core.Path.{◌≡◌, refl, sym, ap, ◌∙◌}
use mathlib.Core.Bool.{Bool, true, false, cond}
use Prim.Native.Nat.{ℕ, zero, suc, ◌+◌, ◌*◌, ◌<◌, ◌≤◌}
use native.Mathlib.Omega.{arith}
use lib.Dec.{ltb}
use borrow.Author.Tests.{ltb-true, ltb-false}
use Rattle.laws.specs.Finite.{sum_below}
use Rattle.laws.proofs.Finite.{sum_add, sum-zero, decide_below, strong}

pub sum_swap : (n m : ℕ) (f : ℕ → ℕ → ℕ) → sum_below n (λ i. sum_below m (f i)) ≡ sum_below m (λ j. sum_below n (λ i. f i j))
unfolding sum_below
sum_swap zero m f = sym (sum-zero m (λ j. 0) (λ k l. refl))
sum_swap (suc n) m f =
    ap (λ (s : ℕ). s + sum_below m (f n)) (sum_swap n m f) ∙ sym (sum_add m (λ j. sum_below n (λ i. f i j)) (f n))

pub sum-cond : (b : Bool) (n : ℕ) (f : ℕ → ℕ) → cond b (sum_below n f) 0 ≡ sum_below n (λ k. cond b (f k) 0)
sum-cond true n f = refl
sum-cond false n f = sym (sum-zero n (λ k. 0) (λ k l. refl))

pub cond_add : (b : Bool) (x y : ℕ) → cond b (x + y) 0 ≡ cond b x 0 + cond b y 0
cond_add true x y = refl
cond_add false x y = refl

pub cond-cond : (a b : Bool) (x : ℕ) → cond a (cond b x 0) 0 ≡ cond b (cond a x 0) 0
cond-cond true b x = refl
cond-cond false true x = refl
cond-cond false false x = refl

pub sum_constant : (n m : ℕ) → sum_below n (λ k. m) ≡ n * m
unfolding sum_below
sum_constant zero m = omega arith
sum_constant (suc n) m = omega (arith, sum_constant n m)

-- a sum over 0 has a place over 0
pub sum_found : (n : ℕ) (f : ℕ → ℕ) → 0 < sum_below n f → (k : ℕ) × (k < n) × (0 < f k)
sum_found n f h =
    decide_below n (λ k. ltb 0 (f k)) (λ k l e. (k, l, ltb-true 0 (f k) e))
    (λ none. absurd (omega (arith, sum-zero n f (λ k l. let z = ltb-false 0 (f k) (none k l) in omega arith))))

-- the first place that passes
pub first_place : (p : ℕ → Bool) (k : ℕ) → p k ≡ true → (m : ℕ) × (m ≤ k) × (p m ≡ true) × ((i : ℕ) → i < m → p i ≡ false)
first_place p =
    strong (λ k. p k ≡ true → (m : ℕ) × (m ≤ k) × (p m ≡ true) × ((i : ℕ) → i < m → p i ≡ false))
    (λ k before e.
    decide_below k p
    (λ i l t. let w = before i l t in (w.0, omega arith, w.2, w.3))
    (λ none. (k, omega arith, e, none)))

-- Finite search decides, and sums add place by place. Assumes nothing.
use mathlib.Core.Path.{◌≡◌, refl, sym, ap, ◌∙◌}
use mathlib.Core.Bool.{Bool, true, false, cond}
use mathlib.Core.Logic.{◌⊎◌, inl, inr, ⊎_elim}
use Prim.Native.Nat.{ℕ, zero, suc, ◌+◌, ◌<◌, ◌≤◌}
use native.Mathlib.Omega.{arith}
use lib.Dec.{eqb}
use borrow.Author.Tests.{eq-eqb, ne_eqb}
use Rattle.laws.specs.Finite.{all_below, any_below, sum_below}
use Rattle.laws.proofs.Booleans.{by_bool, clash, and_l, and_r, and_i, or_cases, or_l, or_r, cond_true, cond_false}

-- k below suc n is n, or below n
pub last_or_below : (k n : ℕ) → k < suc n → (k ≡ n) ⊎ (k < n)
last_or_below zero zero h = inl refl
last_or_below zero (suc n) h = inr (omega arith)
last_or_below (suc k) zero h = absurd (omega arith)
last_or_below (suc k) (suc n) h = ⊎_elim (λ (e : k ≡ n). inl (ap suc e)) (λ (l : k < n). inr (omega arith)) (last_or_below k n (omega arith))

pub all_at : (n : ℕ) (p : ℕ → Bool) → all_below n p ≡ true → (k : ℕ) → k < n → p k ≡ true
unfolding all_below
all_at zero p t k h = absurd (omega arith)
all_at (suc n) p t k h =
    ⊎_elim (λ (e : k ≡ n). ap p e ∙ and_r (all_below n p) (p n) t)
    (λ (l : k < n). all_at n p (and_l (all_below n p) (p n) t) k l) (last_or_below k n h)

pub all_intro : (n : ℕ) (p : ℕ → Bool) → ((k : ℕ) → k < n → p k ≡ true) → all_below n p ≡ true
unfolding all_below
all_intro zero p f = refl
all_intro (suc n) p f = and_i (all_below n p) (p n) (all_intro n p (λ k h. f k (omega arith))) (f n (omega arith))

pub any_found : (n : ℕ) (p : ℕ → Bool) → any_below n p ≡ true → (k : ℕ) × (k < n) × (p k ≡ true)
unfolding any_below
any_found zero p t = clash t refl
any_found (suc n) p t =
    ⊎_elim (λ (e : any_below n p ≡ true). let w = any_found n p e in (w.0, omega arith, w.2))
    (λ (e : p n ≡ true). (n, omega arith, e)) (or_cases (any_below n p) (p n) t)

pub any_intro : (n : ℕ) (p : ℕ → Bool) (k : ℕ) → k < n → p k ≡ true → any_below n p ≡ true
unfolding any_below
any_intro zero p k h e = absurd (omega arith)
any_intro (suc n) p k h e =
    ⊎_elim (λ (q : k ≡ n). or_r (any_below n p) (p n) (sym (ap p q) ∙ e))
    (λ (l : k < n). or_l (any_below n p) (p n) (any_intro n p k l e)) (last_or_below k n h)

-- one below n passes, or none does
pub search_below : (n : ℕ) (p : ℕ → Bool) → ((k : ℕ) × (k < n) × (p k ≡ true)) ⊎ ((k : ℕ) → k < n → p k ≡ false)
search_below zero p = inr (λ k h. absurd (omega arith))
search_below (suc n) p =
    ⊎_elim (λ (w : (k : ℕ) × (k < n) × (p k ≡ true)). inl (w.0, omega arith, w.2))
    (λ (none : (k : ℕ) → k < n → p k ≡ false).
    by_bool (p n) (λ e. inl (n, omega arith, e))
    (λ e. inr (λ k h. ⊎_elim (λ (q : k ≡ n). ap p q ∙ e) (λ (l : k < n). none k l) (last_or_below k n h))))
    (search_below n p)

pub decide_below {ℓ} : {C : Type ℓ} (n : ℕ) (p : ℕ → Bool) → ((k : ℕ) → k < n → p k ≡ true → C) → (((k : ℕ) → k < n → p k ≡ false) → C) → C
decide_below n p yes_case no_case =
    ⊎_elim (λ (w : (k : ℕ) × (k < n) × (p k ≡ true)). yes_case w.0 w.1 w.2) (λ (none : (k : ℕ) → k < n → p k ≡ false). no_case none) (search_below n p)

-- sums
pub sum_ext : (n : ℕ) (f g : ℕ → ℕ) → ((k : ℕ) → k < n → f k ≡ g k) → sum_below n f ≡ sum_below n g
unfolding sum_below
sum_ext zero f g h = refl
sum_ext (suc n) f g h = omega (arith, sum_ext n f g (λ k l. h k (omega arith)), h n (omega arith))

pub sum_le : (n : ℕ) (f g : ℕ → ℕ) → ((k : ℕ) → k < n → f k ≤ g k) → sum_below n f ≤ sum_below n g
unfolding sum_below
sum_le zero f g h = omega arith
sum_le (suc n) f g h = omega (arith, sum_le n f g (λ k l. h k (omega arith)), h n (omega arith))

pub sum_add : (n : ℕ) (f g : ℕ → ℕ) → sum_below n (λ k. f k + g k) ≡ sum_below n f + sum_below n g
unfolding sum_below
sum_add zero f g = refl
sum_add (suc n) f g = omega (arith, sum_add n f g)

pub sum-zero : (n : ℕ) (f : ℕ → ℕ) → ((k : ℕ) → k < n → f k ≡ 0) → sum_below n f ≡ 0
unfolding sum_below
sum-zero zero f h = refl
sum-zero (suc n) f h = omega (arith, sum-zero n f (λ k l. h k (omega arith)), h n (omega arith))

pub sum-at_least : (n : ℕ) (f : ℕ → ℕ) (k : ℕ) → k < n → f k ≤ sum_below n f
unfolding sum_below
sum-at_least zero f k h = absurd (omega arith)
sum-at_least (suc n) f k h =
    ⊎_elim (λ (q : k ≡ n). omega (arith, ap f q)) (λ (l : k < n). omega (arith, sum-at_least n f k l)) (last_or_below k n h)

-- a sum with one place
pub sum_one : (n : ℕ) (f : ℕ → ℕ) (i : ℕ) → i < n → sum_below n (λ k. cond (eqb k i) (f k) 0) ≡ f i
unfolding sum_below
sum_one zero f i h = absurd (omega arith)
sum_one (suc n) f i h =
    ⊎_elim
    (λ (q : i ≡ n).
    let rest : sum_below n (λ k. cond (eqb k i) (f k) 0) ≡ 0 = sum-zero n (λ k. cond (eqb k i) (f k) 0) (λ k l. cond_false (eqb k i) (f k) 0 (ne_eqb k i (λ e. omega arith))) in
    let last : cond (eqb n i) (f n) 0 ≡ f n = cond_true (eqb n i) (f n) 0 (eq-eqb n i (sym q)) in
    omega (arith, ap f q))
    (λ (l : i < n).
    let last : cond (eqb n i) (f n) 0 ≡ 0 = cond_false (eqb n i) (f n) 0 (ne_eqb n i (λ e. omega arith)) in
    omega (arith, sum_one n f i l))
    (last_or_below i n h)

-- strong induction
strong_below {ℓ} : (P : ℕ → Type ℓ) → ((n : ℕ) → ((m : ℕ) → m < n → P m) → P n) → (k n : ℕ) → n < k → P n
strong_below P step zero n h = absurd (omega arith)
strong_below P step (suc k) n h = step n (λ m l. strong_below P step k m (omega arith))

pub strong {ℓ} : (P : ℕ → Type ℓ) → ((n : ℕ) → ((m : ℕ) → m < n → P m) → P n) → (n : ℕ) → P n
strong P step n = strong_below P step (suc n) n (omega arith)

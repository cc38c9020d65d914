-- Where more tests pass the count is larger, unless the same ones pass; and a number is less than its power of two. Assumes nothing.
use mathlib.Core.Path.{◌≡◌, sym, ap, ◌∙◌}
use mathlib.Core.Bool.{Bool, true, false, ◌&&◌, not}
use mathlib.Core.Logic.{◌⊎◌, inl, inr, ⊎_elim}
use Prim.Native.Nat.{ℕ, zero, suc, ◌^◌, ◌<◌, ◌≤◌}
use native.Mathlib.Nat.{pow-suc}
use native.Mathlib.Omega.{arith}
use borrow.Author.Tests.{not-true}
use Rattle.laws.specs.Finite.{sum_below, count_below}
use Rattle.laws.proofs.Booleans.{by_bool, clash, and_l, and_r, and_i, bool_ext}
use Rattle.laws.proofs.Connectives.{one_true, one_false}
use Rattle.laws.proofs.Counts.{one_mono, count_mono}
use Rattle.laws.proofs.Finite.{last_or_below, decide_below}

pub count_le : (n : ℕ) (p : ℕ → Bool) → count_below n p ≤ n
unfolding count_below sum_below
count_le zero p = omega arith
count_le (suc n) p =
    by_bool (p n) (λ e. omega (arith, one_true (p n) e, count_le n p)) (λ e. omega (arith, one_false (p n) e, count_le n p))

-- one more passes
pub count_less : (n : ℕ) (p q : ℕ → Bool) → ((k : ℕ) → k < n → p k ≡ true → q k ≡ true)
    → (k : ℕ) → k < n → p k ≡ false → q k ≡ true → count_below n p < count_below n q
unfolding count_below sum_below
count_less zero p q f k l a b = absurd (omega arith)
count_less (suc n) p q f k l a b =
    ⊎_elim
    (λ (e : k ≡ n). omega (arith, one_false (p n) (sym (ap p e) ∙ a), one_true (q n) (sym (ap q e) ∙ b), count_mono n p q (λ i m. f i (omega arith))))
    (λ (m : k < n). omega (arith, count_less n p q (λ i o. f i (omega arith)) k m a b, one_mono (p n) (q n) (f n (omega arith))))
    (last_or_below k n l)

pub same_or_less : (n : ℕ) (p q : ℕ → Bool) → ((k : ℕ) → k < n → p k ≡ true → q k ≡ true)
    → ((k : ℕ) → k < n → q k ≡ p k) ⊎ (count_below n p < count_below n q)
same_or_less n p q f =
    decide_below n (λ k. not (p k) && q k)
    (λ k l t. inr (count_less n p q f k l (not-true (p k) (and_l (not (p k)) (q k) t)) (and_r (not (p k)) (q k) t)))
    (λ none. inl (λ k l. bool_ext (q k) (p k) (λ t. by_bool (p k) (λ e. e) (λ e. clash (and_i (not (p k)) (q k) (ap not e) t) (none k l))) (f k l)))

pub lt_two_pow : (n : ℕ) → n < 2 ^ n
lt_two_pow zero = omega arith
lt_two_pow (suc n) = omega (arith, lt_two_pow n, pow-suc 2 n)

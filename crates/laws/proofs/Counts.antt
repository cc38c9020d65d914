-- Sums over two ranges and in reverse, and how many numbers pass a test that is put together from others. Assumes nothing.
use mathlib.Core.Path.{◌≡◌, refl, sym, ap, ◌∙◌}
use mathlib.Core.Bool.{Bool, true, false, ◌&&◌, ◌||◌}
use mathlib.Core.Logic.{⊎_elim}
use Prim.Native.Nat.{ℕ, zero, suc, ◌+◌, ◌<◌, ◌≤◌}
use native.Mathlib.Nat.{add-suc, add-zero}
use native.Mathlib.Omega.{arith}
use lib.Dec.{eqb}
use borrow.Author.Tests.{eq-eqb, ne_eqb}
use Rattle.laws.specs.Finite.{sum_below, one_if, count_below}
use Rattle.laws.proofs.Booleans.{by_bool, not_true_false}
use Rattle.laws.proofs.Connectives.{one_modular}
use Rattle.laws.proofs.Finite.{last_or_below, sum_ext, sum_le, sum-zero, sum_add}

-- a sum over a range, and over what follows it
pub sum_split : (a b : ℕ) (f : ℕ → ℕ) → sum_below (a + b) f ≡ sum_below a f + sum_below b (λ k. f (a + k))
unfolding sum_below
sum_split a zero f = rw (add-zero a) (omega arith)
sum_split a (suc b) f = rw add-suc (omega (arith, sum_split a b f))

-- the first place apart
pub sum_head : (n : ℕ) (f : ℕ → ℕ) → sum_below (suc n) f ≡ f 0 + sum_below n (λ k. f (suc k))
unfolding sum_below
sum_head zero f = omega arith
sum_head (suc n) f = omega (arith, sum_head n f)

-- in reverse: place k of one is the mirror place of the other
pub sum_mirror : (n : ℕ) (f g : ℕ → ℕ) → ((k l : ℕ) → k + suc l ≡ n → f k ≡ g l) → sum_below n f ≡ sum_below n g
unfolding sum_below
sum_mirror zero f g h = refl
sum_mirror (suc n) f g h =
    omega (arith, sum_head n g, sum_mirror n f (λ l. g (suc l)) (λ k l e. h k (suc l) (omega arith)), h n 0 (omega arith))

-- of two tests: as many pass one as pass the other, together, as pass either and both, together
pub count_or_and : (n : ℕ) (p q : ℕ → Bool) → count_below n p + count_below n q ≡ count_below n (λ k. p k || q k) + count_below n (λ k. p k && q k)
unfolding count_below
count_or_and n p q =
    sym (sum_add n (λ k. one_if (p k)) (λ k. one_if (q k)))
    ∙ sum_ext n (λ k. one_if (p k) + one_if (q k)) (λ k. one_if (p k || q k) + one_if (p k && q k)) (λ k l. omega (arith, one_modular (p k) (q k)))
    ∙ sum_add n (λ k. one_if (p k || q k)) (λ k. one_if (p k && q k))

pub one_mono : (a b : Bool) → (a ≡ true → b ≡ true) → one_if a ≤ one_if b
unfolding one_if
one_mono true b h = rw (h refl) (omega arith)
one_mono false b h = omega arith

pub count_ext : (n : ℕ) (p q : ℕ → Bool) → ((k : ℕ) → k < n → p k ≡ q k) → count_below n p ≡ count_below n q
unfolding count_below
count_ext n p q h = sum_ext n (λ k. one_if (p k)) (λ k. one_if (q k)) (λ k l. ap one_if (h k l))

pub count_mono : (n : ℕ) (p q : ℕ → Bool) → ((k : ℕ) → k < n → p k ≡ true → q k ≡ true) → count_below n p ≤ count_below n q
unfolding count_below
count_mono n p q h = sum_le n (λ k. one_if (p k)) (λ k. one_if (q k)) (λ k l. one_mono (p k) (q k) (h k l))

pub count_none : (n : ℕ) (p : ℕ → Bool) → ((k : ℕ) → k < n → p k ≡ false) → count_below n p ≡ 0
unfolding count_below one_if
count_none n p h = sum-zero n (λ k. one_if (p k)) (λ k l. ap one_if (h k l))

-- a test that no two numbers pass
pub count-alone : (n : ℕ) (p : ℕ → Bool) → ((s t : ℕ) → s < n → t < n → p s ≡ true → p t ≡ true → s ≡ t) → count_below n p ≤ 1
unfolding count_below sum_below one_if
count-alone zero p h = omega arith
count-alone (suc n) p h =
    by_bool (p n)
    (λ e. rw e (omega (arith, count_none n p (λ k l. not_true_false (p k) (λ q. omega (arith, h k n (omega arith) (omega arith) q e))))))
    (λ e. rw e (omega (arith, count-alone n p (λ s t ls lt. h s t (omega arith) (omega arith)))))

-- one number more passes
pub count_insert : (n a : ℕ) (p : ℕ → Bool) → a < n → p a ≡ false → count_below n (λ k. eqb a k || p k) ≡ suc (count_below n p)
unfolding count_below sum_below one_if
count_insert zero a p h e = absurd (omega arith)
count_insert (suc n) a p h e =
    ⊎_elim
    (λ (q : a ≡ n).
    let low : count_below n (λ k. eqb a k || p k) ≡ count_below n p =
    count_ext n (λ k. eqb a k || p k) p (λ k l. rw (ne_eqb a k (λ z. omega arith))) in
    rw (eq-eqb a n q, sym (ap p q) ∙ e) (omega (arith, low)))
    (λ (l : a < n). rw (ne_eqb a n (λ z. omega arith)) (omega (arith, count_insert n a p l e)))
    (last_or_below a n h)

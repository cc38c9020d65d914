-- What each operation on sets holds, and that sets with the same junctions are the same. Assumes nothing.
use mathlib.Core.Path.{◌≡◌, sym, ap, ap₂, ◌∙◌}
use mathlib.Core.Bool.{Bool, true, false, ◌&&◌, ◌||◌, not, cond}
use Prim.Native.Nat.{ℕ, zero, suc, ◌+◌, ◌-◌, ◌*◌, ◌^◌, ◌≤◌, ◌<◌}
use native.Mathlib.Nat.{pow-suc, add-zero}
use native.Mathlib.Omega.{arith}
use mathlib.Core.Logic.{⊎_elim}
use lib.Dec.{eqb, leb}
use lib.Bits.{bit_and, bit_or, bit_xor, or_add_and}
use lib.Count.{count_trailing_zeros}
use lib.Pow.{ones_lt}
use borrow.Author.Tests.{eq-eqb, ne_eqb, eqb-true, eqb-false}
use Rattle.laws.proofs.Finite.{last_or_below}
use Rattle.laws.proofs.Booleans.{by_bool, clash, bool_ext}
use Rattle.junctions.specs.Sets.{holds, full, with_junction, gather, Within, Lowest}
use Rattle.junctions.proofs.Bits.{bit, bit_lt, and_bit, or_bit, xor_bit, and_eqb, or_eqb, less_eqb, pow_bit, same_eqb, full_bit, bits_ext, high_bit, top_one, low_same, bit_of_zero, and_pow, trailing_bit, trailing_low, trailing_lt}
use lib.Bits.{differ}

pub and_holds : (a b j : ℕ) → holds (bit_and a b) j ≡ (holds a j && holds b j)
unfolding holds
and_holds a b j = ap (λ (n : ℕ). eqb n 1) (and_bit a b (j - 1)) ∙ and_eqb _ _ (bit_lt a (j - 1)) (bit_lt b (j - 1))

pub or_holds : (a b j : ℕ) → holds (bit_or a b) j ≡ (holds a j || holds b j)
unfolding holds
or_holds a b j = ap (λ (n : ℕ). eqb n 1) (or_bit a b (j - 1)) ∙ or_eqb _ _ (bit_lt a (j - 1)) (bit_lt b (j - 1))

-- a ^ (a & b) is a without b
pub less_holds : (a b j : ℕ) → holds (bit_xor a (bit_and a b)) j ≡ (holds a j && not (holds b j))
unfolding holds
less_holds a b j =
    ap (λ (n : ℕ). eqb n 1) (xor_bit a (bit_and a b) (j - 1) ∙ ap (λ (n : ℕ). differ (bit a (j - 1)) n) (and_bit a b (j - 1)))
    ∙ less_eqb _ _ (bit_lt a (j - 1)) (bit_lt b (j - 1))

pub none_holds : (j : ℕ) → holds 0 j ≡ false
unfolding holds
none_holds j = ne_eqb (bit 0 (j - 1)) 1 (λ e. omega (arith, bit_of_zero (j - 1)))

-- the set of one junction
pub one_holds : (i j : ℕ) → 1 ≤ i → 1 ≤ j → holds (2 ^ (j - 1)) i ≡ eqb i j
unfolding holds
one_holds i j hi hj = ap (λ (n : ℕ). eqb n 1) (pow_bit (j - 1) (i - 1)) ∙ same_eqb (i - 1) (j - 1) ∙ ap₂ eqb e1 e2
  where
    e1 : suc (i - 1) ≡ i
    e1 = omega arith

    e2 : suc (j - 1) ≡ j
    e2 = omega arith

pub full-holds : (n j : ℕ) → 1 ≤ j → holds (full n) j ≡ leb j n
unfolding holds full
full-holds n j h = full_bit n (j - 1) ∙ ap (λ (m : ℕ). leb m n) e
  where
    e : suc (j - 1) ≡ j
    e = omega arith

pub full_lt : (n : ℕ) → full n < 2 ^ n
unfolding full
full_lt n = ones_lt n

-- a set of junctions 1 to n holds no other
pub high_holds : (n s j : ℕ) → s < 2 ^ n → n < j → holds s j ≡ false
unfolding holds
high_holds n s j h l = ne_eqb (bit s (j - 1)) 1 (λ e. omega (arith, high_bit n s (j - 1) h (omega arith)))

pub within_full : (n s : ℕ) → s < 2 ^ n → Within s (full n)
unfolding Within
within_full n s h j l t =
    full-holds n j l ∙ by_bool (leb j n) (λ e. e) (λ e. clash t (high_holds n s j h (omega (arith, borrow.Author.Tests.leb-false j n e))))

bit_of_holds : (s t k : ℕ) → eqb (bit s k) 1 ≡ eqb (bit t k) 1 → bit s k ≡ bit t k
bit_of_holds s t k e =
    by_bool (eqb (bit s k) 1)
    (λ p. omega (arith, eqb-true (bit s k) 1 p, eqb-true (bit t k) 1 (sym e ∙ p)))
    (λ p. omega (arith, bit_lt s k, bit_lt t k, eqb-false (bit s k) 1 p, eqb-false (bit t k) 1 (sym e ∙ p)))

-- sets with the same junctions are the same
pub sets_ext : (n s t : ℕ) → s < 2 ^ n → t < 2 ^ n → ((j : ℕ) → 1 ≤ j → j ≤ n → holds s j ≡ holds t j) → s ≡ t
unfolding holds
sets_ext n s t hs ht h = bits_ext n s t hs ht (λ k l. bit_of_holds s t k (at k l))
  where
    at : (k : ℕ) → k < n → eqb (bit s k) 1 ≡ eqb (bit t k) 1
    at k l = let e : suc k - 1 ≡ k = omega arith in rw e at (h (suc k) (omega arith) (omega arith))

pub within_both : (n s t : ℕ) → s < 2 ^ n → t < 2 ^ n → Within s t → Within t s → s ≡ t
unfolding Within
within_both n s t hs ht f g = sets_ext n s t hs ht (λ j l m. bool_ext (holds s j) (holds t j) (f j l) (g j l))

-- a set that is not empty holds a junction
pub lowest_is : (s : ℕ) → 0 < s → s < 2 ^ 64 → Lowest s (count_trailing_zeros 64 s + 1)
unfolding holds
lowest_is s p h =
    let e : count_trailing_zeros 64 s + 1 - 1 ≡ count_trailing_zeros 64 s = omega arith in
    record {
      in_it = eq-eqb (bit s (count_trailing_zeros 64 s + 1 - 1)) 1 (ap (bit s) e ∙ trailing_bit 64 s p h);
      from_one = omega arith;
      to_last = omega (arith, trailing_lt 64 s p h);
      least = λ i l m. ne_eqb (bit s (i - 1)) 1 (λ q. omega (arith, trailing_low 64 s (i - 1) (omega arith), q));
    }

pub some_junction : (n s : ℕ) → 0 < s → s < 2 ^ n → (j : ℕ) × (1 ≤ j) × (j ≤ n) × (holds s j ≡ true)
unfolding holds
some_junction n s p h =
    let t = count_trailing_zeros n s in
    let e : t + 1 - 1 ≡ t = omega arith in
    (t + 1, omega arith, omega (arith, trailing_lt n s p h), eq-eqb (bit s (t + 1 - 1)) 1 (ap (bit s) e ∙ trailing_bit n s p h))

-- with_junction, as the code's s | (1 << (j - 1)), and what it holds
or_one : (s o p k : ℕ) → p < 2 → o + p * 2 ^ k ≡ s + 2 ^ k → o ≡ cond (eqb p 1) s (s + 2 ^ k)
or_one s o zero k h e = omega arith
or_one s o (suc zero) k h e = omega arith
or_one s o (suc (suc p)) k h e = absurd (omega arith)

pub or_with : (j s : ℕ) → bit_or s (2 ^ (j - 1)) ≡ with_junction j s
unfolding holds with_junction
or_with j s = or_one s (bit_or s (2 ^ (j - 1))) (bit s (j - 1)) (j - 1) (bit_lt s (j - 1)) (omega (arith, or_add_and s (2 ^ (j - 1)), and_pow s (j - 1)))

pub with_holds : (i j s : ℕ) → 1 ≤ i → 1 ≤ j → holds (with_junction j s) i ≡ (holds s i || eqb i j)
with_holds i j s hi hj =
    ap (λ (m : ℕ). holds m i) (sym (or_with j s)) ∙ or_holds s (2 ^ (j - 1)) i ∙ ap (λ (b : Bool). holds s i || b) (one_holds i j hi hj)

-- the set that a test gathers
pub gather_lt : (n : ℕ) (p : ℕ → Bool) → gather n p < 2 ^ n
unfolding gather
gather_lt zero p = omega arith
gather_lt (suc n) p = by_bool (p (suc n)) (λ e. rw e (omega (arith, gather_lt n p, pow-suc 2 n))) (λ e. rw e (omega (arith, gather_lt n p, pow-suc 2 n)))

gather_top : (n : ℕ) (p : ℕ → Bool) → holds (gather (suc n) p) (suc n) ≡ p (suc n)
unfolding gather holds
gather_top n p =
    let e : suc n - 1 ≡ n = omega arith in
    by_bool (p (suc n))
    (λ t. rw (t, e) (eq-eqb (bit (gather n p + 2 ^ n) n) 1 (top_one n (gather n p) (gather_lt n p))))
    (λ t. rw (t, e) (ne_eqb (bit (gather n p + 0) n) 1 (λ q. omega (arith, ap (λ (m : ℕ). bit m n) (add-zero (gather n p)), high_bit n (gather n p) n (gather_lt n p) (omega arith)))))

gather_low : (n : ℕ) (p : ℕ → Bool) (j : ℕ) → 1 ≤ j → j ≤ n → holds (gather (suc n) p) j ≡ holds (gather n p) j
unfolding gather holds
gather_low n p j l m =
    by_bool (p (suc n))
    (λ t. rw t (ap (λ (k : ℕ). eqb k 1) (low_same n (gather n p) (j - 1) (omega arith))))
    (λ t. rw t (ap (λ (k : ℕ). eqb (bit k (j - 1)) 1) (add-zero (gather n p))))

pub gather-holds : (n : ℕ) (p : ℕ → Bool) (j : ℕ) → 1 ≤ j → j ≤ n → holds (gather n p) j ≡ p j
gather-holds zero p j l m = absurd (omega arith)
gather-holds (suc n) p j l m =
    ⊎_elim (λ (e : j ≡ suc n). rw e (gather_top n p))
    (λ (k : j < suc n). gather_low n p j l (omega arith) ∙ gather-holds n p j l (omega arith)) (last_or_below j (suc n) (omega arith))

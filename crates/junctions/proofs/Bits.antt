-- Bit by bit: what and, or, xor, powers and shifts do to one bit. Assumes nothing.
use mathlib.Core.Path.{◌≡◌, refl, sym, ap, ◌∙◌}
use mathlib.Core.Bool.{◌&&◌, ◌||◌, not}
use mathlib.Core.Logic.{◌⊎◌, inl, inr, ⊎_elim}
use Prim.Native.Nat.{ℕ, zero, suc, ◌+◌, ◌-◌, ◌*◌, ◌/◌, ◌%◌, ◌^◌, ◌≤◌, ◌<◌, min, max}
use native.Mathlib.Nat.{pow-suc, mod-lt, zero-lt-suc}
use native.Mathlib.Numerals.{one-add}
use native.Mathlib.Omega.{arith}
use lib.Dec.{eqb, leb, eqb-suc-suc, leb-zero, leb-suc-zero, leb-suc-suc}
use lib.Count.{count_trailing_zeros, under}
use lib.Pow.{shr-shr, shl_exact, pow_pos}
use lib.Bits.{bit_and, bit_or, bit_xor, differ, and_step, or_step, xor_step, and_shr, or_shr, xor_shr, and_high, and_self}
use borrow.Author.Tests.{ne_eqb}

abbrev pub bit : (s k : ℕ) → ℕ
bit s k = s / 2 ^ k % 2

pub bit_lt : (s k : ℕ) → bit s k < 2
bit_lt s k = mod-lt (s / 2 ^ k) (zero-lt-suc 1)

pub bit_suc : (s k : ℕ) → bit s (suc k) ≡ bit (s / 2) k
bit_suc s k = ap (λ (n : ℕ). n % 2) (ap (λ (m : ℕ). s / 2 ^ m) (sym (one-add k)) ∙ sym (shr-shr s 1 k))

pub bit_of_zero : (k : ℕ) → bit 0 k ≡ 0
bit_of_zero zero = refl
bit_of_zero (suc k) = bit_suc 0 k ∙ bit_of_zero k

-- one bit of each operation
pub and_bit : (a b k : ℕ) → bit (bit_and a b) k ≡ min (bit a k) (bit b k)
and_bit a b k = rw (and_shr a b k) (omega (arith, and_step (a / 2 ^ k) (b / 2 ^ k)))

pub or_bit : (a b k : ℕ) → bit (bit_or a b) k ≡ max (bit a k) (bit b k)
or_bit a b k = rw (or_shr a b k) (omega (arith, or_step (a / 2 ^ k) (b / 2 ^ k)))

differ_lt : (p q : ℕ) → p < 2 → q < 2 → differ p q < 2
differ_lt zero q hp hq = hq
differ_lt (suc p) zero hp hq = hp
differ_lt (suc p) (suc q) hp hq = differ_lt p q (omega arith) (omega arith)

pub xor_bit : (a b k : ℕ) → bit (bit_xor a b) k ≡ differ (bit a k) (bit b k)
xor_bit a b k =
    rw (xor_shr a b k) (omega (arith, xor_step (a / 2 ^ k) (b / 2 ^ k), differ_lt (bit a k) (bit b k) (bit_lt a k) (bit_lt b k)))

-- the same as tests, for two bits
pub and_eqb : (p q : ℕ) → p < 2 → q < 2 → eqb (min p q) 1 ≡ (eqb p 1 && eqb q 1)
and_eqb zero zero hp hq = refl
and_eqb zero (suc zero) hp hq = refl
and_eqb zero (suc (suc q)) hp hq = absurd (omega arith)
and_eqb (suc zero) zero hp hq = refl
and_eqb (suc zero) (suc zero) hp hq = refl
and_eqb (suc zero) (suc (suc q)) hp hq = absurd (omega arith)
and_eqb (suc (suc p)) q hp hq = absurd (omega arith)

pub or_eqb : (p q : ℕ) → p < 2 → q < 2 → eqb (max p q) 1 ≡ (eqb p 1 || eqb q 1)
or_eqb zero zero hp hq = refl
or_eqb zero (suc zero) hp hq = refl
or_eqb zero (suc (suc q)) hp hq = absurd (omega arith)
or_eqb (suc zero) zero hp hq = refl
or_eqb (suc zero) (suc zero) hp hq = refl
or_eqb (suc zero) (suc (suc q)) hp hq = absurd (omega arith)
or_eqb (suc (suc p)) q hp hq = absurd (omega arith)

-- p and not q, as p xor (p and q)
pub less_eqb : (p q : ℕ) → p < 2 → q < 2 → eqb (differ p (min p q)) 1 ≡ (eqb p 1 && not (eqb q 1))
less_eqb zero zero hp hq = refl
less_eqb zero (suc zero) hp hq = refl
less_eqb zero (suc (suc q)) hp hq = absurd (omega arith)
less_eqb (suc zero) zero hp hq = refl
less_eqb (suc zero) (suc zero) hp hq = refl
less_eqb (suc zero) (suc (suc q)) hp hq = absurd (omega arith)
less_eqb (suc (suc p)) q hp hq = absurd (omega arith)

-- powers and full words
abbrev pub same : (i k : ℕ) → ℕ
same zero zero = 1
same zero (suc k) = 0
same (suc i) zero = 0
same (suc i) (suc k) = same i k

pub same_eqb : (i k : ℕ) → eqb (same i k) 1 ≡ eqb (suc i) (suc k)
same_eqb zero zero = refl
same_eqb zero (suc k) = sym (ne_eqb 1 (suc (suc k)) (λ e. omega arith))
same_eqb (suc i) zero = sym (ne_eqb (suc (suc i)) 1 (λ e. omega arith))
same_eqb (suc i) (suc k) = same_eqb i k ∙ sym (eqb-suc-suc (suc i) (suc k))

pub pow_bit : (k i : ℕ) → bit (2 ^ k) i ≡ same i k
pow_bit zero zero = refl
pow_bit zero (suc i) = bit_suc 1 i ∙ bit_of_zero i
pow_bit (suc k) zero = omega (arith, pow-suc 2 k)
pow_bit (suc k) (suc i) = bit_suc (2 ^ suc k) i ∙ ap (λ (n : ℕ). bit n i) half ∙ pow_bit k i
  where
    half : 2 ^ suc k / 2 ≡ 2 ^ k
    half = omega (arith, pow-suc 2 k)

abbrev below : (k n : ℕ) → ℕ
below k zero = 0
below zero (suc n) = 1
below (suc k) (suc n) = below k n

full_bit_below : (n k : ℕ) → bit (2 ^ n - 1) k ≡ below k n
full_bit_below zero k = bit_of_zero k
full_bit_below (suc n) zero = let odd : (2 ^ suc n - 1) % 2 ≡ 1 = omega (arith, pow-suc 2 n, pow_pos n) in omega arith
full_bit_below (suc n) (suc k) =
    let half : (2 ^ suc n - 1) / 2 ≡ 2 ^ n - 1 = omega (arith, pow-suc 2 n, pow_pos n) in
    bit_suc (2 ^ suc n - 1) k ∙ ap (λ (m : ℕ). bit m k) half ∙ full_bit_below n k

below_leb : (k n : ℕ) → eqb (below k n) 1 ≡ leb (suc k) n
below_leb k zero = sym (leb-suc-zero k)
below_leb zero (suc n) = sym (leb-suc-suc 0 n ∙ leb-zero n)
below_leb (suc k) (suc n) = below_leb k n ∙ sym (leb-suc-suc (suc k) n)

pub full_bit : (n k : ℕ) → eqb (bit (2 ^ n - 1) k) 1 ≡ leb (suc k) n
full_bit n k = ap (λ (m : ℕ). eqb m 1) (full_bit_below n k) ∙ below_leb k n

-- two numbers with the same bits are the same
pub bits_ext : (n a b : ℕ) → a < 2 ^ n → b < 2 ^ n → ((k : ℕ) → k < n → bit a k ≡ bit b k) → a ≡ b
bits_ext zero a b ha hb h = omega arith
bits_ext (suc n) a b ha hb h =
    let up : a / 2 ≡ b / 2 =
    bits_ext n (a / 2) (b / 2) (omega (arith, pow-suc 2 n)) (omega (arith, pow-suc 2 n))
    (λ k l. sym (bit_suc a k) ∙ h (suc k) (omega arith) ∙ bit_suc b k) in
    let low : a / 1 % 2 ≡ b / 1 % 2 = h 0 (omega arith) in
    omega arith

-- a number below a power has no bit from there on
pub high_bit : (n a k : ℕ) → a < 2 ^ n → n ≤ k → bit a k ≡ 0
high_bit zero a k h l = let e : a ≡ 0 = omega arith in ap (λ (m : ℕ). bit m k) e ∙ bit_of_zero k
high_bit (suc n) a zero h l = absurd (omega arith)
high_bit (suc n) a (suc k) h l = bit_suc a k ∙ high_bit n (a / 2) k (omega (arith, pow-suc 2 n)) (omega arith)

-- a power put on top of a smaller number is its top bit, and leaves the lower ones
pub top_one : (n a : ℕ) → a < 2 ^ n → bit (a + 2 ^ n) n ≡ 1
top_one zero a h = omega arith
top_one (suc n) a h =
    let half : (a + 2 ^ suc n) / 2 ≡ a / 2 + 2 ^ n = omega (arith, pow-suc 2 n) in
    bit_suc (a + 2 ^ suc n) n ∙ ap (λ (m : ℕ). bit m n) half ∙ top_one n (a / 2) (omega (arith, pow-suc 2 n))

pub low_same : (n a k : ℕ) → k < n → bit (a + 2 ^ n) k ≡ bit a k
low_same zero a k h = absurd (omega arith)
low_same (suc n) a zero h = omega (arith, pow-suc 2 n)
low_same (suc n) a (suc k) h =
    let half : (a + 2 ^ suc n) / 2 ≡ a / 2 + 2 ^ n = omega (arith, pow-suc 2 n) in
    bit_suc (a + 2 ^ suc n) k ∙ ap (λ (m : ℕ). bit m k) half ∙ low_same n (a / 2) k (omega arith) ∙ sym (bit_suc a k)

-- the code's 1 << k
pub one_shl : (k : ℕ) → k < 64 → (1 * 2 ^ k) % 2 ^ 64 ≡ 2 ^ k
one_shl k h = shl_exact 1 k 64 (omega arith) (omega arith) ∙ omega arith

pub and_pow : (s k : ℕ) → bit_and s (2 ^ k) ≡ bit s k * 2 ^ k
and_pow s k = ap (bit_and s) e ∙ and_high s 1 k
  where
    e : 2 ^ k ≡ 2 ^ (1 + k) - 2 ^ k
    e = omega (arith, ap (λ (m : ℕ). 2 ^ m) (one-add k) ∙ pow-suc 2 k)

-- the lowest bit, by count_trailing_zeros
under_zero : (d t : ℕ) → d ≡ 0 → under d t ≡ suc t
under_zero d t e = ap (λ (x : ℕ). under x t) e

under_one : (d t : ℕ) → d ≡ 1 → under d t ≡ 0
under_one d t e = ap (λ (x : ℕ). under x t) e

odd_or_even : (n : ℕ) → (n % 2 ≡ 0) ⊎ (n % 2 ≡ 1)
odd_or_even n = go (n % 2) refl
  where
    go : (d : ℕ) → n % 2 ≡ d → (n % 2 ≡ 0) ⊎ (n % 2 ≡ 1)
    go zero e = inl e
    go (suc zero) e = inr e
    go (suc (suc d)) e = absurd (omega (arith, bit_lt n 0))

pub trailing_bit : (k n : ℕ) → 0 < n → n < 2 ^ k → bit n (count_trailing_zeros k n) ≡ 1
unfolding count_trailing_zeros
trailing_bit zero n p h = absurd (omega arith)
trailing_bit (suc k) n p h =
    ⊎_elim
    (λ (e : n % 2 ≡ 0). ap (bit n) (under_zero (n % 2) (count_trailing_zeros k (n / 2)) e) ∙ bit_suc n (count_trailing_zeros k (n / 2))
    ∙ trailing_bit k (n / 2) (omega arith) (omega (arith, pow-suc 2 k)))
    (λ (e : n % 2 ≡ 1). ap (bit n) (under_one (n % 2) (count_trailing_zeros k (n / 2)) e) ∙ omega arith)
    (odd_or_even n)

pub trailing_low : (k n i : ℕ) → i < count_trailing_zeros k n → bit n i ≡ 0
unfolding count_trailing_zeros
trailing_low zero n i h = absurd (omega arith)
trailing_low (suc k) n zero h =
    ⊎_elim (λ (e : n % 2 ≡ 0). omega arith) (λ (e : n % 2 ≡ 1). absurd (omega (arith, under_one (n % 2) (count_trailing_zeros k (n / 2)) e))) (odd_or_even n)
trailing_low (suc k) n (suc i) h =
    ⊎_elim
    (λ (e : n % 2 ≡ 0). bit_suc n i ∙ trailing_low k (n / 2) i (omega (arith, under_zero (n % 2) (count_trailing_zeros k (n / 2)) e)))
    (λ (e : n % 2 ≡ 1). absurd (omega (arith, under_one (n % 2) (count_trailing_zeros k (n / 2)) e)))
    (odd_or_even n)

pub trailing_lt : (k n : ℕ) → 0 < n → n < 2 ^ k → count_trailing_zeros k n < k
unfolding count_trailing_zeros
trailing_lt zero n p h = absurd (omega arith)
trailing_lt (suc k) n p h =
    ⊎_elim
    (λ (e : n % 2 ≡ 0). omega (arith, under_zero (n % 2) (count_trailing_zeros k (n / 2)) e, trailing_lt k (n / 2) (omega arith) (omega (arith, pow-suc 2 k))))
    (λ (e : n % 2 ≡ 1). omega (arith, under_one (n % 2) (count_trailing_zeros k (n / 2)) e))
    (odd_or_even n)

-- s & (s - 1) is s without its lowest bit
pub clear_lowest : (k s : ℕ) → 0 < s → s < 2 ^ k → bit_and s (s - 1) ≡ s - 2 ^ count_trailing_zeros k s
unfolding count_trailing_zeros
clear_lowest zero s p h = absurd (omega arith)
clear_lowest (suc k) s p h =
    ⊎_elim
    (λ (e : s % 2 ≡ 0).
    let t : ℕ = count_trailing_zeros k (s / 2) in
    let half : (s - 1) / 2 ≡ s / 2 - 1 = omega arith in
    let rec : bit_and (s / 2) (s / 2 - 1) ≡ s / 2 - 2 ^ t = clear_lowest k (s / 2) (omega arith) (omega (arith, pow-suc 2 k)) in
    let z : 2 ^ under (s % 2) t ≡ 2 ^ suc t = ap (λ (n : ℕ). 2 ^ n) (under_zero (s % 2) t e) in
    omega (arith, and_step s (s - 1), ap (bit_and (s / 2)) half, rec, z, pow-suc 2 t))
    (λ (e : s % 2 ≡ 1).
    let t : ℕ = count_trailing_zeros k (s / 2) in
    let half : (s - 1) / 2 ≡ s / 2 = omega arith in
    let z : 2 ^ under (s % 2) t ≡ 2 ^ 0 = ap (λ (n : ℕ). 2 ^ n) (under_one (s % 2) t e) in
    omega (arith, and_step s (s - 1), ap (bit_and (s / 2)) half, and_self (s / 2), z))
    (odd_or_even s)

-- Decimal numbers: what `itoa` writes is `decimal`, and how many digits there are. Assumes nothing.
use mathlib.Core.Path.{◌≡◌, sym, ap, ◌∙◌}
use mathlib.Core.Bool.{Bool, cond}
use mathlib.Core.List.{List, [], ◌∷◌, ◌++◌}
use Prim.Native.Nat.{ℕ, zero, suc, ◌/◌, ◌%◌, ◌+◌, ◌^◌, ◌≤◌, ◌<◌}
use native.Mathlib.Nat.{pow-suc}
use native.Mathlib.Omega.{arith}
use borrow.Author.Tests.{ltb-true, ltb-false, lt-ltb, le-ltb}
use lib.Dec.{ltb}
use lib.IntN.{ℤ, pos, negsuc}
use lib.ListN.{length, length-append}
use lib.Signed.{mag}
use mir.Syntax.{w32}
use mir.Val.{SFits, to_z, of_z}
use mir.ValLaws.{to_z-of_z}
use Rattle.std.specs.Fmt as fmt
use Rattle.std.proofs.lemmas.Fmt.{decimal_by_steps}
use Rattle.laws.proofs.Booleans.{by_bool}
use Rattle.lines.specs.Lines.{digits, decimal, level_text, level_item}

digits_small : (k n : ℕ) → n < 10 → digits (suc k) n ≡ (48 + n) ∷ []
unfolding digits
digits_small k n h = ap (λ (t : Bool). cond t ((48 + n) ∷ []) (digits k (n / 10) ++ (48 + n % 10) ∷ [])) (lt-ltb n 10 h)

digits_large : (k n : ℕ) → 10 ≤ n → digits (suc k) n ≡ digits k (n / 10) ++ (48 + n % 10) ∷ []
unfolding digits
digits_large k n h = ap (λ (t : Bool). cond t ((48 + n) ∷ []) (digits k (n / 10) ++ (48 + n % 10) ∷ [])) (le-ltb n 10 h)

-- more room changes nothing
digits_same : (j k n : ℕ) → n < j → n < k → digits j n ≡ digits k n
digits_same zero k n p q = absurd (omega arith)
digits_same (suc j) zero n p q = absurd (omega arith)
digits_same (suc j) (suc k) n p q =
    by_bool (ltb n 10) (λ e. digits_small j n (ltb-true n 10 e) ∙ sym (digits_small k n (ltb-true n 10 e)))
    (λ e.
    let big : 10 ≤ n = ltb-false n 10 e in
    digits_large j n big ∙ ap (λ (l : List ℕ). l ++ (48 + n % 10) ∷ []) (digits_same j k (n / 10) (omega arith) (omega arith)) ∙ sym (digits_large k n big))

pub decimal_small : (n : ℕ) → n < 10 → decimal n ≡ (48 + n) ∷ []
unfolding decimal
decimal_small n h = digits_small n n h

pub decimal_large : (n : ℕ) → 10 ≤ n → decimal n ≡ decimal (n / 10) ++ (48 + n % 10) ∷ []
unfolding decimal
decimal_large n h = digits_large n n h ∙ ap (λ (l : List ℕ). l ++ (48 + n % 10) ∷ []) (digits_same n (suc (n / 10)) (n / 10) (omega arith) (omega arith))

-- the digits that std and `itoa` write
pub decimal_is : (n : ℕ) → n < 2 ^ 64 → fmt.decimal n ≡ decimal n
unfolding decimal
decimal_is n h = sym (decimal_by_steps (λ m ds. decimal m ≡ ds) decimal_small (λ m ds l e. decimal_large m l ∙ ap (λ (x : List ℕ). x ++ (48 + m % 10) ∷ []) e) n h)

level_text_is : (z : ℤ) → mag z < 2 ^ 63 → fmt.signed_decimal z ≡ level_text z
unfolding level_text
level_text_is (pos n) h = decimal_is n (omega arith)
level_text_is (negsuc n) h = ap (λ (l : List ℕ). 45 ∷ l) (decimal_is (suc n) (omega arith))

-- the digits that `itoa` writes for a level
pub level_digits : (z : ℤ) → SFits w32 z → (ds : List ℕ) → ds ≡ fmt.signed_decimal (to_z w32 (of_z w32 z)) → ds ≡ level_text z
level_digits z h ds e = e ∙ ap fmt.signed_decimal (to_z-of_z w32 z h) ∙ level_text_is z (omega (arith, h.sfits))

-- a number below 10 to the power k has at most k digits, for k from 1
pub decimal-length : (k n : ℕ) → n < 10 ^ suc k → length (decimal n) ≤ suc k
decimal-length zero n h = omega (arith, ap length (decimal_small n (omega (arith, pow-suc 10 0))))
decimal-length (suc k) n h =
    by_bool (ltb n 10) (λ e. omega (arith, ap length (decimal_small n (ltb-true n 10 e))))
    (λ e.
    let big : 10 ≤ n = ltb-false n 10 e in
    let fewer : length (decimal (n / 10)) ≤ suc k = decimal-length k (n / 10) (omega (arith, pow-suc 10 (suc k))) in
    omega (arith, ap length (decimal_large n big), length-append (decimal (n / 10)) ((48 + n % 10) ∷ [])))

-- numbers of 8, 32 and 64 bits have at most 3, 10 and 20 digits
pub byte_length : (n : ℕ) → n < 2 ^ 8 → length (decimal n) ≤ 3
byte_length n h = decimal-length 2 n (omega arith)

pub word_length : (n : ℕ) → n < 2 ^ 32 → length (decimal n) ≤ 10
word_length n h = decimal-length 9 n (omega arith)

pub wide_length : (n : ℕ) → n < 2 ^ 64 → length (decimal n) ≤ 20
wide_length n h = decimal-length 19 n (omega arith)

-- a level and the space before it have at most 12 bytes
pub level_short : (z : ℤ) → SFits w32 z → length (level_item z) ≤ 12
unfolding level_item level_text
level_short (pos n) h = omega (arith, h.sfits, word_length n (omega (arith, h.sfits)))
level_short (negsuc n) h = omega (arith, word_length (suc n) (omega (arith, h.sfits)))

-- what the writers of several numbers stand on
pub ruleset short_numbers = (byte_length, word_length, length-append)

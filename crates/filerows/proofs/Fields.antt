-- A little-endian number, taken from its last byte to its first. Assumes nothing.
use mathlib.Core.Path.{◌≡◌, ap, ◌∙◌}
use mathlib.Core.List.{List}
use Prim.Native.Nat.{ℕ, suc, ◌+◌, ◌-◌, ◌*◌, ◌^◌, ◌<◌, ◌≤◌}
use native.Mathlib.Omega.{arith}
use lib.ListN.{get_or, length, take, drop}
use lib.Seq.{drop-cons}
use lib.Pow.{pow-add, pow_mono}
use Rattle.hall.specs.File.{value, field}

-- no bytes
pub field_none : (bs : List ℕ) (a n : ℕ) → n ≡ 0 → field a n bs ≡ 0
unfolding field value
field_none bs a n e = ap (λ (k : ℕ). value (take k (drop a bs))) e

-- the first byte and the rest
pub field_more : (bs : List ℕ) (a n : ℕ) → a < length bs → field a (suc n) bs ≡ get_or bs a 0 + 256 * field (suc a) n bs
unfolding field value
field_more bs a n h = ap (λ (l : List ℕ). value (take (suc n) l)) (drop-cons bs a 0 h)

-- one more byte in front of those from byte i of w bytes on
pub field_back : (bs : List ℕ) (a i w : ℕ) → 0 < i → i ≤ w → a + w ≤ length bs
    → field (a + (i - 1)) (w - (i - 1)) bs ≡ get_or bs (a + (i - 1)) 0 + 256 * field (a + i) (w - i) bs
field_back bs a i w p q r =
    let n : w - (i - 1) ≡ suc (w - i) = omega arith in
    let f : suc (a + (i - 1)) ≡ a + i = omega arith in
    rw n (field_more bs (a + (i - 1)) (w - i) (omega arith) ∙ ap (λ (k : ℕ). get_or bs (a + (i - 1)) 0 + 256 * field k (w - i) bs) f)

-- it stays below its width's power
pub byte_more : (i w v b : ℕ) → 0 < i → i ≤ w → v < 2 ^ (8 * (w - i)) → b < 256 → b + 256 * v < 2 ^ (8 * (w - (i - 1)))
byte_more i w v b p q h g =
    let n : 8 * (w - (i - 1)) ≡ 8 * (w - i) + 8 = omega arith in
    let f : 2 ^ (8 * (w - (i - 1))) ≡ 2 ^ (8 * (w - i)) * 256 = ap (λ (k : ℕ). 2 ^ k) n ∙ pow-add 2 (8 * (w - i)) 8 in
    omega arith

pub eight_bytes : (i w : ℕ) → w ≤ 8 → 2 ^ (8 * (w - i)) ≤ 2 ^ 64
eight_bytes i w h = pow_mono {i = 8 * (w - i)} {j = 64} (omega arith)

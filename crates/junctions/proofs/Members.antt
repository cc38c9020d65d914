-- A set that holds a junction is not empty, one that lacks a junction is not the whole hall, and the other way round. Assumes nothing.
use mathlib.Core.Path.{◌≡◌, ap, ◌∙◌}
use mathlib.Core.Bool.{true, false, ◌&&◌}
use Prim.Native.Nat.{ℕ, zero, suc, ◌^◌, ◌≤◌, ◌<◌}
use native.Mathlib.Omega.{arith}
use lib.Bits.{bit_and, and_le_l, and_le_r}
use lib.Dec.{ltb}
use lib.Pow.{le_ones}
use borrow.Author.Tests.{le-leb, ltb-true, ltb-false}
use Rattle.laws.proofs.Booleans.{by_bool, clash, and_l, and_i, bool_ext}
use Rattle.laws.proofs.Growth.{lt_two_pow}
use Rattle.junctions.specs.Sets.{holds, full, Within}
use Rattle.junctions.proofs.Sets.{none_holds, full-holds, sets_ext, and_holds}

pub holds_some : (s j : ℕ) → holds s j ≡ true → 0 < s
holds_some zero j e = clash e (none_holds j)
holds_some (suc s) j e = omega arith

pub full_in : (n j : ℕ) → 1 ≤ j → j ≤ n → holds (full n) j ≡ true
full_in n j l m = full-holds n j l ∙ le-leb j n m

pub le_full : (n s : ℕ) → s < 2 ^ n → s ≤ full n
unfolding full
le_full n s h = le_ones n h

pub lacks_proper : (n s j : ℕ) → s < 2 ^ n → 1 ≤ j → j ≤ n → holds s j ≡ false → s < full n
lacks_proper n s j h l m e =
    by_bool (ltb s (full n)) (λ t. ltb-true s (full n) t)
    (λ t.
    let whole : s ≡ full n = omega (arith, le_full n s h, ltb-false s (full n) t) in
    clash (ap (λ (r : ℕ). holds r j) whole ∙ full_in n j l m) e)

-- a set within another is at most that number
pub within_le : (a s : ℕ) → Within a s → a ≤ s
unfolding Within
within_le a s w =
    let same : bit_and a s ≡ a =
    sets_ext a (bit_and a s) a (omega (arith, and_le_l a s, lt_two_pow a)) (lt_two_pow a)
    (λ j l m.
    and_holds a s j
    ∙ bool_ext (holds a j && holds s j) (holds a j) (and_l (holds a j) (holds s j)) (λ e. and_i (holds a j) (holds s j) e (w j l e))) in
    omega (arith, and_le_r a s)

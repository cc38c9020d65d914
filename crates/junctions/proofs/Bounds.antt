-- A set is less than 2 to the power n exactly if its junctions are of 1 to n. Assumes nothing.
use mathlib.Core.Path.{◌≡◌, sym, ◌∙◌}
use mathlib.Core.Bool.{true}
use Prim.Native.Nat.{ℕ, ◌+◌, ◌^◌, ◌≤◌, ◌<◌}
use native.Mathlib.Omega.{arith}
use lib.Dec.{leb}
use lib.Pow.{pow_mono}
use borrow.Author.Tests.{leb-true, leb-false}
use Rattle.laws.proofs.Booleans.{by_bool, clash, not_true_false}
use Rattle.laws.proofs.Growth.{lt_two_pow}
use Rattle.junctions.specs.Sets.{holds, full, gather, Within}
use Rattle.junctions.proofs.Sets.{full-holds, high_holds, gather_lt, gather-holds, sets_ext}

pub junction_le : (n s j : ℕ) → s < 2 ^ n → holds s j ≡ true → j ≤ n
junction_le n s j h t =
    by_bool (leb j n) (λ e. leb-true j n e) (λ e. clash t (high_holds n s j h (omega (arith, leb-false j n e))))

pub within_full_lt : (n s : ℕ) → Within s (full n) → s < 2 ^ n
unfolding Within
within_full_lt n s w = rw same (gather_lt n (holds s))
  where
    low : (j : ℕ) → 1 ≤ j → holds s j ≡ true → j ≤ n
    low j l t = leb-true j n (sym (full-holds n j l) ∙ w j l t)

    at : (j : ℕ) → 1 ≤ j → j ≤ n + s → holds s j ≡ holds (gather n (holds s)) j
    at j l m =
        by_bool (leb j n)
        (λ e. sym (gather-holds n (holds s) j l (leb-true j n e)))
        (λ e. not_true_false (holds s j) (λ t. omega (arith, low j l t, leb-false j n e))
        ∙ sym (high_holds n (gather n (holds s)) j (gather_lt n (holds s)) (leb-false j n e)))

    same : s ≡ gather n (holds s)
    same =
        sets_ext (n + s) s (gather n (holds s))
        (omega (arith, lt_two_pow s, pow_mono {i = s} {j = n + s} (omega arith)))
        (omega (arith, gather_lt n (holds s), pow_mono {i = n} {j = n + s} (omega arith)))
        at

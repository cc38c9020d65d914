-- How long the lines are. Assumes nothing.
use Prim.Native.Nat.{ℕ, zero, suc, ◌+◌, ◌*◌, ◌^◌, ◌≤◌, ◌<◌}
use mathlib.Core.List.{List}
use native.Mathlib.Omega.{arith}
use lib.ListN.{length, length-append}
use Rattle.laws.proofs.Booleans.{by_bool}
use Rattle.junctions.specs.Sets.{holds}
use Rattle.hall.specs.Plan.{cut}
use Rattle.lines.specs.Lines.{text, item, number_line, pair_line, four_line, set_text, cut_line}
use Rattle.lines.proofs.Decimal.{decimal-length, byte_length, word_length, wide_length}

-- a row's line has at most 30 bytes
pub four_line_short : (a b c d : ℕ) → a < 2 ^ 32 → b < 2 ^ 8 → c < 2 ^ 8 → d < 2 ^ 32 → length (four_line a b c d) ≤ 30
unfolding four_line text item
four_line_short a b c d p q r s =
    simp length-append (omega (arith, word_length a p, byte_length b q, byte_length c r, word_length d s))

-- a junction of 1 to 99 takes at most 3 bytes
pub set_short : (k j s : ℕ) → j + k ≤ 100 → length (set_text k j s) ≤ 3 * k
unfolding set_text item
set_short zero j s h = omega arith
set_short (suc k) j s h =
    let rest : length (set_text k (suc j) s) ≤ 3 * k = set_short k (suc j) s (omega arith) in
    by_bool (holds s j)
    (λ e. rw e (simp length-append (omega (arith, decimal-length 1 j (omega arith)))))
    (λ e. rw e (omega arith))

-- a cut's line has at most 203 bytes
pub cut_line_short : (n s w : ℕ) → n ≤ 64 → w < 2 ^ 32 → length (cut_line n (cut s w)) ≤ 203
unfolding cut_line cut text
cut_line_short n s w h q = simp length-append (omega (arith, word_length w q, set_short n 1 s (omega arith)))

-- lines of numbers of 64 bits
pub number_line_short : (w : List ℕ) (a : ℕ) → a < 2 ^ 64 → length (number_line w a) ≤ length w + 21
unfolding number_line text
number_line_short w a h = simp length-append (omega (arith, wide_length a h))

pub pair_line_short : (w : List ℕ) (a b : ℕ) → a < 2 ^ 64 → b < 2 ^ 64 → length (pair_line w a b) ≤ length w + 42
unfolding pair_line text item
pair_line_short w a b h g = simp length-append (omega (arith, wide_length a h, wide_length b g))

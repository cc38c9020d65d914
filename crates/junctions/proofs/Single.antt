-- The set of one junction: it is a set of junctions 1 to n, within every set that holds the junction, and every set that meets it holds the junction. Assumes nothing.
use mathlib.Core.Path.{◌≡◌, refl, sym, ap, ◌∙◌}
use mathlib.Core.Bool.{true}
use Prim.Native.Nat.{ℕ, ◌-◌, ◌^◌, ◌≤◌, ◌<◌}
use native.Mathlib.Omega.{arith}
use lib.Bits.{bit_and, and_le_l}
use lib.Pow.{pow-lt}
use borrow.Author.Tests.{eq-eqb, eqb-true}
use Rattle.laws.proofs.Booleans.{and_l, and_r}
use Rattle.junctions.specs.Sets.{holds, Within}
use Rattle.junctions.proofs.Sets.{one_holds, and_holds, some_junction}

pub one_lt : (n j : ℕ) → 1 ≤ j → j ≤ n → 2 ^ (j - 1) < 2 ^ n
one_lt n j l m = pow-lt {i = j - 1} {j = n} (omega arith)

pub one_self : (j : ℕ) → 1 ≤ j → holds (2 ^ (j - 1)) j ≡ true
one_self j l = one_holds j j l l ∙ eq-eqb j j refl

pub one_within : (s j : ℕ) → 1 ≤ j → holds s j ≡ true → Within (2 ^ (j - 1)) s
unfolding Within
one_within s j l t i m e = ap (holds s) (eqb-true i j (sym (one_holds i j m l) ∙ e)) ∙ t

-- a set that meets it holds the junction
pub one_met : (n s j : ℕ) → s < 2 ^ n → 1 ≤ j → (bit_and s (2 ^ (j - 1)) ≡ 0 → ⊥) → holds s j ≡ true
one_met n s j fits l met =
    let w = some_junction n (bit_and s (2 ^ (j - 1))) (omega (arith, met)) (omega (arith, fits, and_le_l s (2 ^ (j - 1)))) in
    let both = sym (and_holds s (2 ^ (j - 1)) w.0) ∙ w.3 in
    let own : w.0 ≡ j = eqb-true w.0 j (sym (one_holds w.0 j w.1 l) ∙ and_r (holds s w.0) (holds (2 ^ (j - 1)) w.0) both) in
    ap (holds s) (sym own) ∙ and_l (holds s w.0) (holds (2 ^ (j - 1)) w.0) both

-- From every set something is reached, however many junctions the arcs lead to. Assumes nothing.
use mathlib.Core.Path.{subst}
use mathlib.Core.Bool.{cond}
use Prim.Native.Nat.{ℕ, zero, suc, ◌+◌, ◌^◌, ◌≤◌, ◌<◌}
use native.Mathlib.Omega.{arith}
use lib.Dec.{leb, eqb}
use lib.Pow.{pow_pos, pow_mono}
use borrow.Author.Tests.{eqb-true, eqb-false, leb-true, le-leb}
use Rattle.laws.proofs.Booleans.{by_bool, clash, cond_true}
use Rattle.laws.proofs.Growth.{lt_two_pow}
use Rattle.junctions.specs.Sets.{Within}
use Rattle.junctions.proofs.Sets.{none_holds}
use Rattle.digraph.specs.Reach.{Closed, Reach}
use Rattle.digraph.specs.Closure.{closure}
use Rattle.digraph.proofs.Closure.{closure_reach}

-- some width has all that the arcs of n junctions lead to
width : (out : ℕ → ℕ) (n : ℕ) → (w : ℕ) × (n ≤ w) × ((j : ℕ) → 1 ≤ j → j ≤ n → out j < 2 ^ w)
width out zero = (0, omega arith, λ j l m. absurd (omega arith))
width out (suc n) =
    let up = width out n in
    let last = out (suc n) in
    let w = up.0 + last + 1 in (
      w,
      omega (arith, up.1),
      λ j l m.
          by_bool (eqb j (suc n)) (λ e. rw (eqb-true j (suc n) e) (omega (arith, lt_two_pow last, pow_mono {i = last} {j = w} (omega arith))))
          (λ e. omega (arith, up.2 j l (omega (arith, eqb-false j (suc n) e)), pow_mono {i = up.0} {j = w} (omega arith))),
    )

pub reach_some : (n : ℕ) (out : ℕ → ℕ) (start : ℕ) → start < 2 ^ n → (s : ℕ) × Reach n out start s
unfolding Closed Within
reach_some n out start few =
    let wide = width out n in
    let w = wide.0 in
    let own : (j : ℕ) → ℕ = λ j. cond (leb j n) (out j) 0 in
    let s = closure w own start in
    let reach : Reach w own start s =
    closure_reach w own start (omega (arith, few, pow_mono {i = n} {j = w} wide.1))
    (λ j l m. by_bool (leb j n) (λ e. rw e (wide.2 j l (leb-true j n e))) (λ e. rw e (pow_pos w))) in (
      s,
      record {
        contains = reach.contains;
        closed = λ j l m t.
            subst (λ (to : ℕ). Within to s) (cond_true (leb j n) (out j) 0 (le-leb j n m)) (reach.closed j l (omega (arith, wide.1)) t);
        least = λ t c d.
            reach.least t c
            (λ j l m e. by_bool (leb j n) (λ q. rw q (d j l (leb-true j n q) e)) (λ q. rw q (λ i li none. clash none (none_holds i))));
      },
    )

-- A potential raised on a set, junction by junction. Assumes nothing.
use mathlib.Core.Path.{◌≡◌, refl, ap, ◌∙◌}
use mathlib.Core.Bool.{true, false, and-true}
use mathlib.Core.List.{List}
use Prim.Native.Nat.{ℕ, suc, ◌+◌, ◌-◌, ◌^◌, ◌≤◌, ◌<◌}
use native.Mathlib.Omega.{arith}
use lib.Dec.{eqb}
use lib.ListN.{get_or, length, set}
use lib.Seq.{get_or-set_same, get_or-set_other}
use borrow.Author.Tests.{eqb-true, eqb-false}
use Rattle.laws.specs.Lists.{at}
use Rattle.laws.proofs.Booleans.{by_bool}
use Rattle.laws.proofs.Lists.{at-suc}
use Rattle.laws.proofs.Connectives.{and_false_r}
use Rattle.junctions.specs.Sets.{holds}
use Rattle.junctions.specs.Taking.{Taken}
use Rattle.junctions.proofs.Sets.{none_holds}
use Rattle.junctions.proofs.Taking.{taken_in, taken_left}
use Rattle.potentials.specs.ZeroGraph.{raised}

-- a raise of what fits is one that fits
pub raised_fits : (z by : ℕ) (potential : List ℕ) (j : ℕ) → ((k : ℕ) → get_or potential k 0 + by < 2 ^ 64) → raised z by (at potential) j < 2 ^ 64
unfolding raised
raised_fits z by potential j fits =
    by_bool (holds z j) (λ e. rw e (fits (j - 1))) (λ e. rw e (omega (arith, fits (j - 1))))

-- a junction of the set is still to be raised
pub raised_here : (z by : ℕ) (next : List ℕ) (j : ℕ) → holds z (suc j) ≡ true → raised z by (at next) (suc j) ≡ get_or next j 0 + by
unfolding raised
raised_here z by next j here = rw (here, at-suc next j) refl

-- one junction raised: what is left to raise gives the same
pub raised_more :
    {left low rest : ℕ} → Taken left low rest → (by : ℕ) (next : List ℕ) → length next ≡ 64 → (j : ℕ) → 1 ≤ j →
    raised rest by (at (set next low (get_or next low 0 + by))) j ≡ raised left by (at next) j
unfolding raised
raised_more {left} {low} {rest} t by next size j l =
    by_bool (eqb j (suc low))
    (λ e.
    let q : j ≡ suc low = eqb-true j (suc low) e in
    let back : j - 1 ≡ low = omega arith in
    let here : holds left j ≡ true = ap (holds left) q ∙ taken_in t in
    rw (taken_left t j l, e, and_false_r (holds left j) false refl, here, back) (get_or-set_same next low (get_or next low 0 + by) 0 (omega (arith, size, t.in_range))))
    (λ e.
    let other : j - 1 ≡ low → ⊥ = λ q. eqb-false j (suc low) e (omega arith) in
    rw (taken_left t j l, e, and-true (holds left j), get_or-set_other next low (j - 1) (get_or next low 0 + by) 0 other) refl)

pub raised_none : (left by : ℕ) (next : List ℕ) (j : ℕ) → left ≡ 0 → raised left by (at next) j ≡ at next j
unfolding raised
raised_none left by next j none = rw (none, none_holds j) refl

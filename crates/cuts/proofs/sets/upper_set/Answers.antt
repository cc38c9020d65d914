-- Each turn gathers one junction more, and after n of them the set is the upper set. Assumes nothing.
use mathlib.Core.Path.{◌≡◌, refl, ap, ◌∙◌}
use Prim.Native.Nat.{ℕ, suc}
use native.Mathlib.Omega.{arith}
use borrow.Author.Tests.{le-leb, lt-leb}
use Rattle.laws.specs.Lists.{at}
use Rattle.junctions.specs.Sets.{gather}
use Rattle.certificates.specs.Cuts.{upper}
use Rattle.setshores.proofs.Columns.{place_next}
use Rattle.cuts.proofs.Gathering.{gather_with, gather-without}
use Rattle.cuts.proofs.sets.upper_set.Invariants.{high}
use Rattle.cuts.proofs.sets.upper_set.Goals as goal
use Rattle.cuts.proofs.sets.upper_set.Goals.{then-threshold-potential, else-threshold-potential}

pub loop-k-init : goal.loop-k-init
unfolding gather
loop-k-init c = refl

pub loop-k-preserved : goal.loop-k-preserved
loop-k-preserved c =
    let k = c.loop-k.k in
    let high_enough = high c.args.potential.now c.args.threshold in
    let value = place_next c.args.potential.now k in
    elim c.if-threshold-potential.branch [
      | then-threshold-potential w ↦ w.set-is ∙ gather_with high_enough k c.loop-k.set (omega arith) c.loop-k.invariant (le-leb c.args.threshold (at c.args.potential.now (suc k)) (omega (arith, value, w.if-threshold-potential.true)))
      | else-threshold-potential w ↦ w.set-is ∙ gather-without high_enough k c.loop-k.set c.loop-k.invariant (lt-leb c.args.threshold (at c.args.potential.now (suc k)) (omega (arith, value, w.if-threshold-potential.false)))
    ]

pub returns : goal.returns
unfolding upper
returns c = let l = c.loop-k in let a = c.args in let e : l.k ≡ a.n = omega arith in
    l.invariant ∙ ap (λ (k : ℕ). gather k (high a.potential.now a.threshold)) e

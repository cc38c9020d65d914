-- Each turn gathers one junction more, and after n of them the set is whole. Assumes nothing.
use mathlib.Core.Path.{◌≡◌, refl, sym, ap, ◌∙◌}
use Prim.Native.Nat.{ℕ, ◌-◌, ◌/◌, ◌%◌, ◌^◌}
use native.Mathlib.Omega.{arith}
use lib.ListN.{get_or}
use Rattle.junctions.specs.Sets.{holds, gather}
use Rattle.setshores.proofs.Columns.{place_next}
use Rattle.cuts.proofs.Gathering.{gather_bit}
use Rattle.cuts.proofs.sets.holders.Invariants.{holder}
use Rattle.cuts.proofs.sets.holders.Goals as goal

pub loop-k-init : goal.loop-k-init
unfolding gather
loop-k-init c = refl

pub loop-k-preserved : goal.loop-k-preserved
unfolding holds
loop-k-preserved c =
    let l = c.loop-k in
    let a = c.args in
    gather_bit (holder a.around.now a.a) l.k l.set (get_or a.around.now l.k 0 / 2 ^ (a.a - 1) % 2) (omega arith) (omega arith) l.invariant
    (ap (λ (s : ℕ). holds s a.a) (sym (place_next a.around.now l.k)))

pub returns : goal.returns
returns c = let l = c.loop-k in let a = c.args in let e : l.k ≡ a.n = omega arith in
    l.invariant ∙ ap (λ (k : ℕ). gather k (holder a.around.now a.a)) e

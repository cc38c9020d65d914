-- Each turn takes the lowest junction that is left, and notes it where it is at the value. Assumes nothing.
use mathlib.Core.Path.{◌≡◌, sym, ap, ◌∙◌}
use mathlib.Core.Bool.{◌&&◌}
use Prim.Native.Nat.{ℕ, suc}
use lib.Dec.{eqb}
use Rattle.laws.specs.Lists.{at}
use Rattle.laws.proofs.Lists.{at-suc}
use Rattle.junctions.proofs.Taking.{found_none, found_more, found_all}
use Rattle.leveltable.proofs.level.Goals as goal

pub loop-place-init : goal.loop-place-init
loop-place-init c = let a = c.args in
    let all : c.into_iter-place-iterator.result.left ≡ a.set = cc in
    rw all (found_none (λ y. eqb a.value (at a.potential.now y)) a.set)

pub loop-place-preserved : goal.loop-place-preserved
loop-place-preserved c = let l = c.loop-place in let a = c.args in let place = c.in-Some.place in
    found_more (λ y. eqb a.value (at a.potential.now y)) a.set l.found l.place-iterator.left c.lone-found.result place _ c.in-Some.ensures.steps
    (λ i k. c.lone-found.ensures i k ∙ ap (λ (x : ℕ). eqb a.value x && eqb i (suc place)) (sym (at-suc a.potential.now place))) l.invariant

pub returns : goal.returns
returns c = let l = c.loop-place in let a = c.args in found_all (λ y. eqb a.value (at a.potential.now y)) a.set l.found _ c.in-None.ensures.steps.0 l.invariant

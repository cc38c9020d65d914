-- The goals that `digraph::reach_until` leaves open, by the laws of breadth-first search and the invariant of its loop. Assumes nothing.
use mathlib.Core.Path.{◌≡◌, refl}
use Prim.Native.Nat.{◌<◌}
use native.Mathlib.Omega.{arith}
use lib.Bits.{bit_and}
use lib.ListN.{replicate}
use Rattle.laws.specs.Lists.{at}
use Rattle.digraph.proofs.Breadth.{goes_on, breadth_start, breadth_below, breadth_step, breadth_stop}
use Rattle.digraph.proofs.reach_until.Goals as goal
use Rattle.digraph.proofs.reach_until.Goals.{After-expand-found, In-loop-layer}

on : (c : In-loop-layer) → let l = c.loop-layer in let a = c.args in (0 < l.layer) × (bit_and l.layer a.goal ≡ 0)
on c = let l = c.loop-layer in let a = c.args in goes_on l.layer a.goal c.loop-layer-test.true

-- a turn's layer is below the 64th
below : (c : After-expand-found) → c.loop-layer.d < 64
below c = let l = c.loop-layer in let a = c.args in
    breadth_below (at a.adjacency.now) a.start a.set a.goal c.requires.0 c.requires.1 (replicate 64 64) l.distances l.layer l.done l.d l.invariant (on (goal.at.After-expand-found c).In-loop-layer).0

pub loop-layer-init : goal.loop-layer-init
loop-layer-init c = let a = c.args in breadth_start (at a.adjacency.now) a.start a.set a.goal c.requires.0 c.requires.1 (replicate 64 64) refl

pub expand-found-requires : goal.expand-found-requires
expand-found-requires c = c.loop-layer.invariant.1

pub overflow_add-d : goal.overflow_add-d
overflow_add-d c = record { fits = omega (arith, below (goal.at.overflow_add-d c).After-expand-found) }

pub loop-layer-smaller : goal.loop-layer-smaller
loop-layer-smaller c = omega (arith, below (goal.at.loop-layer-smaller c).After-expand-found)

pub loop-layer-preserved : goal.loop-layer-preserved
loop-layer-preserved c = let l = c.loop-layer in let a = c.args in
    breadth_step (at a.adjacency.now) a.start a.set a.goal c.requires.0 c.requires.1 (replicate 64 64) l.distances l.layer l.done l.d l.invariant
    _ c.expand-found.result (on (goal.at.loop-layer-preserved c).In-loop-layer).1 c.expand-found.ensures.0 (omega arith) (omega arith) (omega arith) c.expand-found.ensures.1

pub mark-requires : goal.mark-requires
mark-requires c = c.loop-layer.invariant.1

pub returns : goal.returns
returns c = let l = c.loop-layer in let a = c.args in
    breadth_stop (at a.adjacency.now) a.start a.set a.goal c.requires.0 c.requires.1 (replicate 64 64) l.distances l.layer l.done l.d l.invariant
    _ c.loop-layer-test.false c.mark.ensures

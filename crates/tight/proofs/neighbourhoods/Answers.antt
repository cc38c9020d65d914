-- The goals that `tight::neighbourhoods` leaves open, by the lemmas and the invariant of its loop. Assumes nothing.
use mathlib.Core.Path.{◌≡◌}
use Prim.Native.Nat.{◌+◌, ◌-◌}
use native.Mathlib.Omega.{arith}
use Rattle.columns.specs.Columns.{flagged}
use Rattle.tight.proofs.Each.{found_none, found_more, found_known, found_all}
use Rattle.tight.proofs.neighbourhoods.Goals as goal

pub loop-k-init : goal.loop-k-init
loop-k-init c = let l = c.args.lanes.now in found_none c.of_rows-arcs.result c.solid_arcs-solid.result l.n l.ends.size

pub loop-k-preserved : goal.loop-k-preserved
loop-k-preserved c = let arcs = c.of_rows-arcs.result in let solid = c.solid_arcs-solid.result in let l = c.args.lanes.now in
    let k = c.loop-k.k in let place : k - 1 + 1 ≡ k = omega arith in
    found_more arcs solid c.loop-k.sets l.n k c.neighbourhood.result (omega arith) (omega arith) l.ends.size c.loop-k.invariant
    (rw place at (c.neighbourhood.ensures (found_known arcs solid c.loop-k.sets l.n k c.loop-k.invariant)))

pub returns : goal.returns
returns c = let arcs = c.of_rows-arcs in let solid = c.solid_arcs-solid in let l = c.args.lanes.now in λ h lanes_of ranged joins.
    let all : c.loop-k.k ≡ 0 = omega arith in
    found_all l arcs.result solid.result c.loop-k.sets (rw all at c.loop-k.invariant) h lanes_of ranged (flagged c.args.flags.now) joins
    (arcs.ensures h lanes_of) (solid.ensures h lanes_of)

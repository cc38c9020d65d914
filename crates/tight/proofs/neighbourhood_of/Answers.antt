-- `tight::neighbourhood_of` gives the tight neighbourhood of a junction: what it reaches even without any one frail arc, found with no neighbourhood known before. Assumes nothing.
use native.Mathlib.Omega.{arith}
use lib.ListN.{replicate}
use Rattle.columns.specs.Columns.{flagged}
use Rattle.tight.proofs.Each.{found_none, found_known, robust_neighbourhood}
use Rattle.tight.proofs.neighbourhood_of.Goals as goal

pub returns : goal.returns
returns c = let arcs = c.of_rows-arcs in let solid = c.solid_arcs-solid in let a = c.args in let l = a.lanes.now in λ h lanes_of ranged joins.
    robust_neighbourhood h ranged (flagged a.flags.now) joins (omega (arith, lanes_of.junctions, l.ends.size)) arcs.result solid.result
    (arcs.ensures h lanes_of) (solid.ensures h lanes_of) a.v c.requires.0 (omega (arith, lanes_of.junctions, c.requires.1)) c.neighbourhood.result
    (c.neighbourhood.ensures (found_known arcs.result solid.result (replicate 64 0) l.n l.n (found_none arcs.result solid.result l.n l.ends.size)))

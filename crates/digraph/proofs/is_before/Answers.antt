-- `digraph::is_before` is the test whether x is one arc before y and one less far: it compares the two distances, and where they fit it looks for the arc. Assumes nothing.
use mathlib.Core.Path.{◌∙◌}
use Rattle.laws.specs.Lists.{at}
use Rattle.digraph.proofs.Backward.{before_close, before_far}
use Rattle.digraph.proofs.is_before.Goals as goal

pub returns-then-near-far : goal.returns-then-near-far
returns-then-near-far c = let a = c.args in
    c.has.ensures ∙ before_close (at a.adjacency.now) (at a.distances.now) a.y a.x
    c.from-near.result c.from-far.result c.arcs.result (c.from-near.ensures ∙ c.distance.ensures) (c.from-far.ensures ∙ c.distance-2.ensures) c.if-near-far.true c.arcs.ensures c.requires.0

pub returns-else-near-far : goal.returns-else-near-far
returns-else-near-far c = let a = c.args in
    before_far (at a.adjacency.now) (at a.distances.now) a.y a.x
    c.from-near.result c.from-far.result (c.from-near.ensures ∙ c.distance.ensures) (c.from-far.ensures ∙ c.distance-2.ensures) c.if-near-far.false

-- `distances_to` gives the fewest rows to the target: in a hall that the choice joins the search from the target over the arcs turned round holds every junction. Assumes nothing.
use Rattle.laws.specs.Lists.{at}
use Rattle.shortest.proofs.Searching.{fewest_there}
use Rattle.shortest.proofs.distances_to.Goals as goal

pub returns : goal.returns
returns c = let turned = c.turned_round in let a = c.args in
    λ h d is inside e.
    fewest_there h d (at a.arcs.now) (at turned.result) is turned.ensures a.to c.requires.0 inside c.reach.result.set _ _ c.reach.ensures e

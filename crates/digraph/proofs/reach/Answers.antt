-- `digraph::reach` is the search that avoids no junction and has no goal. Assumes nothing.
use lib.ListN.{replicate}
use Rattle.laws.proofs.Booleans.{clash}
use Rattle.laws.specs.Lists.{at}
use Rattle.junctions.proofs.Sets.{none_holds}
use Rattle.digraph.specs.Search.{avoiding}
use Rattle.digraph.proofs.Reaching.{searched_reached, reached_alike, avoiding_none}
use Rattle.digraph.proofs.reach.Goals as goal

pub returns : goal.returns
returns c = let a = c.args in let out = at a.adjacency.now in let r = c.reach_until.result.set in
    reached_alike 64 (avoiding 0 out) out (λ x y l m p. avoiding_none out x y) a.start r (replicate 64 64) _ c.requires.0 c.requires.1
    (searched_reached 64 out a.start 0 0 r (replicate 64 64) _ c.reach_until.ensures (λ g l t. clash t (none_holds g)))

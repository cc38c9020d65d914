-- Repair_step flips where the row's tail is reached from its head, and raises what is reached where it is not. Assumes nothing.
use Rattle.std.proofs.Common.{◌≡◌, sym, ◌∙◌, true, false, suc, ℕ, ◌-◌, ◌≤◌, ◌<◌, ◌+◌, arith, add-one}
use Rattle.laws.specs.Lists.{at}
use Rattle.junctions.specs.Sets.{holds}
use Rattle.digraph.proofs.Closure.{start_reached}
use Rattle.hall.specs.Hall.{Hall, row, count}
use Rattle.columns.specs.Columns.{flagged}
use Rattle.columns.specs.Lanes.{LanesOf}
use Rattle.columns.proofs.Places.{lane_tail, lane_head}
use Rattle.potentials.specs.Flip.{Turns}
use Rattle.flip.specs.Flips.{turning}
use Rattle.flip.proofs.Walks.{walked_flip}
use Rattle.repair.proofs.Steps.{reached_lt, reached_closed, stepped_raise, stepped_flip, short_turns, search-reach, search-distances}
use Rattle.repair.proofs.repair_step.Goals as goal
use Rattle.repair.proofs.repair_step.Goals.{After-lane-tail}

-- the row's ends are the junctions after its lane's places
module _ (c : After-lane-tail) (h : Hall) (lanes : LanesOf h c.args.network.now.lanes.now) where
  from_is : c.lane-tail.result.tail + 1 ≡ (row h (suc c.args.row)).from
  from_is = omega (arith, c.lane-tail.ensures.tail, lane_tail h c.args.network.now.lanes.now lanes c.args.row c.requires)

  to_is : c.lane-tail.result.head + 1 ≡ (row h (suc c.args.row)).to
  to_is = omega (arith, c.lane-tail.ensures.head, lane_head h c.args.network.now.lanes.now lanes c.args.row c.requires)

pub flip-next-requires : goal.flip-next-requires
flip-next-requires c = let to = c.lane-tail.result.tail in (
  search-distances c.zero_graph-graph.result c.lane-tail.result.head c.reach-set.result (omega arith) c.reach-set.ensures,
  omega arith,
  omega arith,
  c.reach-set.ensures.few (to + 1) (omega arith) (omega arith) (rw (add-one to) (sym c.has.ensures ∙ c.if-has.true)),
  omega arith,
)

pub returns-then-has : goal.returns-then-has
returns-then-has c = λ h lanes rg free start near gap.
    let n = c.args.network.now in let lane = c.lane-tail.result in
    let move = flagged n.movable.now in let cost = at n.costs.now.rows in let p = at n.potential.now in let F = flagged c.args.chosen.now in
    let i : ℕ = suc c.args.row in let u : i ≤ count h = omega (arith, lanes.rows) in
    let from : lane.tail + 1 ≡ (row h i).from = from_is (goal.at.returns-then-has c).After-lane-tail h lanes in
    let to : lane.head + 1 ≡ (row h i).to = to_is (goal.at.returns-then-has c).After-lane-tail h lanes in
    let graph = c.zero_graph-graph.ensures h lanes near in
    let walked = c.flip-next.ensures h n.lanes.now.n lanes graph (omega (arith, rg.from_high i (omega arith) u)) in
    let turns : Turns h move cost p F (lane.tail + 1) (turning false i (lane.head + 1)) (lane.head + 1) =
    rw (from, to) (short_turns h move cost n.potential.now c.args.chosen.now rg free start i (omega arith) u gap) in
    let flipped = walked_flip h n.movable.now c.args.chosen.now n.costs.now.rows n.potential.now c.zero_graph-graph.result (lane.head + 1) (lane.tail + 1)
    (at c.reach-set.result.distances) i false c.flip-next.result (omega (arith, lanes.junctions)) graph
    (search-distances c.zero_graph-graph.result lane.head c.reach-set.result (omega arith) c.reach-set.ensures) (omega arith)
    (omega (arith, rg.to_high i (omega arith) u)) start.joining start.parted (omega arith) turns walked in
    let next = c.of.ensures in
    stepped_flip h move cost n.potential.now c.args.chosen.now rg free start i (omega arith) u gap c.of.result next.potential (rw next.chosen flipped.1)
    (rw next.chosen flipped.0) (rw next.chosen (next.around h lanes rg flipped.0.joining))

pub returns-else-has : goal.returns-else-has
returns-else-has c = λ h lanes rg free start near gap.
    let n = c.args.network.now in let lane = c.lane-tail.result in let s = c.reach-set.result in
    let move = flagged n.movable.now in let cost = at n.costs.now.rows in let p = at n.potential.now in let F = flagged c.args.chosen.now in
    let i : ℕ = suc c.args.row in let u : i ≤ count h = omega (arith, lanes.rows) in
    let from : suc lane.tail ≡ (row h i).from = omega (arith, from_is (goal.at.returns-else-has c).After-lane-tail h lanes) in
    let to : suc lane.head ≡ (row h i).to = omega (arith, to_is (goal.at.returns-else-has c).After-lane-tail h lanes) in
    let graph = c.zero_graph-graph.ensures h lanes near in let small : h.n ≤ 64 = omega (arith, lanes.junctions) in
    let less : lane.head < h.n = omega (arith, lanes.junctions) in
    let reach = search-reach c.zero_graph-graph.result lane.head s (omega arith) c.reach-set.ensures (omega (arith, c.reach-set.type_inv)) in
    let out : holds s.set (row h i).from ≡ false = rw (sym from) (sym c.has.ensures ∙ c.if-has.false) in
    let place : suc lane.head - 1 ≡ lane.head = omega arith in
    let into : holds s.set (row h i).to ≡ true =
    rw (sym to) (start_reached 64 (at c.zero_graph-graph.result) (suc lane.head) s.set (omega arith) (rw place reach)) in
    stepped_raise h move cost n.potential.now c.args.chosen.now rg free start i (omega arith) u gap s.set c.raise_for.result c.args.around.now small
    (reached_lt h move cost n.potential.now c.args.chosen.now c.zero_graph-graph.result lane.head s.set small less graph reach)
    (reached_closed h move cost n.potential.now c.args.chosen.now c.zero_graph-graph.result lane.head s.set small less graph reach)
    out into near (c.raise_for.ensures h n.lanes.now.n F lanes near)

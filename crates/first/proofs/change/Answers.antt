-- `first::change` meets its contract: a flip opens the row, or a raise gives it a gap. Assumes nothing.
use Rattle.std.proofs.Common.{sym, ◌∙◌, ◌+◌, ◌≤◌, get_or, rules, arith, add-one}
use Rattle.laws.specs.Lists.{at}
use Rattle.laws.proofs.Lists.{at-suc}
use Rattle.repair.proofs.Steps.{search-reach, search-distances}
use Rattle.first.proofs.Steps.{raised-rise, raised_out, flipped_in}
use Rattle.first.proofs.change.Goals as goal
use Rattle.first.proofs.change.Goals.{After-lane-tail}

-- the row has no gap, at its lane's places
no_gap : (c : After-lane-tail) → let n = c.args.network.now in let lane = c.lane-tail.result in
    get_or n.potential.now lane.tail 0 + get_or n.costs.now.rows c.args.k 0 ≤ get_or n.potential.now lane.head 0
no_gap c = let p = c.args.network.now.potential.now in let lane = c.lane-tail in
    omega (arith, rw (sym lane.ensures.tail, sym lane.ensures.head, at-suc p lane.result.tail, at-suc p lane.result.head) at c.requires.no_gap)

pub flip-next-requires : goal.flip-next-requires
flip-next-requires c = let to = c.lane-tail.result.head in (
  search-distances c.zero_graph-graph.result c.lane-tail.result.tail c.reach-set.result (omega arith) c.reach-set.ensures,
  omega arith,
  omega arith,
  c.reach-set.ensures.few (to + 1) (omega arith) (omega arith) (rw (add-one to) (sym c.has.ensures ∙ c.if-has.true)),
  omega arith,
)

pub returns-then-has : goal.returns-then-has
returns-then-has c = record {
  standing = λ h lanes rg later so_far.
      let n = c.args.network.now in let lane = c.lane-tail in let tail = lane.result.tail in let head = lane.result.head in
      let graph = c.zero_graph-graph.ensures h lanes so_far.around in
      let w = c.flip-next.ensures h n.lanes.now.n lanes graph (omega (arith, lanes.junctions)) in
      let d = search-distances c.zero_graph-graph.result tail c.reach-set.result (omega arith) c.reach-set.ensures in
      let next = flipped_in h rg n.lanes.now lanes c.args.k c.requires.row tail head lane.ensures.tail lane.ensures.head
      n.costs.now.rows n.potential.now n.movable.now c.args.chosen.now later so_far.deciding c.zero_graph-graph.result graph
      (at c.reach-set.result.distances) (rw (add-one tail) at d) (no_gap (goal.at.returns-then-has c).After-lane-tail) w.0
      (rw (add-one tail, add-one head) at w.1) c.flip-next.result w.2 in
      let state = c.of.ensures in
      record { deciding = rw (state.potential, state.chosen) next; around = rw state.chosen (state.around h lanes rg next.joining) };
  low = λ j. rw c.of.ensures.potential (omega arith);
}

pub returns-else-has : goal.returns-else-has
returns-else-has c = record {
  standing = λ h lanes rg later so_far.
      let n = c.args.network.now in let lane = c.lane-tail in let graph = c.zero_graph-graph in let s = c.reach-set in
      record {
        deciding =
            raised_out h rg n.lanes.now lanes c.args.k c.requires.row lane.result.tail lane.result.head lane.ensures.tail lane.ensures.head
            n.costs.now.rows n.potential.now n.movable.now c.args.chosen.now later so_far.deciding graph.result (graph.ensures h lanes so_far.around)
            s.result.set (search-reach graph.result lane.result.tail s.result (omega arith) s.ensures (omega (arith, s.type_inv)))
            (sym c.has.ensures ∙ c.if-has.false) c.raise.result c.raise.ensures;
        around = so_far.around;
      };
  low = raised-rise c.reach-set.result.set c.args.network.now.potential.now c.raise.result (search rules) c.raise.ensures;
}

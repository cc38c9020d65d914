-- `reprice::reprice` repairs what the change of cost leaves. Assumes nothing.
use mathlib.Core.Path.{◌≡◌, refl}
use Prim.Native.Nat.{◌+◌, ◌-◌, ◌<◌, ◌^◌}
use lib.ListN.{get_or}
use Rattle.std.proofs.Common.{rules, suc, arith}
use Rattle.hall.specs.Hall.{Hall}
use Rattle.reprice.specs.Reprice.{Repriceable}
use Rattle.reprice.proofs.Repricing.{Repricing, Repriced, repricing}
use Rattle.reprice.proofs.reprice.Goals as goal
use Rattle.reprice.proofs.reprice.Goals.{After-lane-tail, After-shut, After-repair}

-- the level of the row's tail
tail_low : (c : After-lane-tail) → get_or c.args.state.now.potential c.lane-tail.result.tail 0 < 2 ^ 61
tail_low c = let w = c.requires.1 in let t = c.lane-tail.result.tail in let place : suc t - 1 ≡ t = omega arith in
    let low = w.1.low (suc t) (omega arith) (omega (arith, c.lane-tail.ensures.tail_inside, c.args.lanes.now.ends.size)) in
    omega (arith, (rw place at low))

pub overflow_add-low : goal.overflow_add-low
overflow_add-low c = let t = tail_low (goal.at.overflow_add-low c).After-lane-tail in omega (arith, t, c.requires.1.1.cheap)

-- what repair starts from and what its end means
changed : (c : After-shut) (h : Hall) → Repriceable h c.args.lanes.now c.args.costs.now.rows c.args.state.now (suc c.args.k) c.args.cost →
    Repricing h c.args.lanes.now c.args.costs.now.rows c.args.state.now c.args.k c.args.cost c.shut.result
changed c h ready = let a = c.args in let lane = c.lane-tail in
    repricing h a.lanes.now a.costs.now.rows a.state.now a.k a.cost c.requires.0 ready (search rules) lane.result.tail lane.result.head
    (get_or a.state.now.potential lane.result.tail 0 + a.cost) c.max-high.result
    lane.ensures.tail lane.ensures.head refl (omega (arith, c.max-high.ensures)) (omega (arith, c.max-high.ensures)) c.shut.result c.shut.ensures

pub repair-requires : goal.repair-requires
repair-requires c = (changed (goal.at.repair-requires c).After-shut c.requires.1.0 c.requires.1.1).start

-- where repair has ended
ended : (c : After-repair) (h : Hall) → Repriceable h c.args.lanes.now c.args.costs.now.rows c.args.state.now (suc c.args.k) c.args.cost →
    Repriced h c.args.costs.now.rows c.args.k c.args.cost c.repair.result
ended c h ready = let w = changed (goal.at.After-repair c).After-shut h ready in
    w.end c.repair.result (c.repair.ensures h ready.columns ready.ranged w.can ready.around)

pub returns : goal.returns
returns c = record {
  repaired = λ h ready. (ended c h ready).repaired;
  around = λ h ready. (ended c h ready).around;
}

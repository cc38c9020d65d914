-- A turn leaves its row as it is, or changes what the row's decision asks for; after all of them the flags are the first choice. Assumes nothing.
use Rattle.std.proofs.Common.{◌≡◌, refl, ◌∙◌, false, add-one, arith}
use Rattle.std.proofs.Math.ListN.{length-set}
use Rattle.laws.specs.Lists.{at}
use Rattle.laws.proofs.Booleans.{tests}
use Rattle.columns.specs.Columns.{flagged}
use Rattle.first.proofs.Steps.{stays_in, stays_out}
use Rattle.first.proofs.Loop.{movable_start, movable_next, first_start, first_end}
use Rattle.first.proofs.decide_all.Goals as goal
use Rattle.first.proofs.decide_all.Goals.{then-not-state-k+then-not-has_gap, else-not-state-k, else-not-state-k-via-then-not-state-k+else-not-has_gap, else-not-state-k-via-else-not-state-k}

pub loop-k-init : goal.loop-k-init
loop-k-init c = (
  refl,
  movable_start,
  λ j. omega arith,
  λ h lanes rg is done near.
      record { deciding = first_start h rg c.args.lanes.now lanes c.args.costs.now.rows is (at c.args.state.potential) (flagged c.args.state.chosen) done; around = near },
)

pub loop-k-preserved : goal.loop-k-preserved
loop-k-preserved c =
    let v = c.loop-k.invariant in let k = c.loop-k.k in let s = c.loop-k.state in let lane = c.lane-lane in let ln = c.args.lanes.now in
    let size = length-set c.loop-k.movable k false ∙ v.0 in
    let later = movable_next k c.loop-k.movable (omega (arith, v.0, ln.ends.few)) v.1 in
    elim c.if-not-state-k.branch [
      | then-not-state-k+then-not-has_gap w ↦
          let d = w.change-next.ensures in
          rw w.state-is (
            size,
            later,
            λ j. omega (arith, d.low j, v.2 j),
            λ h lanes rg is done near. rw (add-one k) (d.standing h lanes rg v.1 (v.3 h lanes rg is done near)),
          )
      | else-not-state-k w ↦
          rw w.state-is (
            size,
            later,
            λ j. omega (arith, v.2 j),
            λ h lanes rg is done near.
                let so_far = v.3 h lanes rg is done near in
                rw (add-one k) (record {
                  deciding = elim w.else-not-state-k.branch [
                    | else-not-state-k-via-then-not-state-k+else-not-has_gap x ↦
                        stays_out h rg ln lanes k (omega arith) lane.result.tail lane.result.head lane.ensures.tail lane.ensures.head
                        c.args.costs.now.rows s.potential c.loop-k.movable s.chosen v.1 so_far.deciding (omega tests)
                    | else-not-state-k-via-else-not-state-k x ↦
                        stays_in h rg ln lanes k (omega arith) lane.result.tail lane.result.head lane.ensures.tail lane.ensures.head
                        c.args.costs.now.rows s.potential c.loop-k.movable s.chosen v.1 so_far.deciding x.if-not-state-k.false
                  ];
                  around = so_far.around;
                }),
          )
    ]

pub returns : goal.returns
returns c = λ h lanes rg able is done near.
    let end : c.loop-k.k ≡ c.args.lanes.now.count = omega arith in
    first_end h rg c.args.lanes.now lanes c.args.costs.now.rows is able (at c.loop-k.state.potential) (flagged c.loop-k.state.chosen)
    (rw end at (c.loop-k.invariant.3 h lanes rg is done near).deciding)

-- The goals that `shortest::follow` leaves open, by the lemmas and the invariant of its loop. Assumes nothing.
use mathlib.Core.Path.{◌≡◌, sym, ap, ◌∙◌}
use mathlib.Core.Bool.{Bool, not, cond}
use Prim.Native.Nat.{suc, ◌-◌, ◌≤◌, ◌<◌}
use native.Mathlib.Omega.{arith}
use lib.Dec.{eqb}
use lib.ListN.{get_or}
use borrow.Author.Tests.{eq-eqb, ne_eqb}
use mir.Syntax.{w32}
use mir.ValLaws.{to_z-of_z}
use Rattle.laws.proofs.Booleans.{cond_true, cond_false}
use Rattle.laws.proofs.Lists.{at-suc}
use Rattle.shortest.proofs.Following.{on_start, on_more, on_end, row_low, row_high, eqb_suc}
use Rattle.shortest.proofs.follow.Goals as goal
use Rattle.shortest.proofs.follow.Goals.{In-loop-row, then-back, else-back}

-- the place and the row at hand, by the hall of the requirement
here : (c : In-loop-row) → let here = c.loop-row.here in let k = get_or c.args.first.now here 0 in let count = c.args.lanes.now.count in
    (here < 64) × (1 ≤ k) × (k ≤ count) × (count ≤ 256)
here c = let w = c.requires in let g = w.4 in let l = c.loop-row in let a = c.args in let lanes = a.lanes.now in
    let on = l.invariant w.0 w.1 w.2 w.3 g w.5 w.6 w.7 in
    let more : l.row-index < w.3 a.from = omega (arith, w.7) in
    let low = row_low w.0 w.1 w.2 w.3 lanes a.first.now g a.from a.rows.now (suc l.here) l.row-index l.row-items on more in
    let high = row_high w.0 w.1 w.2 w.3 lanes a.first.now g a.from a.rows.now (suc l.here) l.row-index l.row-items on more in
    let is = at-suc a.first.now l.here in
    (omega (arith, on.high, g.size), omega (arith, low, is), omega (arith, high, is), lanes.ends.few)

pub loop-row-init : goal.loop-row-init
loop-row-init c = let a = c.args in λ h d b D g low high e. let place : suc (a.from - 1) ≡ a.from = omega arith in
    rw place (on_start h d b D a.lanes.now a.first.now g a.from a.rows.now low high)

pub offset_bounds-first-here : goal.offset_bounds-first-here
offset_bounds-first-here c = let e = here (goal.at.offset_bounds-first-here c).In-loop-row in omega (arith, e.0)

pub bounds-first-here : goal.bounds-first-here
bounds-first-here c = (here (goal.at.bounds-first-here c).In-loop-row).0

pub overflow_sub-k : goal.overflow_sub-k
overflow_sub-k c = (here (goal.at.overflow_sub-k c).In-loop-row).1

pub lane-lane-requires : goal.lane-lane-requires
lane-lane-requires c = let e = here (goal.at.lane-lane-requires c).In-loop-row in omega (arith, e.1, e.2)

pub with_sign-requires : goal.with_sign-requires
with_sign-requires c = let e = here (goal.at.with_sign-requires c).In-loop-row in (e.1, omega (arith, e.2, e.3))

pub loop-row-preserved : goal.loop-row-preserved
loop-row-preserved c = let l = c.loop-row in let a = c.args in let lane = c.lane-lane in let tail = lane.result.tail in let head = lane.result.head in
    let back : Bool = not (eqb tail l.here) in
    let end : c.if-back.here ≡ cond back tail head =
    elim c.if-back.branch [
      | then-back w ↦ w.here-is ∙ sym (cond_true back tail head (ap not (ne_eqb tail l.here w.if-back.true)))
      | else-back w ↦ w.here-is ∙ sym (cond_false back tail head (ap not (eq-eqb tail l.here w.if-back.false)))
    ] in
    λ h d b D g low high e.
    on_more h d b D a.lanes.now a.first.now g a.from a.rows.now (suc l.here) l.row-index l.row-items (l.invariant h d b D g low high e) (omega (arith, e)) (omega arith)
    _ tail head (sym (at-suc a.first.now l.here)) lane.ensures.tail lane.ensures.head back _ c.if-back.here (ap not (sym (eqb_suc tail l.here)))
    (to_z-of_z w32 c.with_sign.result (record { sfits = c.with_sign.type_inv }) ∙ c.with_sign.ensures) end

pub returns : goal.returns
returns c = let l = c.loop-row in let a = c.args in
    λ h d b D g low high e.
    on_end h d b D a.lanes.now a.first.now g a.from a.rows.now (suc l.here) l.row-index l.row-items (l.invariant h d b D g low high e) (omega (arith, e)) (omega arith)

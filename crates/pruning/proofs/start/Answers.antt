-- The goals that `pruning::start` leaves open, by the lemmas and the invariant of its loop. Assumes nothing.
use Rattle.std.proofs.Common.{◌≡◌, refl, sym, ap, ◌∙◌, true, false, suc, ℕ, ◌≤◌, ◌<◌, get_or, rules, arith, add-one}
use Rattle.std.proofs.lemmas.Grind.{common_steps}
use Rattle.std.proofs.Math.ListN.{set, length-set}
use Rattle.std.proofs.Math.Seq.{set-set, set-get_or}
use Rattle.junctions.specs.Sets.{holds}
use Rattle.hall.specs.Hall.{Hall, row}
use Rattle.columns.specs.Columns.{flagged}
use Rattle.columns.specs.Lanes.{LanesOf}
use Rattle.columns.proofs.Places.{lane_tail, lane_head}
use Rattle.pruning.specs.Backed.{Backed}
use Rattle.pruning.proofs.Dropping.{thinned_start, forward_all, among_without, under_drop, dropped-joins}
use Rattle.pruning.proofs.start.Goals as goal
use Rattle.pruning.proofs.start.Goals.{Joined-stays, then-stays, else-stays, then-not-leads, else-not-leads}

pub loop-place-init : goal.loop-place-init
loop-place-init c = (search rules, λ k e. e, λ h lanes rg joins. thinned_start h c.args.rows c.of_rows-arcs.result joins (c.of_rows-arcs.ensures h lanes))

pub invariant_of-known : goal.invariant_of-known
invariant_of-known c = record { forward_are = forward_all c.args.lanes.now c.args.lanes.now.ends c.of_rows.result c.of_rows.ensures }

-- what is left of the head's arcs: all of them, where the rows that are left back the row's own, or else all but that
spares : (c : Joined-stays) (h : Hall) → LanesOf h c.args.lanes.now → (y : ℕ) → 1 ≤ y → holds c.if-stays.arcs y ≡ true →
    (holds (get_or c.loop-place.arcs c.lane-tail.result.head 0) y ≡ true)
    × (y ≡ suc c.lane-tail.result.tail → Backed h (flagged (set c.loop-place.left c.from-k.result false)) (suc c.from-k.result))
spares c h lanes y low = elim c.if-stays.branch [
  | then-stays w ↦ rw w.arcs-is (λ e. (e, λ own. c.stays.ensures h lanes w.if-stays.true))
  | else-stays w ↦ rw w.arcs-is (λ e. let out = w.without.ensures y low e in (out.0, λ own. absurd (out.1 own)))
]

pub loop-place-preserved : goal.loop-place-preserved
loop-place-preserved c =
    let l = c.loop-place in let k = c.from-k.result in let lane = c.lane-tail.result in
    let less : k < c.args.lanes.now.count = grind (arith, common_steps) in
    let held : get_or l.left k false ≡ true = c.if-not-left-k.false in
    let back : set (set l.left k false) k true ≡ l.left = rw (set-set l.left k false true) (ap (set l.left k) (sym held) ∙ set-get_or l.left k false) in
    let same : set (set l.arcs lane.head c.if-stays.arcs) lane.head (get_or l.arcs lane.head 0) ≡ l.arcs =
    rw (set-set l.arcs lane.head c.if-stays.arcs (get_or l.arcs lane.head 0), set-get_or l.arcs lane.head 0) refl in
    elim c.if-not-leads.branch [
      | then-not-leads w ↦ rw (w.arcs-is, w.left-is, back, same) l.invariant
      | else-not-leads w ↦ rw (w.arcs-is, w.left-is) (
        length-set l.arcs lane.head c.if-stays.arcs ∙ l.invariant.0,
        among_without l.left c.args.rows k l.invariant.1,
        λ h lanes rg joins.
            let ls = c.args.lanes.now in let so_far = l.invariant.2 h lanes rg joins in
            let from : suc lane.tail ≡ (row h (suc k)).from = omega (arith, c.lane-tail.ensures.tail, lane_tail h ls lanes k less) in
            let to : suc lane.head ≡ (row h (suc k)).to = omega (arith, c.lane-tail.ensures.head, lane_head h ls lanes k less) in
            let under = under_drop l.left k h rg ls lanes less l.arcs lane.head c.if-stays.arcs l.invariant.0 (omega arith) to so_far.1
            (λ y low e. let s = spares (goal.at.loop-place-preserved c).Joined-stays h lanes y low e in (s.0, λ own. s.1 (own ∙ sym from))) in (
              dropped-joins l.left k h rg ls lanes less (set l.arcs lane.head c.if-stays.arcs) under
                  (rw (add-one lane.head, add-one lane.tail, from, to) at (c.leads.ensures w.if-not-leads.false)) so_far.0,
              under,
            ),
      )
    ]

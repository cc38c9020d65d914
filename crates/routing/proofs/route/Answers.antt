-- `routing::route` meets its contract: each return says what the route promises. Assumes nothing.
use mathlib.Core.Path.{◌≡◌, sym, ap, ◌∙◌}
use mathlib.Core.Option.{none}
use native.Mathlib.Omega.{arith}
use Rattle.std.proofs.Common.{rules, Err}
use Rattle.hall.specs.Hall.{missed}
use Rattle.hall.specs.File.{hall_in}
use Rattle.columns.specs.Lanes.{LanesOf}
use Rattle.refusals.specs.Kinds.{answered}
use Rattle.choice.specs.Short.{shore_of}
use Rattle.choice.proofs.Short.{arcs-inside, arcs-missed}
use Rattle.shortest.specs.Steps.{OpenedHall}
use Rattle.shortest.proofs.Searching.{opened-hall}
use Rattle.routing.proofs.Routing.{none_joins, Inside, route_short, route_refused, route_outside, route_missed, route_found}
use Rattle.opening.proofs.Opening as opening
use Rattle.routing.proofs.route.Goals as goal
use Rattle.routing.proofs.route.Goals.{In_ok-opened, After-shortfall-shore, Joined-then-from-eq0, Else-lanes-to, then-from-eq0-via-then-from-eq0, then-from-eq0-via-else-from-eq0+then-lanes-from, then-from-eq0-via-else-from-eq0+else-lanes-from+then-to-eq0, then-from-eq0-via-else-from-eq0+else-lanes-from+else-to-eq0+then-lanes-to}

-- where the hall is opened
lanes_of : (c : In_ok-opened) → LanesOf (hall_in c.args.file.now) c.in_ok-opened.opened.hall.lanes
lanes_of c = opening.columns c.args.file.now c.args.choice.now c.in_ok-opened.opened c.in_ok-opened.ensures

pub returns-then-rows-lt63 : goal.returns-then-rows-lt63
returns-then-rows-lt63 c = route_short c.args.file.now c.args.choice.now c.args.from c.args.to c.args.rows.now c.if-rows-lt63.true

pub returns-in_err-opened : goal.returns-in_err-opened
unfolding answered
returns-in_err-opened c =
    let passed : c.from_residual.result ≡ Err c.in_err-opened.field-0.0 = search (rules, c.from_residual.ensures) in
    rw passed (route_refused c.args.file.now c.args.choice.now c.args.from c.args.to c.args.rows.now c.if-rows-lt63.false c.in_err-opened.field-0.0 c.in_err-opened.ensures.refusal)

pub shortfall-shore-requires : goal.shortfall-shore-requires
shortfall-shore-requires c =
    let lanes_is = lanes_of (goal.at.shortfall-shore-requires c).In_ok-opened in
    let o = c.in_ok-opened.opened in
    (o.hall.lanes.ends.size, arcs-inside (hall_in c.args.file.now) o.hall.lanes lanes_is o.chosen c.of_rows-arcs.result (c.of_rows-arcs.ensures (hall_in c.args.file.now) lanes_is))

-- the shore is the one that is missed
shore_is : (c : After-shortfall-shore) → shore_of c.shortfall-shore.result ≡ missed (hall_in c.args.file.now) c.args.choice.now
shore_is c =
    let lanes_is = lanes_of (goal.at.After-shortfall-shore c).In_ok-opened in
    let o = c.in_ok-opened.opened in
    let got = c.in_ok-opened.ensures in
    c.shortfall-shore.ensures ∙ arcs-missed (hall_in c.args.file.now) o.hall.lanes lanes_is o.chosen c.of_rows-arcs.result (c.of_rows-arcs.ensures (hall_in c.args.file.now) lanes_is)
    c.args.choice.now (opening.ranged _ _ _ got) (opening.flags _ _ _ got)

-- the lanes, the flags and the arcs are those of the hall and the choice
opened : (c : After-shortfall-shore) → OpenedHall (hall_in c.args.file.now) c.args.choice.now c.in_ok-opened.opened.hall.lanes c.in_ok-opened.opened.chosen c.of_rows-arcs.result
opened c =
    let lanes_is = lanes_of (goal.at.After-shortfall-shore c).In_ok-opened in
    let o = c.in_ok-opened.opened in
    let got = c.in_ok-opened.ensures in
    opened-hall (hall_in c.args.file.now) c.args.choice.now o.hall.lanes o.chosen c.of_rows-arcs.result lanes_is (opening.ranged _ _ _ got) (opening.flags _ _ _ got)
    (c.of_rows-arcs.ensures (hall_in c.args.file.now) lanes_is)

-- where an end is none of the hall's junctions
outside : (c : Joined-then-from-eq0) → Inside c.in_ok-opened.opened.hall.lanes.n c.args.from c.args.to → ⊥
outside c ends = elim c.then-from-eq0.branch [
  | then-from-eq0-via-then-from-eq0 w ↦ omega (arith, w.if-from-eq0.true, ends.0)
  | then-from-eq0-via-else-from-eq0+then-lanes-from w ↦ omega (arith, w.if-lanes-from.true, ends.1)
  | then-from-eq0-via-else-from-eq0+else-lanes-from+then-to-eq0 w ↦ omega (arith, w.if-to-eq0.true, ends.2)
  | then-from-eq0-via-else-from-eq0+else-lanes-from+else-to-eq0+then-lanes-to w ↦ omega (arith, w.if-lanes-to.true, ends.3)
]

-- where both are
inside : (c : Else-lanes-to) → Inside c.in_ok-opened.opened.hall.lanes.n c.args.from c.args.to
inside c = (omega (arith, c.if-from-eq0.false), c.if-lanes-from.false, omega (arith, c.if-to-eq0.false), c.if-lanes-to.false)

pub returns-then-from-eq0 : goal.returns-then-from-eq0
returns-then-from-eq0 c =
    let lanes_is = lanes_of (goal.at.returns-then-from-eq0 c).In_ok-opened in
    route_outside c.args.file.now c.args.choice.now c.args.from c.args.to c.args.rows.now c.if-rows-lt63.false (opening.unrefused _ _ _ c.in_ok-opened.ensures) _ lanes_is.junctions (outside c)

pub returns-in-Some : goal.returns-in-Some
returns-in-Some c =
    let at = goal.at.returns-in-Some c in
    let lanes_is = lanes_of at.In_ok-opened in
    route_missed c.args.file.now c.args.choice.now c.args.from c.args.to c.args.rows.now c.if-rows-lt63.false (opening.unrefused _ _ _ c.in_ok-opened.ensures) _ lanes_is.junctions (inside at.Else-lanes-to)
    c.in-Some.shore (ap shore_of (sym c.in-Some.is) ∙ shore_is at.After-shortfall-shore)

pub route-filled-requires : goal.route-filled-requires
route-filled-requires c =
    let at = goal.at.route-filled-requires c in
    let o = c.in_ok-opened.opened in
    let ends = inside at.Else-lanes-to in
    let same = (lanes_of at.In_ok-opened).junctions in (
      ends.0,
      ends.2,
      c.if-rows-lt63.false,
      (
        hall_in c.args.file.now,
        c.args.choice.now,
        opened at.After-shortfall-shore,
        omega (arith, ends.1, same),
        omega (arith, ends.3, same),
        none_joins c.args.file.now c.args.choice.now (ap shore_of (sym c.in_default.is) ∙ shore_is at.After-shortfall-shore),
      ),
    )

pub returns : goal.returns
returns c =
    let at = goal.at.returns c in
    let o = c.in_ok-opened.opened in
    let ends = inside at.Else-lanes-to in
    let same = (lanes_of at.In_ok-opened).junctions in
    let met : none ≡ missed (hall_in c.args.file.now) c.args.choice.now = ap shore_of (sym c.in_default.is) ∙ shore_is at.After-shortfall-shore in
    route_found c.args.file.now c.args.choice.now c.args.from c.args.to c.args.rows.now c.if-rows-lt63.false (opening.unrefused _ _ _ c.in_ok-opened.ensures) _ same ends
    met c.route-filled.result _
    (c.route-filled.ensures (hall_in c.args.file.now) c.args.choice.now (opened at.After-shortfall-shore) (omega (arith, ends.1, same)) (omega (arith, ends.3, same))
    (none_joins c.args.file.now c.args.choice.now met))

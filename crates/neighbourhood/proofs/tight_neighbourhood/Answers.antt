-- `neighbourhood::tight_neighbourhood` meets its contract: each return says what the neighbourhood promises. Assumes nothing.
use mathlib.Core.Path.{◌≡◌, sym, ap, ◌∙◌}
use mathlib.Core.Option.{none}
use Prim.Native.Nat.{◌≤◌, ◌<◌}
use native.Mathlib.Omega.{arith}
use Rattle.std.proofs.Common.{rules, Err}
use Rattle.hall.specs.Hall.{Hall, missed}
use Rattle.hall.specs.File.{hall_in}
use Rattle.columns.specs.Lanes.{LanesOf}
use Rattle.refusals.specs.Kinds.{answered}
use Rattle.choice.specs.Short.{shore_of}
use Rattle.neighbourhood.specs.Tight.{TightSays}
use Rattle.neighbourhood.proofs.Tight.{found_outside, found_missed, found_around, around_found}
use Rattle.opening.proofs.Opening as opening
use Rattle.neighbourhood.proofs.tight_neighbourhood.Goals as goal
use Rattle.neighbourhood.proofs.tight_neighbourhood.Goals.{In_ok-opened, Joined-then-v-eq0, Else-lanes-v, After-missed_shore, then-v-eq0-via-then-v-eq0, then-v-eq0-via-else-v-eq0+then-lanes-v}

-- where the hall is opened
module _ (c : In_ok-opened) where
  abbrev hall : Hall
  hall = hall_in c.args.file.now

  columns : LanesOf hall c.in_ok-opened.opened.hall.lanes
  columns = opening.columns c.args.file.now c.args.choice.now c.in_ok-opened.opened c.in_ok-opened.ensures

-- where the junction is none of the hall's
over : (c : Joined-then-v-eq0) → 1 ≤ c.args.junction → c.in_ok-opened.opened.hall.lanes.n < c.args.junction
over c low = elim c.then-v-eq0.branch [
  | then-v-eq0-via-then-v-eq0 w ↦ omega (arith, w.if-v-eq0.true)
  | then-v-eq0-via-else-v-eq0+then-lanes-v w ↦ w.if-lanes-v.true
]

-- where it is one of them
module _ (c : Else-lanes-v) where
  least : 1 ≤ c.args.junction
  least = omega (arith, c.if-v-eq0.false)

  most : c.args.junction ≤ c.in_ok-opened.opened.hall.lanes.n
  most = omega (arith, c.if-lanes-v.false)

-- the shore is the one that is missed
shore_is : (c : After-missed_shore) → shore_of c.missed_shore.result ≡ missed (hall_in c.args.file.now) c.args.choice.now
shore_is c =
    let got = c.in_ok-opened.ensures in
    c.missed_shore.ensures (hall_in c.args.file.now) c.args.choice.now (columns (goal.at.After-missed_shore c).In_ok-opened) (opening.ranged _ _ _ got) (opening.flags _ _ _ got)

pub returns-in_err-opened : goal.returns-in_err-opened
unfolding TightSays answered
returns-in_err-opened c =
    let passed : c.from_residual.result ≡ Err c.in_err-opened.field-0.0 = search (rules, c.from_residual.ensures) in
    rw passed (c.in_err-opened.ensures.refusal, tt)

pub returns-then-v-eq0 : goal.returns-then-v-eq0
unfolding TightSays answered
returns-then-v-eq0 c =
    let at = goal.at.returns-then-v-eq0 c in (
      c.in_ok-opened.ensures.refusal,
      found_outside c.args.file.now c.args.choice.now c.args.junction c.in_ok-opened.opened.hall.lanes.n (sym (columns at.In_ok-opened).junctions) (over c),
    )

pub missed_shore-requires : goal.missed_shore-requires
missed_shore-requires c = (hall_in c.args.file.now, columns (goal.at.missed_shore-requires c).In_ok-opened)

pub returns-in-Some : goal.returns-in-Some
unfolding TightSays answered
returns-in-Some c =
    let at = goal.at.returns-in-Some c in (
      c.in_ok-opened.ensures.refusal,
      found_missed c.args.file.now c.args.choice.now c.args.junction c.in_ok-opened.opened.hall.lanes.n (sym (columns at.In_ok-opened).junctions) (least at.Else-lanes-v)
          (most at.Else-lanes-v) c.in-Some.shore (ap shore_of (sym c.in-Some.is) ∙ shore_is at.After-missed_shore),
    )

pub neighbourhood_of-set-requires : goal.neighbourhood_of-set-requires
neighbourhood_of-set-requires c = let at = goal.at.neighbourhood_of-set-requires c in (least at.Else-lanes-v, most at.Else-lanes-v)

pub returns : goal.returns
unfolding TightSays answered
returns c =
    let at = goal.at.returns c in
    let o = c.in_ok-opened.opened in
    let got = c.in_ok-opened.ensures in
    let lanes_of = columns at.In_ok-opened in
    let ranged = opening.ranged _ _ _ got in
    let met : none ≡ missed (hall at.In_ok-opened) c.args.choice.now = ap shore_of (sym c.in_default.is) ∙ shore_is at.After-missed_shore in (
      got.refusal,
      found_around c.args.file.now c.args.choice.now c.args.junction o.hall.lanes.n (sym lanes_of.junctions) (least at.Else-lanes-v) (most at.Else-lanes-v) met c.neighbourhood_of-set.result
          (around_found (hall at.In_ok-opened) ranged c.args.choice.now (opening.chosen _ _ _ got) met o.chosen
          (λ i l u. opening.flags _ _ _ got i l (omega (arith, lanes_of.rows))) c.args.junction c.neighbourhood_of-set.result
          (c.neighbourhood_of-set.ensures (hall at.In_ok-opened) lanes_of ranged)),
    )

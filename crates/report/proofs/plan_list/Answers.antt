-- `plan_list` prints the plan of the file's hall: the two calls leave their lists, and the hall that is read again is the file's. Assumes nothing.
use mathlib.Core.Path.{◌≡◌, refl}
use native.Mathlib.Omega.{arith}
use lib.IntN.{pos}
use lib.ListN.{take, replicate}
use Rattle.std.proofs.Common.{rules, Err}
use Rattle.std.proofs.lemmas.List.{length-take}
use Rattle.hall.specs.File.{hall_in}
use Rattle.refusals.specs.Kinds.{answered}
use Rattle.cutlist.specs.Cuts.{lent}
use Rattle.oneplan.proofs.Promise.{ChoiceListed, CutsListed}
use Rattle.planrows.proofs.Reply.{rows_refused, rows_fine}
use Rattle.report.proofs.Lists.{cuts_refused, cuts_fine, levels_fit, printable, printed, list_refused}
use Rattle.report.proofs.plan_list.Goals as goal
use Rattle.report.proofs.plan_list.Goals.{In_ok-planned}

-- where neither call refuses
module _ (c : In_ok-planned) where
  rows : ChoiceListed (hall_in c.args.file.now) c.in_ok-chosen.field-0.chosen c.in_ok-chosen.field-0.total c.plan_rows.new.rows
  rows = rows_fine c.args.file.now _ _ c.in_ok-chosen.ensures

  cuts : CutsListed lent (hall_in c.args.file.now) (take c.in_ok-chosen.field-0.chosen c.plan_rows.new.rows) c.in_ok-planned.planned.cuts c.in_ok-planned.planned.levels c.plan_cuts.new.cuts (replicate 64 (pos 0)) c.plan_cuts.new.levels
  cuts = cuts_fine c.args.file.now _ _ _ _ _ rows.first c.in_ok-planned.ensures

pub returns-in_err-chosen : goal.returns-in_err-chosen
returns-in_err-chosen c =
    let passed : c.from_residual.result ≡ Err c.in_err-chosen.field-0.0 = search (rules, c.from_residual.ensures) in
    list_refused c.args.file.now passed (rows_refused c.args.file.now _ _ refl _ c.in_err-chosen.ensures)

pub returns-in_err-planned : goal.returns-in_err-planned
returns-in_err-planned c =
    let passed : c.from_residual-in_err-planned.result ≡ Err c.in_err-planned.field-0.0 = search (rules, c.from_residual-in_err-planned.ensures) in
    list_refused c.args.file.now passed (cuts_refused c.args.file.now _ _ _ _ _ refl refl c.in_err-planned.ensures)

pub returns-in_err-hall : goal.returns-in_err-hall
unfolding answered
returns-in_err-hall c =
    let passed : c.from_residual-in_err-hall.result ≡ Err c.in_err-hall.field-0.0 = search (rules, c.from_residual-in_err-hall.ensures) in
    list_refused c.args.file.now passed c.in_err-hall.ensures.refusal

pub slice_bounds-rows-end : goal.slice_bounds-rows-end
slice_bounds-rows-end c = omega (arith, (rows (goal.at.slice_bounds-rows-end c).In_ok-planned).fit)

pub slice_bounds-print_plan-end : goal.slice_bounds-print_plan-end
slice_bounds-print_plan-end c = omega (arith, (rows (goal.at.slice_bounds-print_plan-end c).In_ok-planned).fit, length-take c.in_ok-chosen.field-0.chosen c.plan_rows.new.rows)

pub slice_bounds-cuts-end : goal.slice_bounds-cuts-end
slice_bounds-cuts-end c = omega (arith, (cuts (goal.at.slice_bounds-cuts-end c).In_ok-planned).fit)

pub slice_bounds-print_plan-end-2 : goal.slice_bounds-print_plan-end-2
slice_bounds-print_plan-end-2 c = omega (arith, (cuts (goal.at.slice_bounds-print_plan-end-2 c).In_ok-planned).fit, length-take c.in_ok-planned.planned.cuts c.plan_cuts.new.cuts)

pub slice_bounds-levels-end : goal.slice_bounds-levels-end
slice_bounds-levels-end c = omega (arith, levels_fit (cuts (goal.at.slice_bounds-levels-end c).In_ok-planned))

pub slice_bounds-print_plan-end-3 : goal.slice_bounds-print_plan-end-3
slice_bounds-print_plan-end-3 c = omega (arith, levels_fit (cuts (goal.at.slice_bounds-print_plan-end-3 c).In_ok-planned), length-take c.in_ok-planned.planned.levels c.plan_cuts.new.levels)

pub print_plan-requires : goal.print_plan-requires
print_plan-requires c =
    let o = (goal.at.print_plan-requires c).In_ok-planned in
    printable (rows o) (cuts o) c.in_ok-hall.ensures.hall _ c.of.ensures

pub returns : goal.returns
unfolding answered
returns c =
    let o = (goal.at.returns c).In_ok-planned in
    record { refusal = c.in_ok-hall.ensures.refusal; list = printed (rows o) (cuts o) c.in_ok-hall.ensures.hall c.of.ensures c.print_plan.ensures }

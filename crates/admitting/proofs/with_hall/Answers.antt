-- `admitting::with_hall` meets its contract: the first refusal in the fixed order, or the site with the file's plan. Assumes nothing.
use mathlib.Core.Path.{◌≡◌, refl, sym}
use mathlib.Core.Bool.{true, false}
use Prim.Native.Nat.{◌≤◌}
use native.Mathlib.Omega.{arith}
use lib.Dec.{eqb}
use lib.ListN.{length, take}
use Rattle.std.proofs.Common.{rules, Err}
use Rattle.hall.specs.File.{hall_in, hall_refusal}
use Rattle.oneplan.proofs.Promise.{ChoiceListed}
use Rattle.planrows.proofs.Reply.{rows_refused, rows_unrefused, rows_fine}
use Rattle.stock.specs.Site.{sound}
use Rattle.stock.proofs.Plans.{sound_parts}
use Rattle.site.specs.Site.{site_of}
use Rattle.site.proofs.Fields.{plans_count}
use Rattle.admitting.proofs.Replies.{admits_damaged, admits_refused, plan_size, admits_full, admits_short, admits_plan}
use Rattle.admitting.proofs.with_hall.Goals as goal
use Rattle.admitting.proofs.with_hall.Goals.{In_ok-plan}

pub returns-then-not-is_sound : goal.returns-then-not-is_sound
returns-then-not-is_sound c =
    let damaged : sound (site_of c.args.site.now) ≡ false = search rules in
    admits_damaged c.args.site.now c.args.file.now damaged

pub returns-in_err-plan : goal.returns-in_err-plan
returns-in_err-plan c =
    let passed : c.from_residual.result ≡ Err c.in_err-plan.field-0.0 = search (rules, c.from_residual.ensures) in
    let good : sound (site_of c.args.site.now) ≡ true = search rules in
    rw passed (admits_refused c.args.site.now c.args.file.now good c.in_err-plan.field-0.0 (rows_refused c.args.file.now _ _ refl _ c.in_err-plan.ensures))

-- where the plan is listed
module _ (c : In_ok-plan) where
  good : sound (site_of c.args.site.now) ≡ true
  good = search rules

  fine : eqb (hall_refusal c.args.file.now).number 0 ≡ true
  fine = rows_unrefused c.args.file.now _ _ refl _ c.in_ok-plan.ensures

  listed : ChoiceListed (hall_in c.args.file.now) c.in_ok-plan.plan.chosen c.in_ok-plan.plan.total c.plan_rows.new.rows
  listed = rows_fine c.args.file.now _ _ c.in_ok-plan.ensures

  size : length (take c.in_ok-plan.plan.chosen c.plan_rows.new.rows) ≡ c.in_ok-plan.plan.chosen
  size = plan_size c.args.site.now c.args.file.now good fine _ _ _ listed

  few : c.args.site.now.halls ≤ 8
  few = omega (arith, plans_count c.args.site.now, (sound_parts (site_of c.args.site.now) good).plans_few)

pub returns-then-site-eq-MOST_HALLS : goal.returns-then-site-eq-MOST_HALLS
returns-then-site-eq-MOST_HALLS c =
    let at = (goal.at.returns-then-site-eq-MOST_HALLS c).In_ok-plan in
    admits_full c.args.site.now c.args.file.now (good at) (fine at) _ _ _ (listed at) c.if-site-eq-MOST_HALLS.true

pub returns-then-site-plan : goal.returns-then-site-plan
returns-then-site-plan c =
    let at = (goal.at.returns-then-site-plan c).In_ok-plan in
    admits_short c.args.site.now c.args.file.now (good at) (fine at) _ _ _ (listed at) (omega (arith, few at, c.if-site-eq-MOST_HALLS.false)) c.if-site-plan.true

pub slice_bounds-rows-end : goal.slice_bounds-rows-end
slice_bounds-rows-end c = (listed (goal.at.slice_bounds-rows-end c).In_ok-plan).fit

pub slice_bounds-with_plan-end : goal.slice_bounds-with_plan-end
slice_bounds-with_plan-end c = sym (size (goal.at.slice_bounds-with_plan-end c).In_ok-plan)

pub with_plan-requires : goal.with_plan-requires
with_plan-requires c =
    let at = (goal.at.with_plan-requires c).In_ok-plan in
    let wide : length c.plan_rows.new.rows ≡ 256 = search rules in (
      good at,
      omega (arith, few at, c.if-site-eq-MOST_HALLS.false),
      omega (arith, size at, (listed at).fit, wide),
      omega (arith, size at, c.if-site-plan.false),
    )

pub returns : goal.returns
returns c =
    let at = (goal.at.returns c).In_ok-plan in
    admits_plan c.args.site.now c.args.file.now (good at) (fine at) _ _ _ (listed at) (omega (arith, few at, c.if-site-eq-MOST_HALLS.false)) c.if-site-plan.false c.with_plan.result
    c.with_plan.ensures

-- `planrows::plan_rows` meets its contract: the first refusal, with the list as it was, or the first choice of the hall that was read. Assumes nothing.
use mathlib.Core.Path.{◌≡◌}
use native.Mathlib.Omega.{arith}
use Rattle.std.proofs.Common.{rules, Err}
use Rattle.hall.specs.Hall.{Hall}
use Rattle.hall.specs.File.{hall_in}
use Rattle.refusals.specs.Kinds.{answered}
use Rattle.refusals.proofs.Numbers.{answer_fine}
use Rattle.plan.specs.Ready.{Accepted, Ready}
use Rattle.plan.proofs.Prices.{unfixed_ready, ranked_modest, costs_ranked}
use Rattle.plan.proofs.Reading.{ready}
use Rattle.planrows.proofs.Rows.{says_short, says_refused, says_rows}
use Rattle.planrows.proofs.plan_rows.Goals as goal
use Rattle.planrows.proofs.plan_rows.Goals.{In_ok-hall, After-unflagged-unfixed}

-- where the hall is read
module _ (c : In_ok-hall) where
  abbrev hall : Hall
  hall = hall_in c.args.file.now

  accepted : Accepted hall c.in_ok-hall.hall
  accepted = ready c.args.file.now (answer_fine c.in_ok-hall.hall _ c.in_ok-hall.ensures.refusal) c.in_ok-hall.hall c.in_ok-hall.ensures.hall

-- where the rows that are not fixed are flagged
unfixed : (c : After-unflagged-unfixed) → Ready (hall_in c.args.file.now) c.in_ok-hall.hall.lanes c.unflagged-unfixed.result
unfixed c =
    unfixed_ready (hall_in c.args.file.now) c.in_ok-hall.hall (accepted (goal.at.After-unflagged-unfixed c).In_ok-hall) c.unflagged-unfixed.result c.unflagged-unfixed.ensures.1

pub returns-then-short : goal.returns-then-short
returns-then-short c = says_short c.args.file.now c.args.rows.now c.if-short.true

pub returns-in_err-hall : goal.returns-in_err-hall
unfolding answered
returns-in_err-hall c =
    let passed : c.from_residual.result ≡ Err c.in_err-hall.field-0.0 = search (rules, c.from_residual.ensures) in
    rw passed (says_refused c.args.file.now c.args.rows.now c.if-short.false c.in_err-hall.field-0.0 c.in_err-hall.ensures.refusal)

pub ranked_costs-costs-requires : goal.ranked_costs-costs-requires
ranked_costs-costs-requires c = let x = c.in_ok-hall.hall in (x.lanes.ends.few, x.prices_low)

pub first_choice-first-requires : goal.first_choice-first-requires
first_choice-first-requires c =
    let at = goal.at.first_choice-first-requires c in
    record {
      modest = ranked_modest (hall at.In_ok-hall) c.in_ok-hall.hall (accepted at.In_ok-hall) c.ranked_costs-costs.result.rows c.ranked_costs-costs.ensures;
      ready = (hall at.In_ok-hall, unfixed at.After-unflagged-unfixed);
    }

pub list_first-requires : goal.list_first-requires
list_first-requires c = omega (arith, c.if-short.false)

pub returns : goal.returns
unfolding answered
returns c =
    let at = goal.at.returns c in
    let h = hall at.In_ok-hall in let x = c.in_ok-hall.hall in let rd = accepted at.In_ok-hall in
    says_rows c.args.file.now c.args.rows.now c.if-short.false c.in_ok-hall.ensures.refusal c.list_first.result _
    (c.list_first.ensures h rd
    (c.first_choice-first.ensures h (unfixed at.After-unflagged-unfixed) rd.able (costs_ranked h x rd c.ranked_costs-costs.result.rows c.ranked_costs-costs.ensures)))

-- `withwithout::with_without` meets its contract: the first refusal, with both lists as they were, or the figures of every row of the hall that was read. Assumes nothing.
use mathlib.Core.Path.{◌≡◌}
use native.Mathlib.Omega.{arith}
use Rattle.std.proofs.Common.{rules, Err}
use Rattle.hall.specs.File.{hall_in}
use Rattle.refusals.specs.Kinds.{answered}
use Rattle.refusals.proofs.Numbers.{answer_fine}
use Rattle.plan.specs.Ready.{Accepted}
use Rattle.plan.proofs.Reading.{ready}
use Rattle.withwithout.specs.Least.{LeastPlanOf}
use Rattle.withwithout.proofs.Says.{says_short, says_refused, says_figures}
use Rattle.withwithout.proofs.with_without.Goals as goal
use Rattle.withwithout.proofs.with_without.Goals.{In_ok-hall, After-of-plan, then-with-lt256-via-then-with-lt256, then-with-lt256-via-else-with-lt256+then-without-lt256}

-- where the hall is read
accepted : (c : In_ok-hall) → Accepted (hall_in c.args.file.now) c.in_ok-hall.hall
accepted c = ready c.args.file.now (answer_fine c.in_ok-hall.hall _ c.in_ok-hall.ensures.refusal) c.in_ok-hall.hall c.in_ok-hall.ensures.hall

-- where a choice of least total is found
least : (c : After-of-plan) → LeastPlanOf (hall_in c.args.file.now) c.of-plan.result
least c = c.of-plan.ensures (hall_in c.args.file.now) (accepted (goal.at.After-of-plan c).In_ok-hall)

pub returns-then-with-lt256 : goal.returns-then-with-lt256
returns-then-with-lt256 c =
    let a = c.args in
    says_short a.file.now a.with.now a.without.now (λ room. elim c.then-with-lt256.branch [
      | then-with-lt256-via-then-with-lt256 w ↦ omega (arith, w.if-with-lt256.true, room.0)
      | then-with-lt256-via-else-with-lt256+then-without-lt256 w ↦ omega (arith, w.if-without-lt256.true, room.1)
    ])

pub returns-in_err-hall : goal.returns-in_err-hall
unfolding answered
returns-in_err-hall c =
    let a = c.args in
    let passed : c.from_residual.result ≡ Err c.in_err-hall.field-0.0 = search (rules, c.from_residual.ensures) in
    rw passed (says_refused a.file.now a.with.now a.without.now (c.if-with-lt256.false, c.if-without-lt256.false) c.in_err-hall.field-0.0 c.in_err-hall.ensures.refusal)

pub of-plan-requires : goal.of-plan-requires
of-plan-requires c = (hall_in c.args.file.now, accepted (goal.at.of-plan-requires c).In_ok-hall)

pub list_figures-requires : goal.list_figures-requires
list_figures-requires c = (c.if-with-lt256.false, c.if-without-lt256.false, (hall_in c.args.file.now, least (goal.at.list_figures-requires c).After-of-plan))

pub returns : goal.returns
unfolding answered
returns c =
    let a = c.args in
    says_figures a.file.now a.with.now a.without.now (c.if-with-lt256.false, c.if-without-lt256.false) c.in_ok-hall.ensures.refusal _ _ _
    (c.list_figures.ensures (hall_in a.file.now) (least (goal.at.returns c).After-of-plan))

-- `planpairs::plan_pairs` meets its contract: the first refusal, with every list as it was, or the cuts and levels of the hall that was read. Assumes nothing.
use mathlib.Core.Path.{◌≡◌}
use native.Mathlib.Omega.{arith}
use Rattle.std.proofs.Common.{rules, Err}
use Rattle.hall.specs.File.{hall_in}
use Rattle.refusals.specs.Kinds.{answered}
use Rattle.refusals.proofs.Numbers.{answer_fine}
use Rattle.plan.specs.Ready.{Accepted}
use Rattle.plan.proofs.Reading.{ready}
use Rattle.planpairs.proofs.Pairs.{says_short, says_refused, says_pairs}
use Rattle.planpairs.proofs.plan_pairs.Goals as goal
use Rattle.planpairs.proofs.plan_pairs.Goals.{In_ok-hall, then-shores-lt125-via-then-shores-lt125, then-shores-lt125-via-else-shores-lt125+then-weights-lt125, then-shores-lt125-via-else-shores-lt125+else-weights-lt125+then-levels-lt64}

-- where the hall is read
accepted : (c : In_ok-hall) → Accepted (hall_in c.args.file.now) c.in_ok-hall.hall
accepted c = ready c.args.file.now (answer_fine c.in_ok-hall.hall _ c.in_ok-hall.ensures.refusal) c.in_ok-hall.hall c.in_ok-hall.ensures.hall

pub returns-then-shores-lt125 : goal.returns-then-shores-lt125
returns-then-shores-lt125 c =
    let a = c.args in
    says_short a.file.now a.shores.now a.weights.now a.levels.now (λ room. elim c.then-shores-lt125.branch [
      | then-shores-lt125-via-then-shores-lt125 w ↦ omega (arith, w.if-shores-lt125.true, room.0)
      | then-shores-lt125-via-else-shores-lt125+then-weights-lt125 w ↦ omega (arith, w.if-weights-lt125.true, room.1)
      | then-shores-lt125-via-else-shores-lt125+else-weights-lt125+then-levels-lt64 w ↦ omega (arith, w.if-levels-lt64.true, room.2)
    ])

pub returns-in_err-hall : goal.returns-in_err-hall
unfolding answered
returns-in_err-hall c =
    let a = c.args in
    let passed : c.from_residual.result ≡ Err c.in_err-hall.field-0.0 = search (rules, c.from_residual.ensures) in
    rw passed (says_refused a.file.now a.shores.now a.weights.now a.levels.now (c.if-shores-lt125.false, c.if-weights-lt125.false, c.if-levels-lt64.false) c.in_err-hall.field-0.0 c.in_err-hall.ensures.refusal)

pub least-least-requires : goal.least-least-requires
least-least-requires c = (hall_in c.args.file.now, accepted (goal.at.least-least-requires c).In_ok-hall)

pub list_cuts-cuts-requires : goal.list_cuts-cuts-requires
list_cuts-cuts-requires c =
    let a = c.args in let rd = accepted (goal.at.list_cuts-cuts-requires c).In_ok-hall in
    (omega (arith, c.if-shores-lt125.false), c.if-weights-lt125.false, c.if-levels-lt64.false, (hall_in a.file.now, rd, c.least-least.ensures (hall_in a.file.now) rd))

pub overflow_cast-result : goal.overflow_cast-result
overflow_cast-result c = omega (arith, c.list_cuts-cuts.ensures.0)

pub overflow_cast-result-2 : goal.overflow_cast-result-2
overflow_cast-result-2 c = omega (arith, c.in_ok-hall.hall.lanes.ends.size)

pub returns : goal.returns
unfolding answered
returns c =
    let a = c.args in let rd = accepted (goal.at.returns c).In_ok-hall in
    says_pairs a.file.now a.shores.now a.weights.now a.levels.now (c.if-shores-lt125.false, c.if-weights-lt125.false, c.if-levels-lt64.false) c.in_ok-hall.ensures.refusal _ _ _ _
    (c.list_cuts-cuts.ensures.1 (hall_in a.file.now) rd (c.least-least.ensures (hall_in a.file.now) rd))

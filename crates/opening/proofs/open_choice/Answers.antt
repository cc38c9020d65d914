-- `opening::open_choice` meets its contract: the hall's refusal, then 10 for a list that is no choice, else the record and the flags. Assumes nothing.
use mathlib.Core.Path.{◌≡◌, sym, ◌∙◌}
use mathlib.Core.Bool.{true}
use native.Mathlib.Omega.{arith}
use lib.Dec.{eqb}
use Rattle.std.proofs.Common.{rules, Err}
use Rattle.hall.specs.Hall.{count, is_choice}
use Rattle.hall.specs.File.{hall_in, hall_refusal}
use Rattle.dicuts.proofs.Choices.{choice_ascends, ascends_wider}
use Rattle.columns.specs.Lanes.{LanesOf}
use Rattle.refusals.specs.Kinds.{refusal_of, answered}
use Rattle.refusals.proofs.Numbers.{kind_refused, answer_fine}
use Rattle.hallfile.proofs.Records.{record_lanes, record_marks}
use Rattle.opening.proofs.Opening.{hall-refused, list_refused, none_refused, row_flags}
use Rattle.opening.proofs.open_choice.Goals as goal
use Rattle.opening.proofs.open_choice.Goals.{In_ok-hall, After-is_choice}

-- where the hall is read
module _ (c : In_ok-hall) where
  fine : eqb (hall_refusal c.args.file.now).number 0 ≡ true
  fine = answer_fine c.in_ok-hall.hall _ c.in_ok-hall.ensures.refusal

  lanes : LanesOf (hall_in c.args.file.now) c.in_ok-hall.hall.lanes
  lanes = record_lanes (hall_in c.args.file.now) c.in_ok-hall.hall c.in_ok-hall.ensures.hall

-- where the list is tried
module _ (c : After-is_choice) where
  told : is_choice (hall_in c.args.file.now) c.args.choice.now ≡ c.is_choice.result
  told =
      sym (c.is_choice.ensures (hall_in c.args.file.now) (lanes (goal.at.After-is_choice c).In_ok-hall).rows
      (record_marks (hall_in c.args.file.now) c.in_ok-hall.hall c.in_ok-hall.ensures.hall))

pub returns-in_err-hall : goal.returns-in_err-hall
unfolding answered
returns-in_err-hall c =
    let k = c.in_err-hall.field-0.0 in
    let passed : c.from_residual.result ≡ Err k = search (rules, c.from_residual.ensures) in
    let told = c.in_err-hall.ensures.refusal in
    rw passed (record { refusal = told ∙ sym (hall-refused c.args.file.now c.args.choice.now (kind_refused k _ told)); hall = tt; flags = tt })

pub returns-then-not-is_choice : goal.returns-then-not-is_choice
unfolding refusal_of answered
returns-then-not-is_choice c =
    let at = goal.at.returns-then-not-is_choice c in
    record {
      refusal = sym (list_refused c.args.file.now c.args.choice.now (fine at.In_ok-hall) (told at.After-is_choice ∙ c.if-not-is_choice.true));
      hall = tt;
      flags = tt;
    }

pub flags-requires : goal.flags-requires
flags-requires c =
    let at = goal.at.flags-requires c in
    let h = hall_in c.args.file.now in
    ascends_wider 1 (count h) 256 c.args.choice.now (omega (arith, (lanes at.In_ok-hall).rows, c.in_ok-hall.hall.lanes.ends.few))
    (choice_ascends h c.args.choice.now (told at.After-is_choice ∙ c.if-not-is_choice.false))

pub returns : goal.returns
unfolding answered
returns c =
    let at = goal.at.returns c in
    record {
      refusal = sym (none_refused c.args.file.now c.args.choice.now (fine at.In_ok-hall) (told at.After-is_choice ∙ c.if-not-is_choice.false));
      hall = c.in_ok-hall.ensures.hall;
      flags = λ i l u. row_flags c.flags.result c.args.choice.now 256 (omega arith) c.flags.ensures.1 i l
          (omega (arith, u, (lanes at.In_ok-hall).rows, c.in_ok-hall.hall.lanes.ends.few));
    }

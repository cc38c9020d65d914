-- `checking::check_choice` meets its contract: it passes on the refusal that opening the hall gave, or says what the shore that is missed, or none, says. Assumes nothing.
use mathlib.Core.Path.{◌≡◌, ap, ◌∙◌}
use Rattle.std.proofs.Common.{rules, Err}
use Rattle.hall.specs.File.{hall_in}
use Rattle.refusals.specs.Kinds.{answered}
use Rattle.answers.specs.Answers.{missing}
use Rattle.opening.proofs.Opening as opening
use Rattle.checking.specs.Check.{CheckSays}
use Rattle.checking.proofs.check_choice.Goals as goal

pub missed_shore-shore-requires : goal.missed_shore-shore-requires
missed_shore-shore-requires c = (hall_in c.args.file.now, opening.columns _ _ _ c.in_ok-opened.ensures)

pub returns-in_err-opened : goal.returns-in_err-opened
unfolding CheckSays answered
returns-in_err-opened c =
    let passed : c.from_residual.result ≡ Err c.in_err-opened.field-0.0 = search (rules, c.from_residual.ensures) in
    rw passed (c.in_err-opened.ensures.refusal, tt)

pub returns : goal.returns
unfolding CheckSays answered
returns c =
    let got = c.in_ok-opened.ensures in (
      got.refusal,
      c.from.ensures ∙ ap missing (c.missed_shore-shore.ensures _ _ (opening.columns _ _ _ got) (opening.ranged _ _ _ got) (opening.flags _ _ _ got)),
    )

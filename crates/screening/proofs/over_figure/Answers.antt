-- `screening::over_figure` meets its contract: it passes on the refusal that opening the hall gave, or says what the rows read tell. Assumes nothing.
use mathlib.Core.Path.{◌≡◌}
use native.Mathlib.Omega.{arith}
use Rattle.std.proofs.Common.{rules, Err}
use Rattle.hall.specs.Hall.{count}
use Rattle.hall.specs.File.{hall_in}
use Rattle.dicuts.proofs.Choices.{choice_ascends, ascends_wider}
use Rattle.refusals.specs.Kinds.{answered}
use Rattle.opening.proofs.Opening as opening
use Rattle.screening.specs.Figure.{FigureSays}
use Rattle.screening.proofs.over_figure.Goals as goal

pub returns-in_err-opened : goal.returns-in_err-opened
unfolding FigureSays answered
returns-in_err-opened c =
    let passed : c.from_residual.result ≡ Err c.in_err-opened.field-0.0 = search (rules, c.from_residual.ensures) in
    rw passed (c.in_err-opened.ensures.refusal, tt)

pub screen-requires : goal.screen-requires
screen-requires c =
    let h = hall_in c.args.file.now in
    let got = c.in_ok-opened.ensures in
    ascends_wider 1 (count h) 256 c.args.choice.now (omega (arith, (opening.columns _ _ _ got).rows, c.in_ok-opened.opened.hall.lanes.ends.few))
    (choice_ascends h c.args.choice.now (opening.chosen _ _ _ got))

pub returns : goal.returns
unfolding FigureSays answered
returns c =
    let got = c.in_ok-opened.ensures in
    (got.refusal, c.screen.ensures (hall_in c.args.file.now) got.hall (opening.chosen _ _ _ got))

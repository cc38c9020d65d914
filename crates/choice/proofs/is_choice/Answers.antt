-- `choice::is_choice` tells whether the list is a choice: it ascends, and then none of its rows is fixed. Assumes nothing.
use mathlib.Core.Path.{sym, ◌∙◌}
use Rattle.dicuts.proofs.Choices.{ascends_wider}
use Rattle.choice.proofs.Marked.{ascending_choice, unascending_choice}
use Rattle.choice.proofs.is_choice.Goals as goal

pub none_flagged-requires : goal.none_flagged-requires
none_flagged-requires c = ascends_wider 1 c.args.rows 256 c.args.numbers.now c.requires (sym c.ascends.ensures ∙ c.if-ascends.true)

pub returns-then-ascends : goal.returns-then-ascends
returns-then-ascends c = λ h rows marks. let a = c.args in
    c.none_flagged.ensures
    ∙ sym (ascending_choice h a.fixed.now marks a.rows rows a.numbers.now (sym c.ascends.ensures ∙ c.if-ascends.true))

pub returns-else-ascends : goal.returns-else-ascends
returns-else-ascends c = λ h rows marks. let a = c.args in
    c.if-ascends.false ∙ sym (unascending_choice h a.fixed.now marks a.rows rows a.numbers.now (sym c.ascends.ensures ∙ c.if-ascends.false))

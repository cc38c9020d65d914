-- `print_kind` prints the number and the row of a kind. Assumes nothing.
use mathlib.Core.Path.{◌≡◌, ap, ap₂, ◌∙◌}
use Rattle.hall.specs.File.{refusal}
use Rattle.refusals.specs.Kinds.{refusal_of}
use Rattle.printing.specs.Printed.{printed_refusal}
use Rattle.printing.proofs.print_kind.Goals as goal

pub returns : goal.returns
unfolding refusal
returns c =
    let same : refusal c.from.result c.from-2.result ≡ refusal_of c.args.kind = ap₂ refusal (c.from.ensures ∙ c.number.ensures) (c.from-2.ensures ∙ c.row.ensures) in
    c.print_refusal.ensures ∙ ap printed_refusal same

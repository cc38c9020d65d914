-- Each turn appends the next junction, if the set holds it, and at the end none is left. Assumes nothing.
use mathlib.Core.List.{append-nil}
use Rattle.std.proofs.Common.{◌≡◌, ◌-◌, ap, length, arith}
use Rattle.std.proofs.lemmas.Grind.{common_steps}
use Rattle.lines.specs.Lines.{set_text}
use Rattle.lines.proofs.Sets.{set_step}
use Rattle.lines.proofs.Text.push_set.Goals as goal
use Rattle.lines.proofs.Text.push_set.Goals.{then-holds, else-holds}

pub push_item-requires : goal.push_item-requires
push_item-requires g c =
    let step = set_step c.args.n c.args.set c.loop-k.k (omega arith) in
    let whole = ap length c.loop-k.invariant in
    grind (arith, common_steps)

pub loop-k-preserved : goal.loop-k-preserved
loop-k-preserved g c =
    let step = set_step c.args.n c.args.set c.loop-k.k (omega arith) in
    elim c.if-holds.branch [ then-holds w ↦ grind (arith, common_steps) | else-holds w ↦ grind (arith, common_steps) ]

pub returns : goal.returns
unfolding set_text
returns g c =
    let none : c.args.n - c.loop-k.k ≡ 0 = omega arith in
    rw (none, append-nil) at c.loop-k.invariant

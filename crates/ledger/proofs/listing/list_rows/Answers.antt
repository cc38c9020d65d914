-- `ledger::listing::list_rows`: the goals that its invariant leaves. Assumes nothing.
use mathlib.Core.Path.{◌∙◌}
use native.Mathlib.Omega.{arith}
use Rattle.columns.specs.Columns.{flagged}
use Rattle.ledger.proofs.Choices.{noted_none, noted_next, noted_same, noted_all, flag_at}
use Rattle.ledger.proofs.listing.list_rows.Goals as goal
use Rattle.ledger.proofs.listing.list_rows.Goals.{then-flags-k, else-flags-k}

pub loop-k-init : goal.loop-k-init
loop-k-init c = noted_none (flagged c.args.flags.now) c.args.rows.now

pub loop-k-preserved : goal.loop-k-preserved
loop-k-preserved c = let flags = c.args.flags.now in let l = c.loop-k in
    elim c.if-flags-k.branch [
      | then-flags-k w ↦ rw (w.rows-is, w.filled-is) (noted_next (flagged flags) c.args.rows.now l.k l.filled l.rows l.invariant (flag_at flags l.k ∙ w.if-flags-k.true) (omega arith))
      | else-flags-k w ↦ rw (w.rows-is, w.filled-is) (noted_same (flagged flags) c.args.rows.now l.k l.filled l.rows l.invariant (flag_at flags l.k ∙ w.if-flags-k.false))
    ]

pub returns : goal.returns
returns c = let l = c.loop-k in
    (omega (arith, l.invariant.few), λ h rows. noted_all (flagged c.args.flags.now) c.args.rows.now l.k l.filled l.rows l.invariant h (omega arith))

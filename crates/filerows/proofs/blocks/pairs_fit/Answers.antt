-- `filerows::blocks::pairs_fit`: the goals that its invariant leaves. Assumes nothing.
use mathlib.Core.Path.{sym, ◌∙◌}
use native.Mathlib.Omega.{arith}
use Rattle.filerows.proofs.Pairs.{pairs_fail, pairs_pass, pairs_end}
use Rattle.filerows.proofs.blocks.pairs_fit.Goals as goal

pub returns-then-not-fits : goal.returns-then-not-fits
returns-then-not-fits c = let block = c.of-block in let a = c.args in
    sym (pairs_fail a.file.now a.blocks c.loop-k.k c.loop-k.least block.result.start block.result.size (omega arith) block.ensures.0 block.ensures.1
    (sym c.fits.ensures ∙ c.if-not-fits.true))
    ∙ c.loop-k.invariant

pub loop-k-preserved : goal.loop-k-preserved
loop-k-preserved c = let block = c.of-block in let a = c.args in
    rw c.end-least.ensures
    (sym (pairs_pass a.file.now a.blocks c.loop-k.k c.loop-k.least block.result.start block.result.size (omega arith) block.ensures.0 block.ensures.1
    (sym c.fits.ensures ∙ c.if-not-fits.false))
    ∙ c.loop-k.invariant)

pub returns : goal.returns
returns c = sym (pairs_end c.args.file.now c.args.blocks c.loop-k.k c.loop-k.least (omega arith)) ∙ c.loop-k.invariant

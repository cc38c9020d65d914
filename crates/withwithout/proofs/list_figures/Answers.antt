-- `withwithout::list_figures`: one row's figures more, and at the end those of all rows. Assumes nothing.
use mathlib.Core.Path.{◌≡◌, sym, ◌∙◌}
use native.Mathlib.Omega.{arith}
use Rattle.withwithout.specs.Least.{figures_of}
use Rattle.withwithout.proofs.Listed.{listed_none, listed_next, listed_all}
use Rattle.withwithout.proofs.list_figures.Goals as goal

pub loop-k-init : goal.loop-k-init
loop-k-init c = λ h of. listed_none h c.args.with.now c.args.without.now

pub loop-k-preserved : goal.loop-k-preserved
loop-k-preserved c = λ h of. let k = c.loop-k.k in let few = c.args.plan.now.hall.now.lanes.ends.few in
    listed_next h c.args.with.now c.args.without.now k c.loop-k.with c.loop-k.without (c.loop-k.invariant h of) (figures_of c.figures-figures.result)
    (c.figures-figures.ensures h of) c.with.result c.without.result c.with.ensures c.without.ensures
    (omega (arith, c.requires.0, c.loop-k-test.true, few)) (omega (arith, c.requires.1, c.loop-k-test.true, few))

pub returns : goal.returns
returns c = λ h of. let a = c.args in let rows = a.plan.now.hall.now.lanes.count in
    let end : c.loop-k.k ≡ rows = omega (arith, c.loop-k.auto.k-end, c.loop-k-test.false) in
    rw (sym end) (listed_all h a.with.now a.without.now c.loop-k.k c.loop-k.with c.loop-k.without (c.loop-k.invariant h of) (end ∙ sym of.accepted.columns.rows))

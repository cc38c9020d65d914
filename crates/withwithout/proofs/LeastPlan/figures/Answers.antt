-- `LeastPlan::figures`: one of both figures is the least total. Assumes nothing.
use mathlib.Core.Path.{sym, ◌∙◌}
use mathlib.Core.Bool.{true, false}
use Rattle.withwithout.proofs.Least.{mark_here, total_here}
use Rattle.forcing.specs.Figures.{FiguresOf}
use Rattle.withwithout.specs.Least.{figures_of}
use Rattle.withwithout.proofs.LeastPlan.figures.Goals as goal

pub returns-then-self-k : goal.returns-then-self-k
unfolding FiguresOf figures_of
returns-then-self-k c = λ h of. sym (mark_here h c.args.self.now of c.args.k c.requires.0) ∙ c.if-self-k.true

pub returns-then-self-k-2 : goal.returns-then-self-k-2
unfolding FiguresOf figures_of
returns-then-self-k-2 c = λ h of. let p = c.args.self.now in let k = c.args.k in let inside = c.requires.0 in
    (sym (mark_here h p of k inside) ∙ c.if-self-k.false, total_here h p of k inside true c.if-self-k-2.true, c.without.ensures h of)

pub returns-else-self-k-2 : goal.returns-else-self-k-2
unfolding FiguresOf figures_of
returns-else-self-k-2 c = λ h of. let p = c.args.self.now in let k = c.args.k in let inside = c.requires.0 in
    let free = sym (mark_here h p of k inside) ∙ c.if-self-k.false in (free, c.with.ensures h of free, total_here h p of k inside false c.if-self-k-2.false)

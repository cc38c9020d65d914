-- The goals that `digraph::mark` leaves open, by the place taken and the invariant of its loop. Assumes nothing.
use mathlib.Core.Path.{◌∙◌}
use lib.ListN.{length-set}
use Rattle.digraph.proofs.Rest.{mark_step, mark_end}
use Rattle.digraph.proofs.mark.Goals as goal

pub loop-place-preserved : goal.loop-place-preserved
loop-place-preserved c = let l = c.loop-place in let a = c.args in (
  length-set l.distances _ a.d ∙ l.invariant.0,
  mark_step a.distances.now l.distances a.set l.place-iterator.left _ _ (λ _. a.d) l.invariant.0 c.in-Some.ensures.steps l.invariant.1,
)

pub returns : goal.returns
returns c = let l = c.loop-place in let a = c.args in
    mark_end a.distances.now l.distances a.set _ (λ _. a.d) l.invariant.0 c.in-None.ensures.steps.0 l.invariant.1

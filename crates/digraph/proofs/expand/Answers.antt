-- The goals that `digraph::expand` leaves open, by the place taken and the invariant of its loop. Assumes nothing.
use mathlib.Core.Path.{◌≡◌, refl, ◌∙◌}
use lib.ListN.{length-set}
use Rattle.laws.specs.Lists.{at}
use Rattle.digraph.proofs.Rest.{spread_start, spread_step, spread_end, mark_step, mark_end}
use Rattle.digraph.proofs.expand.Goals as goal

pub loop-place-init : goal.loop-place-init
loop-place-init c = let a = c.args in
    let all : c.into_iter-place-iterator.result.left ≡ a.layer = cc in
    rw all (c.requires, λ j l m. refl, spread_start (at a.adjacency.now) a.layer)

pub loop-place-preserved : goal.loop-place-preserved
loop-place-preserved c = let l = c.loop-place in let a = c.args in let taken = c.in-Some.ensures.steps in (
  length-set l.distances _ a.d ∙ l.invariant.0,
  mark_step a.distances.now l.distances a.layer l.place-iterator.left _ _ (λ _. a.d) l.invariant.0 taken l.invariant.1,
  spread_step a.adjacency.now a.layer l.found l.place-iterator.left _ _ taken l.invariant.2,
)

pub returns : goal.returns
returns c = let l = c.loop-place in let a = c.args in let none = c.in-None.ensures.steps.0 in (
  mark_end a.distances.now l.distances a.layer _ (λ _. a.d) l.invariant.0 none l.invariant.1,
  spread_end (at a.adjacency.now) a.layer l.found _ none l.invariant.2,
)

-- The goals that `choice::ascends` leaves open, by the lemmas and the invariant of its loop. Assumes nothing.
use mathlib.Core.Path.{sym, ◌∙◌}
use native.Mathlib.Omega.{arith}
use Rattle.choice.proofs.Ascent.{ascends_more, ascends_under, ascends_past, ascends_end}
use Rattle.choice.proofs.ascends.Goals as goal
use Rattle.choice.proofs.ascends.Goals.{then-number-least-via-then-number-least, then-number-least-via-else-number-least+then-limit-number}

pub returns-then-number-least : goal.returns-then-number-least
returns-then-number-least c = let a = c.args in let l = c.loop-number in
    elim c.then-number-least.branch [
      | then-number-least-via-then-number-least w ↦ sym (ascends_under a.numbers.now a.limit l.least l.number-index c.loop-number-test.true w.if-number-least.true) ∙ l.invariant.left
      | then-number-least-via-else-number-least+then-limit-number w ↦
          sym (ascends_past a.numbers.now a.limit l.least l.number-index c.loop-number-test.true w.if-number-least.false w.if-limit-number.true) ∙ l.invariant.left
    ]

pub loop-number-preserved : goal.loop-number-preserved
loop-number-preserved c = let a = c.args in let l = c.loop-number in record {
  low = omega arith;
  left = sym (ascends_more a.numbers.now a.limit l.least l.number-index c.loop-number-test.true c.if-number-least.false c.if-limit-number.false) ∙ l.invariant.left;
}

pub returns : goal.returns
returns c = let a = c.args in let l = c.loop-number in
    sym (ascends_end a.numbers.now a.limit l.least l.number-index c.loop-number-test.false) ∙ l.invariant.left

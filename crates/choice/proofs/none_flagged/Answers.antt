-- The goals that `choice::none_flagged` leaves open, by the lemmas and the invariant of its loop. Assumes nothing.
use mathlib.Core.Bool.{not}
use mathlib.Core.Path.{sym, ap, ◌∙◌}
use Prim.Native.Nat.{◌≤◌}
use native.Mathlib.Omega.{arith}
use lib.ListN.{get_or}
use Rattle.choice.proofs.Ascent.{ascends_at}
use Rattle.choice.proofs.Marked.{all_more, all_fail, all_end}
use Rattle.choice.proofs.none_flagged.Invariants.{free}
use Rattle.choice.proofs.none_flagged.Goals as goal
use Rattle.choice.proofs.none_flagged.Goals.{In-loop-number}

-- the number at hand is one of 1 to 256
in_range : (c : In-loop-number) → let number = get_or c.args.numbers.now c.loop-number.number-index 0 in (1 ≤ number) × (number ≤ 256)
in_range c = ascends_at 1 256 c.args.numbers.now c.loop-number.number-index c.requires c.loop-number-test.true

pub overflow_sub-number : goal.overflow_sub-number
overflow_sub-number c = (in_range (goal.at.overflow_sub-number c).In-loop-number).0

pub bounds-flags-number : goal.bounds-flags-number
bounds-flags-number c = let r = in_range (goal.at.bounds-flags-number c).In-loop-number in omega (arith, r.0, r.1)

pub returns-then-flags-number : goal.returns-then-flags-number
returns-then-flags-number c = let a = c.args in
    sym (all_fail (free a.flags.now) a.numbers.now c.loop-number.number-index c.loop-number-test.true (ap not c.if-flags-number.true)) ∙ c.loop-number.invariant

pub loop-number-preserved : goal.loop-number-preserved
loop-number-preserved c = let a = c.args in
    sym (all_more (free a.flags.now) a.numbers.now c.loop-number.number-index c.loop-number-test.true (ap not c.if-flags-number.false)) ∙ c.loop-number.invariant

pub returns : goal.returns
returns c = let a = c.args in
    sym (all_end (free a.flags.now) a.numbers.now c.loop-number.number-index c.loop-number-test.false) ∙ c.loop-number.invariant

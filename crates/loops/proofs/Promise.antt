-- No plan opens a loop: without it the choice would join as before, cost no more and have fewer rows. And no loop makes a difference. Assumes nothing.
use mathlib.Core.Path.{◌≡◌, sym, ap, ◌∙◌}
use mathlib.Core.Bool.{true}
use mathlib.Core.List.{List}
use Prim.Native.Nat.{ℕ}
use Rattle.hall.specs.Hall.{Hall, row, count, member, is_none, joins}
use Rattle.hall.specs.File.{hall_in}
use Rattle.hall.specs.Plan.{goes_before}
use Rattle.order.specs.Precedes.{by_length}
use Rattle.order.proofs.Before.{before_of, cheaper_or_tied}
use Rattle.order.proofs.First.{none_before}
use Rattle.dicuts.proofs.Choices.{ascends_members, choice_ascends}
use Rattle.loops.specs.Loops.{left_out, LoopsClosed, LoopsIdle, LeftOutChoice}
use Rattle.loops.proofs.Idle.{loop_enters, loop_leaves, missed-without, tight-without}
use Rattle.loops.proofs.LeftOut.{left_out-is_choice, left_out_shorter, left_out-total}

-- a choice without one of its rows goes before it
left_out_before : (h : Hall) (c : List ℕ) (i : ℕ) → member i c ≡ true → goes_before h (left_out i c) c ≡ true
left_out_before h c i in_it =
    let rest = left_out i c in
    before_of h rest c (cheaper_or_tied h rest c (left_out-total i h c) (λ e. by_length e (left_out_shorter i c in_it)))

pub left_out_choice : LeftOutChoice
unfolding LeftOutChoice
left_out_choice bs c i = left_out-is_choice i (hall_in bs) c

pub loops_closed : LoopsClosed
unfolding LoopsClosed LeftOutChoice joins
loops_closed bs c i acc first in_it loop =
    let h = hall_in bs in
    let rest = left_out i c in
    let low = (ascends_members (count h) 1 c i (choice_ascends h c first.choice) in_it).0 in
    let joins_rest = ap is_none (sym (missed-without h i low loop c)) ∙ first.joining in
    none_before h c rest first (left_out_choice bs c i first.choice) joins_rest (left_out_before h c i in_it)

pub loops_idle : LoopsIdle
unfolding LoopsIdle
loops_idle bs c i s j acc low high loop =
    let h = hall_in bs in
    (loop_enters (row h i) loop s, loop_leaves (row h i) loop s, missed-without h i low loop c, tight-without h i low loop c j)

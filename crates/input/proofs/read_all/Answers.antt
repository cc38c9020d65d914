-- The goal that `input::read_all` leaves open: one more read goes on from the bytes before. Assumes nothing.
use Rattle.std.proofs.Common.{rules}
use Rattle.input.proofs.Filling.{reads_on}
use Rattle.input.proofs.read_all.Goals as goal

pub loop-size-preserved : goal.loop-size-preserved
loop-size-preserved g c =
    let before = c.loop-size.invariant in
    let read = c.in_ok-more.ensures in
    (search rules, search rules, reads_on _ _ _ _ _ _ _ _ before.1 read.bound.0 before.2 read.bytes)

-- Set_room takes one junction of the set a turn. The invariant: the most that those left allow, up to the room, is the most that all allow, up to the start. Assumes nothing.
use Prim.Native.Nat.{ℕ}
use Rattle.raise.specs.Rooms.{Most}
use Rattle.raise.proofs.Rooms.{members_room, over}
use Rattle.raise.proofs.set_room.Given as goal

abbrev pub invariant-loop-j : goal.invariant-loop-j
invariant-loop-j l = (r : ℕ) → Most (members_room (over l.potential l.low) l.j-iterator.left l.room) r → Most (members_room (over l.potential l.low) l.set l.start) r

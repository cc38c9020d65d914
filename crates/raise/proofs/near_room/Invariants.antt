-- Near_room takes one junction of the set a turn. The invariant: the most that the neighbourhoods of those left allow, up to the room, is the most that all allow, up to the start. Assumes nothing.
use Prim.Native.Nat.{ℕ}
use Rattle.raise.specs.Rooms.{Most}
use Rattle.raise.proofs.Rooms.{members_room, beyond}
use Rattle.raise.proofs.near_room.Given as goal

abbrev pub invariant-loop-j : goal.invariant-loop-j
invariant-loop-j l = (r : ℕ) → Most (members_room (beyond l.around l.potential l.set) l.j-iterator.left l.room) r → Most (members_room (beyond l.around l.potential l.set) l.set l.start) r

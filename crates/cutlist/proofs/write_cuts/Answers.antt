-- At the end the first places are the cuts of the two lists, and the others are as before. Assumes nothing.
use Prim.Native.Nat.{◌<◌}
use mathlib.Core.Path.{sym, ◌∙◌}
use native.Mathlib.Omega.{arith}
use lib.ListN.{length}
use Rattle.laws.proofs.Lists.{front_is}
use Rattle.cutlist.specs.Cuts.{lent_cut, lent_cuts}
use Rattle.cutlist.proofs.Columns.{lent_cuts-length, lent_cuts-at}
use Rattle.cutlist.proofs.write_cuts.Goals as goal

pub returns : goal.returns
returns c =
    let ss = c.args.shores.now in
    let ws = c.args.weights.now in
    let size = lent_cuts-length ss ws c.requires.pairs in
    front_is (lent_cut 0 0) (lent_cuts ss ws) c.args.cuts.now c.loop-k.cuts (omega (arith, size)) c.loop-k.auto.cuts
    (λ k l.
    let less : k < length ss = omega (arith, size) in
    c.loop-k.invariant.written k (omega arith) ∙ sym (lent_cuts-at ss ws (lent_cut 0 0) k c.requires.pairs less))
    (λ k l. c.loop-k.invariant.rest k (omega (arith, size)))

-- `hallfile::connected::is_connected` tells whether the hall is connected: what is reached from junction 1 over all rows, either way, is the whole hall or not. Assumes nothing.
use mathlib.Core.Path.{◌≡◌, sym, ap, ◌∙◌}
use mathlib.Core.Bool.{true, false}
use Prim.Native.Nat.{◌-◌}
use native.Mathlib.Omega.{arith}
use lib.Dec.{eqb}
use lib.ListN.{replicate, get_or-replicate}
use Rattle.laws.specs.Lists.{at}
use Rattle.junctions.specs.Sets.{full}
use Rattle.digraph.proofs.Reaching.{reached_reach}
use Rattle.columns.proofs.Ranged.{lanes_ranged}
use Rattle.hallfile.proofs.Links.{reach_connected}
use Rattle.hallfile.proofs.connected.is_connected.Goals as goal

pub returns : goal.returns
returns c = λ h are.
    let search = c.reach-search in
    let sets = c.of_rows-sets in
    let lanes = c.args.lanes.now in
    let size : full lanes.n ≡ full h.n = ap full (sym are.junctions) in
    ap (eqb search.result.set) (c.full.ensures ∙ size)
    ∙ reach_connected h (lanes_ranged h lanes c.requires are) (omega (arith, are.junctions, lanes.ends.size))
    (replicate 256 true) sets.result search.result.set
    (λ i p q. get_or-replicate 256 (i - 1) true false (omega (arith, are.rows, lanes.ends.few)))
    (sets.ensures h are) (reached_reach 64 (at sets.result) 1 search.result.set _ _ (omega arith) (omega arith) search.ensures (omega arith))

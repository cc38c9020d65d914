-- `pruning::leads` says true only where the target is in every closed set with the start: the search from the start holds it. Assumes nothing.
use mathlib.Core.Path.{◌≡◌}
use Prim.Native.Nat.{◌-◌, ◌*◌, ◌%◌, ◌^◌}
use native.Mathlib.Omega.{arith}
use lib.Bits.{bit_and}
use lib.Dec.{eqb}
use lib.ListN.{replicate}
use borrow.Author.Tests.{eqb-false, not-true}
use Rattle.laws.specs.Lists.{at}
use Rattle.junctions.proofs.Bits.{one_shl}
use Rattle.junctions.proofs.Single.{one_met}
use Rattle.digraph.proofs.Reaching.{searched_within}
use Rattle.pruning.proofs.leads.Goals as goal

pub returns : goal.returns
returns c = λ e t here shut. let a = c.args in let p = c.requires in let held = c.reach_until.result.set in
    let goal = (1 * 2 ^ (a.target - 1)) % 2 ^ 64 in
    let is : goal ≡ 2 ^ (a.target - 1) = one_shl (a.target - 1) (omega arith) in
    let met : bit_and held goal ≡ 0 → ⊥ = eqb-false (bit_and held goal) 0 (not-true (eqb (bit_and held goal) 0) e) in
    searched_within 64 (at a.arcs.now) a.start goal held (replicate 64 64) _ p.0 p.1 c.reach_until.ensures a.target p.2 p.3
    (one_met 64 held a.target (omega (arith, c.reach_until.type_inv)) p.2 (rw is at met)) t here shut

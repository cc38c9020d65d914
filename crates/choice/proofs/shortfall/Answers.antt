-- The goals that `choice::shortfall` leaves open, by the lemmas and the invariant of its loop. Assumes nothing.
use mathlib.Core.Option.{some}
use mathlib.Core.Path.{◌≡◌, sym, ap, ◌∙◌}
use mathlib.Core.Logic.{⊎_elim}
use Prim.Native.Nat.{ℕ, suc, ◌+◌, ◌-◌, ◌*◌, ◌%◌, ◌^◌}
use native.Mathlib.Omega.{arith}
use lib.Bits.{bit_and}
use lib.ListN.{replicate}
use Rattle.laws.specs.Lists.{at}
use Rattle.junctions.specs.Sets.{full}
use Rattle.junctions.proofs.Bits.{one_shl}
use Rattle.digraph.proofs.Reaching.{searched_within, searched_reach}
use Rattle.choice.proofs.Short.{known_more, short_more, short_stop, short_end, reach_is_closure, met_full}
use Rattle.choice.proofs.shortfall.Invariants.{from_each}
use Rattle.choice.proofs.shortfall.Goals as goal
use Rattle.choice.proofs.shortfall.Goals.{After-reach_until-reached}

-- a search that met no known junction gives what its junction reaches
whole : (c : After-reach_until-reached) → let set = c.reach_until-reached.result.set in
    bit_and set ((1 * 2 ^ c.loop-j.j) % 2 ^ 64 - 1) ≡ 0 → set ≡ from_each c.args.n c.args.adjacency.now (suc c.loop-j.j)
whole c e = let got = c.reach_until-reached in let out = at c.args.adjacency.now in
    reach_is_closure c.args.n out c.loop-j.j got.result.set c.requires.0 c.requires.1 c.loop-j-test.true
    (searched_reach 64 out (c.loop-j.j + 1) _ got.result.set (replicate 64 64) _ (omega arith) (omega arith) got.ensures e (omega (arith, got.type_inv)))

pub returns-then-reached-all : goal.returns-then-reached-all
returns-then-reached-all c = let f = from_each c.args.n c.args.adjacency.now in let t = c.loop-j-test.true in
    let got = whole (goal.at.returns-then-reached-all c).After-reach_until-reached c.if-reached-known-eq0.true in
    ap (λ (s : ℕ). some s) got ∙ sym (short_stop (full c.args.n) f c.args.n c.loop-j.j t (λ e. c.if-reached-all.true (got ∙ e ∙ sym c.full-all.ensures))) ∙ c.loop-j.invariant.left

pub loop-j-preserved : goal.loop-j-preserved
loop-j-preserved c = let n = c.args.n in let out = at c.args.adjacency.now in let j = c.loop-j.j in
    let t = c.loop-j-test.true in
    let got = c.reach_until-reached in
    let all_reached : from_each n c.args.adjacency.now (suc j) ≡ full n =
    ⊎_elim
    (λ e. sym (whole (goal.at.loop-j-preserved c).After-reach_until-reached e.0) ∙ e.1 ∙ c.full-all.ensures)
    (λ e. met_full n out c.requires.1 j _ got.result.set t (one_shl j (omega arith)) c.loop-j.invariant.known
    (searched_within 64 out (j + 1) _ got.result.set (replicate 64 64) _ (omega arith) (omega arith) got.ensures) c.requires.0 e)
    c.else-reached-known-eq0.either in record {
      left = sym (short_more (full n) (from_each n c.args.adjacency.now) n j t all_reached) ∙ c.loop-j.invariant.left;
      known = known_more n out j c.loop-j.invariant.known all_reached;
    }

pub returns : goal.returns
returns c = sym (short_end (full c.args.n) (from_each c.args.n c.args.adjacency.now) c.args.n c.loop-j.j (suc c.loop-j.j) c.loop-j-test.false) ∙ c.loop-j.invariant.left

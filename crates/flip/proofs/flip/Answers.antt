-- Each turn makes the arc to y from the junction before it, which is nearer to the start; at the start the route is made whole. Assumes nothing.
use mathlib.Core.Path.{◌≡◌, sym}
use Prim.Native.Nat.{ℕ, ◌≤◌, ◌<◌}
use native.Mathlib.Omega.{arith}
use lib.Dec.{eqb}
use lib.ListN.{length}
use borrow.Author.Tests.{eqb-true}
use borrow.Author.Rules.{rules}
use Rattle.laws.proofs.Booleans.{tests, by_bool}
use Rattle.digraph.specs.Paths.{Distances}
use Rattle.digraph.proofs.Layers.{before_there}
use Rattle.flip.proofs.Flips.{zero-inside, walking_start, walking_more, walking_end}
use Rattle.flip.proofs.flip.Goals as goal

-- a junction that is not the start is not at distance 0
farther : (n : ℕ) (out : ℕ → ℕ) (start : ℕ) (dist : ℕ → ℕ) → Distances n out start dist → (y : ℕ) → 1 ≤ y → y ≤ n → (y ≡ start → ⊥) → 0 < dist y
farther n out start dist d y l u other = by_bool (eqb (dist y) 0) (λ e. absurd (other (d.alone y l u (eqb-true (dist y) 0 e)))) (λ e. omega tests)

pub loop-y-init : goal.loop-y-init
loop-y-init c = record {
  from_one = c.requires.1;
  to_last = c.requires.2;
  reached = c.requires.3;
  size = c.told-chosen;
  walked = λ h n cols graph inside. (inside, walking_start h _ _ _ _ _ _);
}

pub before-x-requires : goal.before-x-requires
before-x-requires c = let l = c.loop-y.invariant in let far = c.requires.0 in (
  l.from_one,
  l.to_last,
  before_there _ _ _ _ far c.loop-y.y l.from_one l.to_last (farther _ _ _ _ far c.loop-y.y l.from_one l.to_last c.loop-y-test.true) l.reached,
)

pub loop-y-preserved : goal.loop-y-preserved
loop-y-preserved c = let b = c.before-x.ensures in let l = c.loop-y.invariant in let size : length c.make_arc-flags.result ≡ 256 = search rules in record {
  from_one = b.from_one;
  to_last = b.to_last;
  reached = omega (arith, b.closer, l.reached);
  size = size;
  walked = λ h n cols graph inside.
      let before = l.walked h n cols graph inside in
      let arc = zero-inside h _ _ _ _ _ graph c.before-x.result c.loop-y.y b.from_one b.to_last b.arc in (
        arc.0,
        walking_more h _ _ _ _ _ _ c.before-x.result c.loop-y.y _ _ l.from_one before.0 (sym b.closer) arc.1 (c.make_arc-flags.ensures h n cols) before.1,
      );
}

pub returns : goal.returns
returns c = λ h n cols graph inside.
    rw (sym c.loop-y-test.false)
    (walking_end h _ _ _ _ _ _ c.loop-y.y c.loop-y.flags c.args.row c.args.opened (omega (arith, c.loop-y.invariant.size, c.requires.4)) (c.loop-y.invariant.walked h n cols graph inside).1)

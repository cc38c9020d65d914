-- `choice::any_flagged` asks each flag. Assumes nothing.
use mathlib.Core.Bool.{Bool, false, ◌||◌}
use mathlib.Core.Path.{◌≡◌, refl, ap, ◌∙◌}
use Prim.Native.Nat.{ℕ}
use native.Mathlib.Numerals.{add-one}
use native.Mathlib.Omega.{arith}
use lib.ListN.{get_or}
use Rattle.laws.specs.Finite.{any_below}
use Rattle.choice.proofs.any_flagged.Goals as goal

pub loop-k-init : goal.loop-k-init
unfolding any_below
loop-k-init c = refl

pub loop-k-preserved : goal.loop-k-preserved
unfolding any_below
loop-k-preserved c = rw (add-one c.loop-k.k) (ap (λ (b : Bool). b || get_or c.args.flags.now c.loop-k.k false) c.loop-k.invariant)

pub returns : goal.returns
returns c = let all : c.loop-k.k ≡ 256 = omega arith in
    c.loop-k.invariant ∙ ap (λ (k : ℕ). any_below k (λ j. get_or c.args.flags.now j false)) all

-- Lone is the set of one junction, or none: a bit that is set or not, moved to the place. Assumes nothing.
use mathlib.Core.Path.{◌≡◌, sym, ap, ◌∙◌}
use mathlib.Core.Bool.{Bool, true, false, ◌&&◌}
use Prim.Native.Nat.{ℕ, suc, ◌-◌, ◌*◌, ◌%◌, ◌^◌, ◌≤◌, ◌<◌}
use native.Mathlib.Omega.{arith}
use lib.Dec.{eqb}
use mir.Val.{bool_byte}
use Rattle.junctions.specs.Sets.{holds}
use Rattle.junctions.proofs.Bits.{one_shl}
use Rattle.junctions.proofs.Sets.{one_holds, none_holds}
use Rattle.junctions.proofs.lone.Goals as goal

moved : (there : Bool) (k i : ℕ) → k < 64 → 1 ≤ i → holds ((bool_byte there * 2 ^ k) % 2 ^ 64) i ≡ (there && eqb i (suc k))
moved true k i less low =
    let e : suc k - 1 ≡ k = omega arith in
    ap (λ (s : ℕ). holds s i) (one_shl k less ∙ ap (λ (j : ℕ). 2 ^ j) (sym e)) ∙ one_holds i (suc k) low (omega arith)
moved false k i less low = let e : (0 * 2 ^ k) % 2 ^ 64 ≡ 0 = omega arith in ap (λ (s : ℕ). holds s i) e ∙ none_holds i

pub returns : goal.returns
returns c = rw c.from.ensures (λ i l. moved c.args.there c.args.place i c.requires l)

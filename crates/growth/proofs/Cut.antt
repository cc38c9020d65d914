-- An adjacency without one arc. Assumes nothing.
use mathlib.Core.Path.{◌≡◌, sym, ap, ◌∙◌}
use mathlib.Core.Bool.{Bool, true, ◌&&◌, not, and-true}
use Prim.Native.Nat.{ℕ, ◌-◌, ◌^◌, ◌≤◌, ◌<◌}
use native.Mathlib.Omega.{arith}
use lib.Dec.{eqb}
use lib.Bits.{bit_and, and_le_l, xor_lt}
use borrow.Author.Tests.{eqb-true}
use Rattle.laws.proofs.Booleans.{by_bool, and_l, and_r, and_i, not_true_false}
use Rattle.junctions.specs.Sets.{holds}
use Rattle.junctions.proofs.Sets.{less_holds, one_holds}
use Rattle.growth.specs.Robust.{arcs_without}

pub cut_holds :
    (out : ℕ → ℕ) (x y z i : ℕ) → 1 ≤ y → 1 ≤ i → holds (arcs_without out x y z) i ≡ (holds (out z) i && not (eqb z x && eqb i y))
unfolding arcs_without
cut_holds out x y z i ly li =
    by_bool (eqb z x)
    (λ e. rw e (less_holds (out z) (2 ^ (y - 1)) i ∙ ap (λ (b : Bool). holds (out z) i && not b) (one_holds i y li ly)))
    (λ e. rw e (sym (and-true (holds (out z) i))))

-- an arc that is not the one taken away is still there
pub cut_stays :
    (out : ℕ → ℕ) (x y z i : ℕ) → 1 ≤ y → 1 ≤ i → holds (out z) i ≡ true → (z ≡ x → i ≡ y → ⊥) → holds (arcs_without out x y z) i ≡ true
cut_stays out x y z i ly li arc other =
    let taken = eqb z x && eqb i y in
    cut_holds out x y z i ly li
    ∙ and_i (holds (out z) i) (not taken) arc
    (ap not (not_true_false taken (λ t. other (eqb-true z x (and_l (eqb z x) (eqb i y) t)) (eqb-true i y (and_r (eqb z x) (eqb i y) t)))))

pub cut_lt : (out : ℕ → ℕ) (x y z n : ℕ) → out z < 2 ^ n → arcs_without out x y z < 2 ^ n
unfolding arcs_without
cut_lt out x y z n l =
    by_bool (eqb z x) (λ e. rw e (xor_lt n (out z) (bit_and (out z) (2 ^ (y - 1))) l (omega (arith, and_le_l (out z) (2 ^ (y - 1)))))) (λ e. rw e l)

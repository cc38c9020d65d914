-- The arcs turned round, junction by junction. Assumes nothing.
use mathlib.Core.Path.{◌≡◌, sym, ap, ◌∙◌}
use mathlib.Core.Bool.{Bool, true, false, ◌&&◌, ◌||◌, or-false}
use mathlib.Core.List.{List}
use Prim.Native.Nat.{ℕ, ◌+◌, ◌-◌, ◌^◌, ◌≤◌}
use native.Mathlib.Omega.{arith}
use lib.Bits.{bit_or}
use lib.Dec.{eqb, ltb}
use lib.ListN.{replicate, get_or-replicate}
use borrow.Author.Tests.{eqb-true, eqb-false, lt-ltb, le-ltb, ltb-true, ltb-false}
use Rattle.laws.specs.Lists.{at}
use Rattle.laws.proofs.Booleans.{by_bool, and_i, or_r, cond_true, cond_false}
use Rattle.laws.proofs.Connectives.{and_false_l, and_false_r}
use Rattle.junctions.specs.Sets.{holds}
use Rattle.junctions.proofs.Sets.{or_holds, none_holds, one_holds}
use Rattle.digraph.specs.Paths.{TurnedRound}
use Rattle.digraph.specs.Turns.{Rounding}
use Rattle.digraph.specs.Layers.{Marked}

pub round_start : (out : ℕ → ℕ) → Rounding out (replicate 64 0) 1
round_start out y z l m p q =
    ap (λ (s : ℕ). holds s z) (get_or-replicate 64 (y - 1) 0 0 (omega arith)) ∙ none_holds z ∙ sym (and_false_l (ltb z 1) (holds (out z) y) (le-ltb z 1 p))

-- a number below the next one is the last or below it
below_next : (z x : ℕ) → eqb z x ≡ false → ltb z (x + 1) ≡ ltb z x
below_next z x e =
    by_bool (ltb z x) (λ t. lt-ltb z (x + 1) (omega (arith, ltb-true z x t)) ∙ sym t)
    (λ f. le-ltb z (x + 1) (omega (arith, ltb-false z x f, eqb-false z x e)) ∙ sym f)

pub round_step : (out : ℕ → ℕ) (back back' : List ℕ) (x : ℕ) → 1 ≤ x → Marked back back' (out x) (λ s. bit_or s (2 ^ (x - 1)))
    → Rounding out back x → Rounding out back' (x + 1)
round_step out back back' x low put so_far y z l m p q = by_bool (eqb z x) own other
  where
    own : eqb z x ≡ true → holds (at back' y) z ≡ (ltb z (x + 1) && holds (out z) y)
    own e =
        let is : z ≡ x = eqb-true z x e in
        by_bool (holds (out x) y)
        (λ t.
        ap (λ (s : ℕ). holds s z) (put.entry y l m ∙ cond_true (holds (out x) y) (bit_or (at back y) (2 ^ (x - 1))) (at back y) t)
        ∙ or_holds (at back y) (2 ^ (x - 1)) z ∙ or_r (holds (at back y) z) (holds (2 ^ (x - 1)) z) (one_holds z x p low ∙ e)
        ∙ sym (and_i (ltb z (x + 1)) (holds (out z) y) (lt-ltb z (x + 1) (omega (arith, is))) (ap (λ (j : ℕ). holds (out j) y) is ∙ t)))
        (λ f.
        ap (λ (s : ℕ). holds s z) (put.entry y l m ∙ cond_false (holds (out x) y) (bit_or (at back y) (2 ^ (x - 1))) (at back y) f)
        ∙ so_far y z l m p q ∙ and_false_l (ltb z x) (holds (out z) y) (le-ltb z x (omega (arith, is)))
        ∙ sym (and_false_r (ltb z (x + 1)) (holds (out z) y) (ap (λ (j : ℕ). holds (out j) y) is ∙ f)))

    other : eqb z x ≡ false → holds (at back' y) z ≡ (ltb z (x + 1) && holds (out z) y)
    other e = stays ∙ so_far y z l m p q ∙ ap (λ (b : Bool). b && holds (out z) y) (sym (below_next z x e))
      where
        stays : holds (at back' y) z ≡ holds (at back y) z
        stays =
            by_bool (holds (out x) y)
            (λ t.
            ap (λ (s : ℕ). holds s z) (put.entry y l m ∙ cond_true (holds (out x) y) (bit_or (at back y) (2 ^ (x - 1))) (at back y) t)
            ∙ or_holds (at back y) (2 ^ (x - 1)) z ∙ ap (λ (b : Bool). holds (at back y) z || b) (one_holds z x p low ∙ e) ∙ or-false (holds (at back y) z))
            (λ f. ap (λ (s : ℕ). holds s z) (put.entry y l m ∙ cond_false (holds (out x) y) (bit_or (at back y) (2 ^ (x - 1))) (at back y) f))

pub round_end : (out : ℕ → ℕ) (back : List ℕ) (x : ℕ) → 64 ≤ x - 1 → Rounding out back x → TurnedRound 64 out (at back)
round_end out back x h so_far z y p q l m = so_far y z l m p q ∙ ap (λ (b : Bool). b && holds (out z) y) (lt-ltb z x (omega arith))

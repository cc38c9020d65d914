-- Levels differ along a row by its load. Assumes nothing.
use mathlib.Core.Path.{◌≡◌, refl}
use mathlib.Core.Bool.{Bool, true, false, not, ◌&&◌, cond}
use mathlib.Core.List.{List, [], ◌∷◌}
use Prim.Native.Nat.{ℕ, suc, ◌+◌, ◌≤◌}
use native.Mathlib.Omega.{arith}
use Rattle.laws.proofs.Booleans.{clash}
use Rattle.junctions.specs.Sets.{holds}
use Rattle.hall.specs.Hall.{Hall, row, count, enters}
use Rattle.hall.specs.Plan.{Cut, cuts_good, load, level_sum}
use Rattle.dicuts.proofs.Shores.{cut_shore}
use Rattle.duality.proofs.Cuts.{good_cut, good_rest}

-- one cut: it holds the head where it holds the tail
one_level : (tail head : Bool) (w : ℕ) → (tail ≡ true → head ≡ true) → cond head w 0 ≡ cond tail w 0 + cond (not tail && head) w 0
one_level true true w f = omega arith
one_level true false w f = clash (f refl) refl
one_level false true w f = omega arith
one_level false false w f = refl

pub levels-rise : (h : Hall) (i : ℕ) → 1 ≤ i → i ≤ count h → (a : ℕ) (ks : List Cut) → cuts_good h a ks ≡ true
    → level_sum (row h i).to ks ≡ level_sum (row h i).from ks + load ks (row h i)
unfolding level_sum load enters
levels-rise h i low high a [] good = refl
levels-rise h i low high a (k ∷ ks) good =
    let shore = cut_shore h k.shore (good_cut h a k ks good) in
    omega (
      arith,
      one_level (holds k.shore (row h i).from) (holds k.shore (row h i).to) k.weight (shore.kept i low high),
      levels-rise h i low high (suc k.shore) ks (good_rest h a k ks good),
    )

-- A hall fixes the figures of each of its rows. Assumes nothing.
use mathlib.Core.Path.{◌≡◌, refl, ap, ap₂}
use mathlib.Core.Bool.{Bool, true, false}
use Prim.Native.Nat.{ℕ}
use native.Mathlib.Omega.{arith}
use Rattle.std.specs.Prelude.{Option, Some, None}
use Rattle.laws.proofs.Booleans.{clash}
use Rattle.hall.specs.Hall.{Hall}
use Rattle.forcing.specs.Figures.{Figures, is_fixed, totals, LeastTotal, FiguresOf}

module _ (h : Hall) (i : ℕ) where
  total_alone : (has : Bool) (s t : ℕ) → LeastTotal h i has (Some s) → LeastTotal h i has (Some t) → s ≡ t
  unfolding LeastTotal
  total_alone has s t v w = omega (arith, v.1 w.0.0 w.0.1, v.0.2, w.1 v.0.0 v.0.1, w.0.2)

  least_alone : (has : Bool) (s t : Option ℕ) → LeastTotal h i has s → LeastTotal h i has t → s ≡ t
  unfolding LeastTotal
  least_alone has None None v w = refl
  least_alone has None (Some t) v w = absurd (v w.0.0 w.0.1)
  least_alone has (Some s) None v w = absurd (w v.0.0 v.0.1)
  least_alone has (Some s) (Some t) v w = ap (λ (n : ℕ). Some n) (total_alone has s t v w)

  pub row_alone : (f g : Figures) → FiguresOf h i f → FiguresOf h i g → f ≡ g
  unfolding FiguresOf
  row_alone is_fixed is_fixed v w = refl
  row_alone is_fixed (totals a b) v w = clash v w.0
  row_alone (totals a b) is_fixed v w = clash w v.0
  row_alone (totals a b) (totals c d) v w = ap₂ (λ (n : ℕ) (o : Option ℕ). totals n o) (total_alone true a c v.1 w.1) (least_alone false b d v.2 w.2)

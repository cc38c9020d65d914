-- The parts of a list of good cuts, and loads within prices row by row. Assumes nothing.
use mathlib.Core.Path.{◌≡◌}
use mathlib.Core.Bool.{true, false, ◌&&◌, ◌||◌}
use mathlib.Core.List.{List, [], ◌∷◌}
use mathlib.Core.Logic.{⊎_elim}
use Prim.Native.Nat.{ℕ, zero, suc, ◌-◌, ◌<◌, ◌≤◌}
use native.Mathlib.Omega.{arith}
use lib.Dec.{leb, ltb}
use lib.ListN.{length, get_or}
use borrow.Author.Tests.{leb-true, ltb-true}
use Rattle.laws.proofs.Booleans.{clash, and_l, and_r, or_cases}
use Rattle.hall.specs.Hall.{Hall, Row, row, row_of, count, is_cut}
use Rattle.hall.specs.Plan.{Cut, cuts_good, none_cross, load, loads_fit}
use Rattle.duality.specs.Weighted.{Carried}

module _ (h : Hall) (a : ℕ) (k : Cut) (ks : List Cut) (good : cuts_good h a (k ∷ ks) ≡ true) where
  front : ((leb a k.shore && is_cut h k.shore) && (ltb 0 k.weight && none_cross h.n k.shore ks)) ≡ true
  unfolding cuts_good
  front = and_l _ (cuts_good h (suc k.shore) ks) good

  pub good_cut : is_cut h k.shore ≡ true
  good_cut = let f = front in search (and_l, and_r)

  pub good_weight : 1 ≤ k.weight
  good_weight = let f = front in search (and_l, and_r, ltb-true)

  pub good_rest : cuts_good h (suc k.shore) ks ≡ true
  unfolding cuts_good
  good_rest = and_r ((leb a k.shore && is_cut h k.shore) && (ltb 0 k.weight && none_cross h.n k.shore ks)) (cuts_good h (suc k.shore) ks) good

fits_at : (ks : List Cut) (rs : List Row) (k : ℕ) (none : Row) → loads_fit ks rs ≡ true → k < length rs → (get_or rs k none).fixed ≡ false
    → load ks (get_or rs k none) ≤ (get_or rs k none).price
unfolding loads_fit
fits_at ks [] k none e l free = absurd (omega arith)
fits_at ks (r ∷ rs) zero none e l free =
    ⊎_elim (λ (t : r.fixed ≡ true). clash t free) (λ (t : leb (load ks r) r.price ≡ true). leb-true (load ks r) r.price t)
    (or_cases r.fixed (leb (load ks r) r.price) (and_l (r.fixed || leb (load ks r) r.price) (loads_fit ks rs) e))
fits_at ks (r ∷ rs) (suc k) none e l free = fits_at ks rs k none (and_r (r.fixed || leb (load ks r) r.price) (loads_fit ks rs) e) (omega arith) free

-- loads that fit are within the prices
pub loads_carried : (h : Hall) (ks : List Cut) → loads_fit ks h.rows ≡ true → Carried h (λ i. (row h i).price) ks
unfolding Carried row count
loads_carried h ks e i low high free = fits_at ks h.rows (i - 1) (row_of 0 0 0) e (omega arith) free

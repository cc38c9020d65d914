-- Cuts beside a choice: no choice that meets every cut has a smaller total, chosen rows are loaded to their prices, each cut is entered once. Assumes nothing.
use mathlib.Core.Path.{◌≡◌, ◌∙◌}
use mathlib.Core.Bool.{true}
use mathlib.Core.List.{List}
use Prim.Native.Nat.{ℕ, ◌+◌, ◌<◌, ◌≤◌}
use native.Mathlib.Omega.{arith}
use lib.ListN.{length, get_or}
use Rattle.hall.specs.Hall.{Hall, row, count, is_choice, entering, member}
use Rattle.hall.specs.Plan.{Cut, Beside, cuts_good, load, loads_fit, level_sum, weight_sum, total}
use Rattle.dicuts.proofs.Choices.{total_over}
use Rattle.duality.specs.Weighted.{MeetsAll}
use Rattle.duality.proofs.Cuts.{loads_carried}
use Rattle.duality.proofs.Bounds.{weights_below, loads_full, cuts_met_once}
use Rattle.duality.proofs.Levels.{levels-rise}

pub weights_below_total : (h : Hall) (ks : List Cut) → cuts_good h 1 ks ≡ true → loads_fit ks h.rows ≡ true
    → (d : List ℕ) → is_choice h d ≡ true → MeetsAll h d → weight_sum ks ≤ total h d
weights_below_total h ks good loads d choice meeting =
    rw (total_over h d) (weights_below h d meeting choice ks 1 good (λ i. (row h i).price) (loads_carried h ks loads))

module _ (h : Hall) (c : List ℕ) (ks : List Cut) (beside : Beside h c ks) where
  pub beside_least : (d : List ℕ) → is_choice h d ≡ true → MeetsAll h d → total h c ≤ total h d
  beside_least d choice meeting = omega (arith, weights_below_total h ks beside.good beside.loads d choice meeting)

  pub beside_rises : (i : ℕ) → 1 ≤ i → i ≤ count h → level_sum (row h i).to ks ≡ level_sum (row h i).from ks + load ks (row h i)
  beside_rises i low high = levels-rise h i low high 1 ks beside.good

  module _ (choice : is_choice h c ≡ true) (meeting : MeetsAll h c) where
    pub beside_loads : (i : ℕ) → member i c ≡ true → load ks (row h i) ≡ (row h i).price
    beside_loads =
        loads_full h c meeting choice ks 1 beside.good (λ i. (row h i).price) (loads_carried h ks beside.loads) (beside.sum ∙ total_over h c)

    pub beside_once : (j : ℕ) (none : Cut) → j < length ks → entering h (get_or ks j none).shore c ≡ 1
    beside_once =
        cuts_met_once h c meeting choice ks 1 beside.good (λ i. (row h i).price) (loads_carried h ks beside.loads) (beside.sum ∙ total_over h c)

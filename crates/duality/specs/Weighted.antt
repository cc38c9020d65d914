-- What a choice meets of weighted cuts, and weights that costs can carry. Assumes nothing: these are definitions.
use Rattle.std.specs.Prelude.{◌≡◌, true, false, List, [], ◌∷◌, ℕ, ◌+◌, ◌*◌, ◌≤◌}
use Rattle.hall.specs.Hall.{Hall, row, count, is_cut, entering}
use Rattle.hall.specs.Plan.{Cut, load}

-- the weights of the cuts, each counted as often as a row of the list enters its shore
unfoldable pub weight_met : Hall → List Cut → List ℕ → ℕ
weight_met h [] d = 0
weight_met h (k ∷ ks) d = k.weight * entering h k.shore d + weight_met h ks d

-- the list meets every directed cut
unfoldable pub MeetsAll : Hall → List ℕ → Type 0
MeetsAll h d = (s : ℕ) → is_cut h s ≡ true → 1 ≤ entering h s d

-- the load of every row that is not fixed is within its cost
unfoldable pub Carried : Hall → (cost : ℕ → ℕ) → List Cut → Type 0
Carried h cost ks = (i : ℕ) → 1 ≤ i → i ≤ count h → (row h i).fixed ≡ false → load ks (row h i) ≤ cost i

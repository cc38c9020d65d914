-- Cuts in two columns of places, and levels in a lent column. Assumes nothing: these are definitions.
use Rattle.std.specs.Prelude.{◌≡◌, List, [], ◌∷◌, ℕ, zero, suc, ◌+◌, ◌^◌, ◌≤◌, ◌<◌, ℤ, pos, get_or, length}
use Rattle.hall.specs.Plan.{Cut, cut, level_sum, difference}

-- the cuts of the next `left` places from place i on
unfoldable pub cuts_in : (left i : ℕ) → (shores weights : ℕ → ℕ) → List Cut
cuts_in zero i shores weights = []
cuts_in (suc k) i shores weights = cut (shores i) (weights i) ∷ cuts_in k (suc i) shores weights

-- the levels of junctions 1 to n fit into 32 bits
unfoldable pub Near : (n : ℕ) → List Cut → Type 0
Near n ks = (j : ℕ) → 1 ≤ j → j ≤ n → (level_sum j ks < level_sum 1 ks + 2 ^ 31) × (level_sum 1 ks < level_sum j ks + 2 ^ 31)

-- the first k places have levels, and the others are as before
pub record Levelled (ks : List Cut) (k : ℕ) (before after : List ℤ) : Type 0 where
  pub size : length after ≡ length before
  pub first : (i : ℕ) → i < k → get_or after i (pos 0) ≡ difference (level_sum (suc i) ks) (level_sum 1 ks)
  pub rest : (i : ℕ) → k ≤ i → get_or after i (pos 0) ≡ get_or before i (pos 0)

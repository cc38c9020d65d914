-- Columns whose first places are given, and charges. Assumes nothing: these are definitions.
use Rattle.std.specs.Prelude.{◌≡◌, Bool, false, List, ℕ, ◌≤◌, ◌<◌, get_or, length}
use Rattle.order.specs.Ranked.{charge_of}

-- the first k places of the column are at f, all others at 0
pub record Padded (size : ℕ) (f : ℕ → ℕ) (k : ℕ) (column : List ℕ) : Type 0 where
  pub long : length column ≡ size
  pub first : (i : ℕ) → i < k → get_or column i 0 ≡ f i
  pub rest : (i : ℕ) → k ≤ i → get_or column i 0 ≡ 0

-- the charge of the row at place k
abbrev pub charged : (prices : List ℕ) → (fixed : List Bool) → (k : ℕ) → ℕ
charged prices fixed k = charge_of (get_or fixed k false) (get_or prices k 0)

-- Prices within the limit. Assumes nothing: this is a definition.
use Rattle.std.specs.Prelude.{List, ℕ, ◌≤◌, ◌<◌, get_or}

-- none of the first m prices is over 1,000,000
abbrev pub PricesLow : (m : ℕ) → (prices : List ℕ) → Type 0
PricesLow m prices = (k : ℕ) → k < m → get_or prices k 0 ≤ 1000000

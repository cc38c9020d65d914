-- The potential that is left to start from where one row costs otherwise. Assumes nothing: this is a definition.
use Rattle.std.specs.Prelude.{ℕ, ◌-◌}

-- THE POTENTIAL SHUT between two levels: less what of it lies between them
unfoldable pub shut : (low high : ℕ) → (p : ℕ → ℕ) → ℕ → ℕ
shut a b p j = p j - ((p j - a) - (p j - b))

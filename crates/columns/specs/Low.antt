-- Numbers so low that sums of two fit a word. Assumes nothing: this is a definition.
use Rattle.std.specs.Prelude.{List, ℕ, ◌^◌, ◌<◌, get_or}

-- every number of the list is below 2 to the power 62
abbrev pub Low : List ℕ → Type 0
Low xs = (k : ℕ) → get_or xs k 0 < 2 ^ 62

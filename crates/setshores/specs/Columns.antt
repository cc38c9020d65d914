-- A column that is filled place by place. Assumes nothing: these are definitions.
use Rattle.std.specs.Prelude.{◌≡◌, List, ℕ, ◌<◌, length}
use Rattle.shorelist.specs.Listed.{place_of}

-- the first k of the column's places are those of f
pub record FilledTo (size : ℕ) (f : ℕ → ℕ) (k : ℕ) (column : List ℕ) : Type 0 where
  pub long : length column ≡ size
  pub at : (i : ℕ) → i < k → place_of column i ≡ f i

-- Which of two sets of rows has the first row in which they differ. Assumes nothing: these are definitions.
use Rattle.std.specs.Prelude.{◌≡◌, Bool, true, false, ℕ, ◌≤◌, ◌<◌}

-- of the numbers 1 to m, the first in which the two sets differ is in F
pub record DiffersFirst (m : ℕ) (F G : ℕ → Bool) : Type 0 where
  pub at : ℕ
  pub low : 1 ≤ at
  pub high : at ≤ m
  pub has : F at ≡ true
  pub lacks : G at ≡ false
  pub same : (j : ℕ) → 1 ≤ j → j < at → F j ≡ G j

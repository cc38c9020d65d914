-- The three reasons for which one choice goes before another. Assumes nothing: these are definitions.
use Rattle.std.specs.Prelude.{◌≡◌, true, List, ℕ, ◌<◌, length}
use Rattle.hall.specs.Hall.{Hall}
use Rattle.hall.specs.Plan.{total, earlier}

-- a smaller total, or fewer rows of the same total, or as many rows of the same total and earlier in the dictionary
pub data Precedes (h : Hall) (c d : List ℕ) : Type 0 where
  by_total : total h c < total h d → Precedes h c d
  by_length : total h c ≡ total h d → length c < length d → Precedes h c d
  by_dictionary : total h c ≡ total h d → length c ≡ length d → earlier c d ≡ true → Precedes h c d

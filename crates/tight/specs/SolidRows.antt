-- The solid arcs of the first rows of the lanes. Assumes nothing: these are definitions.
use Rattle.std.specs.Prelude.{◌≡◌, Bool, false, ◌&&◌, ◌||◌, List, ℕ, ◌≤◌, eqb, leb, length, get_or}
use Rattle.laws.specs.Lists.{at}
use Rattle.laws.specs.Finite.{any_below, count_below}
use Rattle.junctions.specs.Sets.{holds}
use Rattle.columns.specs.declared.Lanes.{Lanes}

-- the row at place k runs from x to y
abbrev pub ahead : Lanes → (x y k : ℕ) → Bool
ahead l x y k = eqb (get_or l.tails k 0) x && eqb (get_or l.heads k 0) y

-- the row at place k is flagged and runs from y to x
abbrev pub back : Lanes → (flags : List Bool) → (x y k : ℕ) → Bool
back l fs x y k = get_or fs k false && (eqb (get_or l.heads k 0) x && eqb (get_or l.tails k 0) y)

-- the sets after the first k rows: what a flagged row leads back to, and the solid arcs
pub record SolidRows (l : Lanes) (flags : List Bool) (k : ℕ) (once solids : List ℕ) : Type 0 where
  pub once_size : length once ≡ 64
  pub solids_size : length solids ≡ 64
  pub once_holds : (x y : ℕ) → 1 ≤ x → 1 ≤ y → holds (at once x) y ≡ leb 1 (count_below k (back l flags x y))
  pub solids_hold : (x y : ℕ) → 1 ≤ x → 1 ≤ y →
      holds (at solids x) y ≡ (any_below k (ahead l x y) || leb 2 (count_below k (back l flags x y)))

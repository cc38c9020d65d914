-- Columns filled row by row, and what stands at their places. Assumes nothing.
use mathlib.Core.Path.{◌≡◌, refl, ap, ◌∙◌}
use mathlib.Core.List.{List, [], ◌∷◌, map}
use Prim.Native.Nat.{ℕ, zero, suc, ◌+◌, ◌<◌}
use native.Mathlib.Numerals.{add-one}
use native.Mathlib.Omega.{arith}
use lib.ListN.{length, get_or, set, take}
use Rattle.hall.specs.Hall.{Row}
use Rattle.hallfile.specs.Record.{padded, column}

-- what stands at each place, where what stands for a missing one is the filler
module _ {A : Type 0} (d : A) where
  padded_filled : (k i : ℕ) → get_or (padded d k []) i d ≡ d
  unfolding padded
  padded_filled zero i = refl
  padded_filled (suc k) zero = refl
  padded_filled (suc k) (suc i) = padded_filled k i

  padded-at : (k : ℕ) (xs : List A) (i : ℕ) → i < k → get_or (padded d k xs) i d ≡ get_or xs i d
  unfolding padded
  padded-at zero xs i h = absurd (omega arith)
  padded-at (suc k) [] zero h = refl
  padded-at (suc k) [] (suc i) h = padded_filled k i
  padded-at (suc k) (x ∷ xs) zero h = refl
  padded-at (suc k) (x ∷ xs) (suc i) h = padded-at k xs i (omega arith)

  module _ (f : Row → A) where
    map_at : (rs : List Row) (i : ℕ) (none : Row) → i < length rs → get_or (map f rs) i d ≡ f (get_or rs i none)
    map_at [] i none h = absurd (omega arith)
    map_at (r ∷ rs) zero none h = refl
    map_at (r ∷ rs) (suc i) none h = map_at rs i none (omega arith)

    -- at a place that a row has
    pub column-at : (rs : List Row) (i : ℕ) (none : Row) → i < length rs → i < 256 → get_or (column d f rs) i d ≡ f (get_or rs i none)
    unfolding column
    column-at rs i none h g = padded-at 256 (map f rs) i g ∙ map_at rs i none h

    padded_store : (k : ℕ) (rs : List Row) (i : ℕ) (none : Row) → i < length rs → i < k
        → set (padded d k (map f (take i rs))) i (f (get_or rs i none)) ≡ padded d k (map f (take (suc i) rs))
    unfolding padded
    padded_store k [] i none h g = absurd (omega arith)
    padded_store zero (r ∷ rs) i none h g = absurd (omega arith)
    padded_store (suc k) (r ∷ rs) zero none h g = refl
    padded_store (suc k) (r ∷ rs) (suc i) none h g = ap (λ (l : List A). f r ∷ l) (padded_store k rs i none (omega arith) (omega arith))

    -- the column of i rows, after a store at place i, is that of one more
    pub column_store : (rs : List Row) (i : ℕ) (v : A) (none : Row) → i < length rs → i < 256 → v ≡ f (get_or rs i none)
        → set (column d f (take i rs)) i v ≡ column d f (take (i + 1) rs)
    unfolding column
    column_store rs i v none h g e = rw (e, add-one i) (padded_store 256 rs i none h g)

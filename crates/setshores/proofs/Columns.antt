-- A column is filled place by place. Assumes nothing.
use mathlib.Core.Path.{◌≡◌, ap, ◌∙◌}
use mathlib.Core.List.{List}
use Prim.Native.Nat.{ℕ, suc, ◌+◌, ◌-◌, ◌<◌}
use native.Mathlib.Omega.{arith}
use lib.ListN.{length, set, length-set}
use lib.Seq.{get_or-set_same, get_or-set_other}
use borrow.Author.Count.{below_more}
use Rattle.laws.specs.Lists.{at}
use Rattle.shorelist.specs.Listed.{place_of}
use Rattle.setshores.specs.Columns.{FilledTo}

pub filled_none : (size : ℕ) (f : ℕ → ℕ) (column : List ℕ) → length column ≡ size → FilledTo size f 0 column
filled_none size f column e = record { long = e; at = λ i l. absurd (omega arith) }

pub filled_more : (size : ℕ) (f : ℕ → ℕ) (k : ℕ) (column : List ℕ) (v : ℕ) → k < size → v ≡ f k → FilledTo size f k column → FilledTo size f (k + 1) (set column k v)
filled_more size f k column v l e g = record {
  long = length-set column k v ∙ g.long;
  at = below_more (λ (i : ℕ). place_of (set column k v) i ≡ f i) k
      (λ i m. get_or-set_other column k i v 0 (λ q. omega arith) ∙ g.at i m)
      (get_or-set_same column k v 0 (omega (arith, g.long)) ∙ e);
}

-- place k stands for junction k + 1
pub place_next : (column : List ℕ) (k : ℕ) → place_of column k ≡ at column (suc k)
place_next column k = let e : k ≡ suc k - 1 = omega arith in ap (place_of column) e

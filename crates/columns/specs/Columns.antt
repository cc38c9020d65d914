-- What arrays say of a hall: row i and junction j stand at places i - 1 and j - 1. Assumes nothing: these are definitions.
use Rattle.std.specs.Prelude.{◌≡◌, Bool, false, List, ℕ, ◌-◌, ◌≤◌, ◌<◌, get_or}
use Rattle.laws.specs.Lists.{at}
use Rattle.hall.specs.Hall.{Hall, row, count}
use Rattle.dicuts.specs.Shores.{once, around}
use Rattle.dicuts.specs.Arcs.{arcs}

-- flags as a set of rows
abbrev pub flagged : List Bool → (i : ℕ) → Bool
flagged xs i = get_or xs (i - 1) false

-- the ends of m rows are junctions 1 to n
pub record Ends (n m : ℕ) (tails heads : List ℕ) : Type 0 where
  pub size : n ≤ 64
  pub few : m ≤ 256
  pub tail_low : (k : ℕ) → k < m → 1 ≤ get_or tails k 0
  pub tail_high : (k : ℕ) → k < m → get_or tails k 0 ≤ n
  pub head_low : (k : ℕ) → k < m → 1 ≤ get_or heads k 0
  pub head_high : (k : ℕ) → k < m → get_or heads k 0 ≤ n

-- the columns hold the rows of a hall of n junctions and m rows
pub record Columns (h : Hall) (n m : ℕ) (tails heads : List ℕ) : Type 0 where
  pub junctions : h.n ≡ n
  pub rows : count h ≡ m
  pub tail : (i : ℕ) → 1 ≤ i → i ≤ m → at tails i ≡ (row h i).from
  pub head : (i : ℕ) → 1 ≤ i → i ≤ m → at heads i ≡ (row h i).to

-- the flags are the marks of the fixed rows
abbrev pub Marks : Hall → (fixed : List Bool) → Type 0
Marks h fixed = (i : ℕ) → 1 ≤ i → i ≤ count h → flagged fixed i ≡ (row h i).fixed

-- the sets are the arcs of a set of rows
unfoldable pub Arcs : Hall → (F : ℕ → Bool) → (sets : List ℕ) → Type 0
Arcs h F sets = (x : ℕ) → 1 ≤ x → x ≤ h.n → at sets x ≡ arcs h F x

-- the sets are the tight neighbourhoods of a set of rows
unfoldable pub Neighbourhoods : Hall → (F : ℕ → Bool) → (sets : List ℕ) → Type 0
Neighbourhoods h F sets = (v : ℕ) → 1 ≤ v → v ≤ h.n → at sets v ≡ around h (once F) v

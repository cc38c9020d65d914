-- Shores, sets of rows with multiplicities, joining and tight: what the combinatorics speaks of. Assumes nothing: these are definitions.
use Rattle.std.specs.Prelude.{◌≡◌, Bool, true, false, ◌&&◌, not, cond, ℕ, suc, ◌^◌, ◌≤◌, ◌<◌, eqb}
use Rattle.laws.specs.Finite.{sum_below, any_below, one_if}
use Rattle.junctions.specs.Sets.{holds, full, gather}
use Rattle.hall.specs.Hall.{Hall, row, count, enters, is_cut}

-- both ends of every row are junctions of the hall
pub record Ranged (h : Hall) : Type 0 where
  pub some : 1 ≤ h.n
  pub from_low : (i : ℕ) → 1 ≤ i → i ≤ count h → 1 ≤ (row h i).from
  pub from_high : (i : ℕ) → 1 ≤ i → i ≤ count h → (row h i).from ≤ h.n
  pub to_low : (i : ℕ) → 1 ≤ i → i ≤ count h → 1 ≤ (row h i).to
  pub to_high : (i : ℕ) → 1 ≤ i → i ≤ count h → (row h i).to ≤ h.n

-- directions ignored, the hall does not fall apart: no set of junctions but none and all is entered and left by no row
unfoldable pub Linked : Hall → Type 0
Linked h =
    (s : ℕ) → 0 < s → s < full h.n →
    ((i : ℕ) → 1 ≤ i → i ≤ count h → holds s (row h i).from ≡ holds s (row h i).to) → ⊥

-- A SHORE of a directed cut: neither empty nor the whole hall, and no row leaves it
pub record Shore (h : Hall) (s : ℕ) : Type 0 where
  pub some : 0 < s
  pub proper : s < full h.n
  pub kept : (i : ℕ) → 1 ≤ i → i ≤ count h → holds s (row h i).from ≡ true → holds s (row h i).to ≡ true

-- how often the rows enter the shore, row i taken x i times
unfoldable pub cover : Hall → (x : ℕ → ℕ) → (shore : ℕ) → ℕ
cover h x s = sum_below (count h) (λ k. cond (enters s (row h (suc k))) (x (suc k)) 0)

-- A SET OF ROWS is a test on row numbers; each of its rows is taken once
unfoldable pub once : (rows : ℕ → Bool) → ℕ → ℕ
once F i = one_if (F i)

-- the rows that are not fixed
abbrev pub unfixed_row : Hall → (i : ℕ) → Bool
unfixed_row h i = not (row h i).fixed

-- JOINING (a dijoin, with multiplicities): every shore is entered
unfoldable pub Joining : Hall → (x : ℕ → ℕ) → Type 0
Joining h x = (s : ℕ) → Shore h s → 1 ≤ cover h x s

-- TIGHT: a shore that is entered once
pub record Tight (h : Hall) (x : ℕ → ℕ) (s : ℕ) : Type 0 where
  pub shore : Shore h s
  pub one : cover h x s ≡ 1

-- SEPARATED: some tight shore holds v and not u
pub record Sep (h : Hall) (x : ℕ → ℕ) (v u : ℕ) : Type 0 where
  pub set : ℕ
  pub tight : Tight h x set
  pub has : holds set v ≡ true
  pub lacks : holds set u ≡ false

-- the same as a test, over all sets
unfoldable pub sep : Hall → (x : ℕ → ℕ) → (v u : ℕ) → Bool
sep h x v u = any_below (2 ^ h.n) (λ s. (is_cut h s && eqb (cover h x s) 1) && (holds s v && not (holds s u)))

-- the tight neighbourhood of v: the junctions that are not separated from it
unfoldable pub around : Hall → (x : ℕ → ℕ) → (v : ℕ) → ℕ
around h x v = gather h.n (λ u. not (sep h x v u))

-- What is promised where one quote changes, the price of one row that is not fixed. The statement is a type; proofs/Promise.antt proves it. Assumes nothing.
use Rattle.std.specs.Prelude.{◌≡◌, true, false, List, ℕ, ◌+◌, ◌≤◌}
use Rattle.hall.specs.Hall.{Hall, row, count, member}
use Rattle.hall.specs.File.{hall_in}
use Rattle.hall.specs.Plan.{First, total}
use Rattle.joining.specs.Promise.{accepted}

-- DEARER: g is h but for row i, which is not fixed and costs d more
pub record Dearer (h g : Hall) (i d : ℕ) : Type 0 where
  pub junctions : g.n ≡ h.n
  pub rows : count g ≡ count h
  pub low : 1 ≤ i
  pub high : i ≤ count h
  pub others : (k : ℕ) → 1 ≤ k → k ≤ count h → (k ≡ i → ⊥) → row g k ≡ row h k
  pub from_same : (row g i).from ≡ (row h i).from
  pub to_same : (row g i).to ≡ (row h i).to
  pub free : ((row h i).fixed ≡ false) × ((row g i).fixed ≡ false)
  pub more : (row g i).price ≡ (row h i).price + d

-- with the price the total grows by at most d and never falls; a row that is not in the cheaper hall's plan does not move the plan, and one that is
-- in the dearer hall's plan does not either, but the total grows by exactly d
unfoldable pub QuoteMoves : Type 0
QuoteMoves =
    (bs cs : List ℕ) (i d : ℕ) (c e : List ℕ) → accepted bs ≡ true → accepted cs ≡ true → Dearer (hall_in bs) (hall_in cs) i d →
    First (hall_in bs) c → First (hall_in cs) e →
    ((total (hall_in bs) c ≤ total (hall_in cs) e) × (total (hall_in cs) e ≤ total (hall_in bs) c + d))
    × (member i c ≡ false → e ≡ c)
    × (member i e ≡ true → (c ≡ e) × (total (hall_in bs) c + d ≡ total (hall_in cs) e))

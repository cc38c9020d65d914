-- For each junction the row of its first step, in a table. Assumes nothing: these are definitions.
use Rattle.std.specs.Prelude.{◌≡◌, Bool, true, ◌&&◌, ◌||◌, not, cond, List, ℕ, ◌+◌, ◌≤◌, ◌<◌, eqb, length}
use Rattle.std.proofs.Math.Option.{some}
use Rattle.laws.specs.Lists.{at}
use Rattle.hall.specs.Hall.{Hall, row, member}
use Rattle.dicuts.specs.Shores.{Ranged}
use Rattle.routes.specs.Route.{Step}
use Rattle.routes.specs.Reached.{FewestTo, ArcsOf}
use Rattle.routes.specs.Nearer.{LowestStep}
use Rattle.columns.specs.Columns.{flagged}
use Rattle.columns.specs.Lanes.{RowsOf}
use Rattle.columns.specs.declared.Lanes.{Lanes}

-- the lanes, their flags and the arcs are those of a hall and a choice
pub record OpenedHall (h : Hall) (c : List ℕ) (lanes : Lanes) (chosen : List Bool) (sets : List ℕ) : Type 0 where
  pub columns : RowsOf h h.n lanes
  pub flags : (i : ℕ) → 1 ≤ i → i ≤ lanes.count → flagged chosen i ≡ member i c
  pub arcs : ArcsOf h c (at sets)

-- it leads from x if it leads from the first end, and the second is one nearer by the fewest rows D to the target
unfoldable pub leads_nearer : (D : ℕ → ℕ) → (from to x : ℕ) → Bool
leads_nearer D from to x = eqb from x && eqb (D to + 1) (D from)

-- the table has k at x if that leads so, and is else as before
pub record Noted (D : ℕ → ℕ) (k from to : ℕ) (before after : List ℕ) : Type 0 where
  pub size : length after ≡ 64
  pub entry : (x : ℕ) → 1 ≤ x → x ≤ 64 → at after x ≡ cond (leads_nearer D from to x) k (at before x)

-- row i leads from x to a junction one nearer: forward, or backward if it is chosen
unfoldable pub nearer_row : Lanes → (chosen : List Bool) → (D : ℕ → ℕ) → (x i : ℕ) → Bool
nearer_row l fs D x i = leads_nearer D (at l.tails i) (at l.heads i) x || (flagged fs i && leads_nearer D (at l.heads i) (at l.tails i) x)

-- r is the lowest of the numbers over k, up to m, that pass, where one does
unfoldable pub LowestOver : (k m : ℕ) → (passes : ℕ → Bool) → (r : ℕ) → Type 0
LowestOver k m p r = (i : ℕ) → k < i → i ≤ m → p i ≡ true → (k < r) × (r ≤ i) × (p r ≡ true)

-- the table has for each junction the lowest row over k that leads to one nearer
pub record RowsOver (k : ℕ) (lanes : Lanes) (chosen : List Bool) (D : ℕ → ℕ) (first : List ℕ) : Type 0 where
  pub size : length first ≡ 64
  pub lowest : (x : ℕ) → 1 ≤ x → x ≤ 64 → LowestOver k lanes.count (nearer_row lanes chosen D x) (at first x)

-- the step over the row at x, forward where the row leads from x
unfoldable pub step_at : Hall → (first : List ℕ) → (x : ℕ) → Step
step_at h first x = record { number = at first x; back = not (eqb (row h (at first x)).from x) }

-- by the fewest rows D from each junction to b, the table has for each but b the lowest step to a junction one nearer
pub record Guided (h : Hall) (c : List ℕ) (b : ℕ) (D : ℕ → ℕ) (lanes : Lanes) (first : List ℕ) : Type 0 where
  pub size : h.n ≤ 64
  pub columns : RowsOf h h.n lanes
  pub ranged : Ranged h
  pub fewest : (x : ℕ) → 1 ≤ x → x ≤ h.n → FewestTo h c x b (some (D x))
  pub lowest : (x : ℕ) → 1 ≤ x → x ≤ h.n → (x ≡ b → ⊥) → LowestStep h c D x (step_at h first x)

-- The zero graph of a set of rows and a potential: the changes that cost nothing; and the raise of a potential on a set. Assumes nothing: these are definitions.
use Rattle.std.specs.Prelude.{◌≡◌, Bool, true, false, ◌&&◌, ◌||◌, cond, ℕ, suc, ◌+◌, ◌≤◌, eqb}
use Rattle.laws.specs.Finite.{any_below}
use Rattle.junctions.specs.Sets.{holds, gather}
use Rattle.hall.specs.Hall.{Hall, row, count}
use Rattle.dicuts.specs.Shores.{around, once}

-- row i may be OPENED on the way from x to y: it is movable, runs from y to x, and the potential rises along it by its whole cost
pub record Opens (h : Hall) (movable : ℕ → Bool) (c p : ℕ → ℕ) (x y i : ℕ) : Type 0 where
  pub low : 1 ≤ i
  pub high : i ≤ count h
  pub free : movable i ≡ true
  pub rise : p x ≡ p y + c i
  pub from_is : (row h i).from ≡ y
  pub to_is : (row h i).to ≡ x

-- row i may be CLOSED on the way from x to y: it is movable, chosen, and runs from x to y
pub record Closes (h : Hall) (movable : ℕ → Bool) (F : ℕ → Bool) (x y i : ℕ) : Type 0 where
  pub low : 1 ≤ i
  pub high : i ≤ count h
  pub free : movable i ≡ true
  pub chosen : F i ≡ true
  pub from_is : (row h i).from ≡ x
  pub to_is : (row h i).to ≡ y

-- x may be SWAPPED for y: no tight shore holds x and not y, and the potential is the same
pub record SwapsFor (h : Hall) (p : ℕ → ℕ) (F : ℕ → Bool) (x y : ℕ) : Type 0 where
  pub near : holds (around h (once F) x) y ≡ true
  pub level : p x ≡ p y

-- Opens as a test, for a row i of the hall
unfoldable pub opens : Hall → (movable : ℕ → Bool) → (c p : ℕ → ℕ) → (x y i : ℕ) → Bool
opens h m c p x y i = (m i && eqb (p x) (p y + c i)) && (eqb (row h i).from y && eqb (row h i).to x)

-- Closes as a test, for a row i of the hall
unfoldable pub closes : Hall → (movable F : ℕ → Bool) → (x y i : ℕ) → Bool
closes h m F x y i = (m i && F i) && (eqb (row h i).from x && eqb (row h i).to y)

-- SwapsFor as a test
unfoldable pub swaps : Hall → (p : ℕ → ℕ) → (F : ℕ → Bool) → (x y : ℕ) → Bool
swaps h p F x y = holds (around h (once F) x) y && eqb (p x) (p y)

-- some arc of the zero graph leads from x to y
unfoldable pub zero_arc : Hall → (movable : ℕ → Bool) → (c p : ℕ → ℕ) → (F : ℕ → Bool) → (x y : ℕ) → Bool
zero_arc h m c p F x y = any_below (count h) (λ k. opens h m c p x y (suc k) || closes h m F x y (suc k)) || swaps h p F x y

-- THE ZERO GRAPH: the junctions that its arcs lead to from x
unfoldable pub zero_arcs : Hall → (movable : ℕ → Bool) → (c p : ℕ → ℕ) → (F : ℕ → Bool) → (x : ℕ) → ℕ
zero_arcs h m c p F x = gather h.n (zero_arc h m c p F x)

-- every row is movable
abbrev pub every_row : (i : ℕ) → Bool
every_row i = true

-- P1 on the movable rows alone
unfoldable pub UnderOn : Hall → (movable : ℕ → Bool) → (c p : ℕ → ℕ) → Type 0
UnderOn h m c p = (i : ℕ) → 1 ≤ i → i ≤ count h → m i ≡ true → p (row h i).to ≤ p (row h i).from + c i

-- the potential raised by e on the set
unfoldable pub raised : (set e : ℕ) → (p : ℕ → ℕ) → ℕ → ℕ
raised z e p j = cond (holds z j) (p j + e) (p j)

-- a raise by e on the set keeps within the costs of the movable rows that enter it, and within the neighbourhoods that leave it
pub record Raisable (h : Hall) (movable : ℕ → Bool) (c p : ℕ → ℕ) (F : ℕ → Bool) (z e : ℕ) : Type 0 where
  pub rows : (i : ℕ) → 1 ≤ i → i ≤ count h → movable i ≡ true → holds z (row h i).from ≡ false → holds z (row h i).to ≡ true →
      p (row h i).to + e ≤ p (row h i).from + c i
  pub near : (v u : ℕ) → 1 ≤ v → v ≤ h.n → 1 ≤ u → u ≤ h.n → holds z v ≡ true → holds z u ≡ false → holds (around h (once F) v) u ≡ true →
      p v + e ≤ p u

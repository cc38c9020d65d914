-- Routes in the zero graph with what each of their arcs changes, and the set of rows after those changes. Assumes nothing: these are definitions.
use Rattle.std.specs.Prelude.{◌≡◌, Bool, true, false, cond, List, [], ◌∷◌, ℕ, suc, ◌+◌, ◌-◌, ◌≤◌, ◌<◌, eqb}
use Rattle.laws.specs.Finite.{one_if}
use Rattle.hall.specs.Hall.{Hall, row}
use Rattle.dicuts.specs.Shores.{once, Joining}
use Rattle.dicuts.specs.Crossing.{Swap}
use Rattle.potentials.specs.Potential.{Parted}
use Rattle.potentials.specs.ZeroGraph.{Opens, Closes, SwapsFor}

-- A LEG of a route: the row that it opens or closes, if it is no swap, and the junction where it ends
pub data Leg : Type 0 where
  by_open : (row ends : ℕ) → Leg
  by_close : (row ends : ℕ) → Leg
  by_swap : (ends : ℕ) → Leg

-- where a leg ends
unfoldable pub end_of : Leg → ℕ
end_of (by_open i w) = w
end_of (by_close i w) = w
end_of (by_swap w) = w

-- from x the leg is an arc of the zero graph
unfoldable pub Takes : Hall → (movable : ℕ → Bool) → (c p : ℕ → ℕ) → (F : ℕ → Bool) → (x : ℕ) → Leg → Type 0
Takes h m c p F x (by_open i w) = Opens h m c p x w i
Takes h m c p F x (by_close i w) = Closes h m F x w i
Takes h m c p F x (by_swap w) = SwapsFor h p F x w

-- A ROUTE from x over legs to y, on which the distance grows by one with each leg
unfoldable pub Route : Hall → (movable : ℕ → Bool) → (c p : ℕ → ℕ) → (F : ℕ → Bool) → (dist : ℕ → ℕ) → (x : ℕ) → List Leg → (y : ℕ) → Type 0
Route h m c p F dist x [] y = x ≡ y
Route h m c p F dist x (l ∷ ls) y =
    (1 ≤ end_of l) × (end_of l ≤ h.n) × Takes h m c p F x l × (dist (end_of l) ≡ suc (dist x)) × Route h m c p F dist (end_of l) ls y

-- the leg leads from y back to x by a row: one that may be opened, or a chosen one with a gap
unfoldable pub Turns : Hall → (movable : ℕ → Bool) → (c p : ℕ → ℕ) → (F : ℕ → Bool) → (y : ℕ) → Leg → (x : ℕ) → Type 0
Turns h m c p F y (by_open i w) x = (w ≡ x) × Opens h m c p y w i
Turns h m c p F y (by_close i w) x = (w ≡ x) × Closes h m F y w i × (p w < p y + c i)
Turns h m c p F y (by_swap w) x = ⊥

-- what a row has, with b for row i: a set of rows with row i in it or not, or costs at which row i costs b
unfoldable pub put : {A : Type 0} → (i : ℕ) → A → (F : ℕ → A) → ℕ → A
put i b F k = cond (eqb k i) b (F k)

-- the set of rows after one leg
unfoldable pub after : Leg → (F : ℕ → Bool) → ℕ → Bool
after (by_open i w) F = put i true F
after (by_close i w) F = put i false F
after (by_swap w) F = F

-- the set of rows after all legs, the last one made first
unfoldable pub flipped : List Leg → (F : ℕ → Bool) → ℕ → Bool
flipped [] F = F
flipped (l ∷ ls) F = after l (flipped ls F)

-- how often each row is taken after one leg: a row that is chosen and opened counts twice
unfoldable pub weigh : Leg → (x : ℕ → ℕ) → ℕ → ℕ
weigh (by_open i w) x k = x k + one_if (eqb k i)
weigh (by_close i w) x k = x k - one_if (eqb k i)
weigh (by_swap w) x k = x k

-- how often each row is taken after all legs
unfoldable pub tally : List Leg → (F : ℕ → Bool) → ℕ → ℕ
tally [] F = once F
tally (l ∷ ls) F = weigh l (tally ls F)

-- the swap that a leg from x is, before others
unfoldable pub swap_of : (x : ℕ) → Leg → List Swap → List Swap
swap_of x (by_open i w) ss = ss
swap_of x (by_close i w) ss = ss
swap_of x (by_swap w) ss = record { out = x; into = w } ∷ ss

-- the swaps of a route from x, in its order
unfoldable pub swaps_of : (x : ℕ) → List Leg → List Swap
swaps_of x [] = []
swaps_of x (l ∷ ls) = swap_of x l (swaps_of (end_of l) ls)

-- the rows that are taken are those of G
pub record Supports (G : ℕ → Bool) (x : ℕ → ℕ) : Type 0 where
  pub chosen : (k : ℕ) → G k ≡ true → 1 ≤ x k
  pub others : (k : ℕ) → G k ≡ false → x k ≡ 0

-- WHAT A FLIP KEEPS: G joins, P3 holds, no other than movable rows have changed, and new ones have no gap
pub record Flip (h : Hall) (movable : ℕ → Bool) (c p : ℕ → ℕ) (F G : ℕ → Bool) : Type 0 where
  pub joining : Joining h (once G)
  pub parted : Parted h (once G) p
  pub fixed : (k : ℕ) → movable k ≡ false → G k ≡ F k
  pub new : (k : ℕ) → G k ≡ true → F k ≡ false → p (row h k).to ≡ p (row h k).from + c k

-- Costs c give each row a whole number, a potential p each junction one; three conditions tie them to a set of rows F. Assumes nothing: these are definitions.
use Rattle.std.specs.Prelude.{◌≡◌, Bool, true, cond, ℕ, suc, ◌+◌, ◌-◌, ◌≤◌, ◌<◌}
use Rattle.laws.specs.Finite.{sum_below}
use Rattle.hall.specs.Hall.{Hall, row, count}
use Rattle.dicuts.specs.Shores.{Sep}

-- P1: along each row the potential rises by at most the row's cost
unfoldable pub Under : Hall → (c p : ℕ → ℕ) → Type 0
Under h c p = (i : ℕ) → 1 ≤ i → i ≤ count h → p (row h i).to ≤ p (row h i).from + c i

-- P2: along each chosen row it rises by at least the row's cost
unfoldable pub Paid : Hall → (c p : ℕ → ℕ) → (F : ℕ → Bool) → Type 0
Paid h c p F = (i : ℕ) → 1 ≤ i → i ≤ count h → F i ≡ true → p (row h i).from + c i ≤ p (row h i).to

-- P3: where the potential is higher at v than at u, some tight shore holds v and not u
unfoldable pub Parted : Hall → (x p : ℕ → ℕ) → Type 0
Parted h x p = (v u : ℕ) → 1 ≤ v → v ≤ h.n → 1 ≤ u → u ≤ h.n → p u < p v → Sep h x v u

-- what a row's cost is over the rise of the potential along it
unfoldable pub gap : Hall → (c p : ℕ → ℕ) → (i : ℕ) → ℕ
gap h c p i = p (row h i).from + c i - p (row h i).to

-- the sum of the gaps of the chosen rows: what `repair` brings down to 0
unfoldable pub slack : Hall → (c p : ℕ → ℕ) → (F : ℕ → Bool) → ℕ
slack h c p F = sum_below (count h) (λ k. cond (F (suc k)) (gap h c p (suc k)) 0)

-- what a set of rows costs
unfoldable pub cost : Hall → (c : ℕ → ℕ) → (F : ℕ → Bool) → ℕ
cost h c F = sum_below (count h) (λ k. cond (F (suc k)) (c (suc k)) 0)

-- What a list of cuts has to show beside a set of rows and a potential. Assumes nothing: these are definitions.
use Rattle.std.specs.Prelude.{◌≡◌, true, List, ℕ, ◌+◌, ◌≤◌}
use Rattle.hall.specs.Hall.{Hall, row, count}
use Rattle.hall.specs.Plan.{Cut, cuts_good, load, level_sum}
use Rattle.dicuts.specs.Shores.{Tight}
use Rattle.laminar.specs.Families.{shore_family}

-- A CERTIFICATE of a potential: cross-free cuts with tight shores, under which each row's load is the rise of the potential along it
pub record Certificate (h : Hall) (x p : ℕ → ℕ) (ks : List Cut) : Type 0 where
  pub good : cuts_good h 1 ks ≡ true
  pub tight : (s : ℕ) → shore_family ks s ≡ true → Tight h x s
  pub rises : (i : ℕ) → 1 ≤ i → i ≤ count h → load ks (row h i) + p (row h i).from ≡ p (row h i).to
  pub levels : (i j : ℕ) → 1 ≤ i → i ≤ h.n → 1 ≤ j → j ≤ h.n → level_sum i ks + p j ≡ level_sum j ks + p i

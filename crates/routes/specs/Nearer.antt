-- Steps that lead one row nearer to a target, and the lowest of them. Assumes nothing: these are definitions.
use Rattle.std.specs.Prelude.{◌≡◌, true, List, ℕ, suc, ◌≤◌}
use Rattle.hall.specs.Hall.{Hall}
use Rattle.routes.specs.Route.{Step, starts, ends, may_run}

-- a step from x to a junction one nearer, by the fewest rows D from each junction to the target
pub record Nearer (h : Hall) (c : List ℕ) (D : ℕ → ℕ) (x : ℕ) (s : Step) : Type 0 where
  pub runs : may_run h c s ≡ true
  pub here : starts h s ≡ x
  pub closer : suc (D (ends h s)) ≡ D x

-- such a step whose row is the lowest
pub record LowestStep (h : Hall) (c : List ℕ) (D : ℕ → ℕ) (x : ℕ) (s : Step) : Type 0 where
  pub nearer : Nearer h c D x s
  pub least : (t : Step) → Nearer h c D x t → s.number ≤ t.number

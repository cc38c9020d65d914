-- `follow` writes a step a turn. The invariant: for every hall that the table guides through the first steps of its route are written and lead to the place at hand (OnRoute). Assumes nothing.
use mathlib.Core.Path.{◌≡◌}
use mathlib.Core.List.{List}
use Prim.Native.Nat.{ℕ, suc, ◌≤◌}
use lib.ListN.{length}
use Rattle.hall.specs.Hall.{Hall}
use Rattle.shortest.specs.Steps.{Guided}
use Rattle.shortest.proofs.Following.{OnRoute}
use Rattle.shortest.proofs.follow.Given as goal

abbrev pub invariant-loop-row : goal.invariant-loop-row
invariant-loop-row l = (h : Hall) (c : List ℕ) (b : ℕ) (D : ℕ → ℕ) → Guided h c b D l.lanes l.first → 1 ≤ l.from → l.from ≤ h.n → D l.from ≡ length l.initial.row-items
    → OnRoute h c l.from b D (suc l.here) l.row-index l.initial.row-items l.row-items

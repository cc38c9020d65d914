-- Sets of rows that agree on the rows of a hall have the same arcs. Assumes nothing.
use mathlib.Core.Path.{◌≡◌, ap}
use mathlib.Core.Bool.{Bool, ◌&&◌, ◌||◌}
use Prim.Native.Nat.{ℕ, suc, ◌≤◌}
use native.Mathlib.Omega.{arith}
use lib.Dec.{eqb}
use Rattle.laws.proofs.Agree.{any_ext}
use Rattle.junctions.proofs.Gather.{gather_ext}
use Rattle.hall.specs.Hall.{Hall, row, count}
use Rattle.dicuts.specs.Arcs.{arc, arcs}

pub arcs_ext : (h : Hall) (F G : ℕ → Bool) → ((i : ℕ) → 1 ≤ i → i ≤ count h → F i ≡ G i) → (x : ℕ) → arcs h F x ≡ arcs h G x
unfolding arcs arc
arcs_ext h F G same x =
    gather_ext h.n (arc h F x) (arc h G x) (λ y l m.
    any_ext (count h) _ _ (λ k less.
    ap (λ (b : Bool). (eqb (row h (suc k)).from x && eqb (row h (suc k)).to y) || (b && (eqb (row h (suc k)).to x && eqb (row h (suc k)).from y)))
    (same (suc k) (omega arith) (omega arith))))

-- A route of fewest arcs from the tail of a row without a gap to its head may be flipped and the row opened. Assumes nothing.
use mathlib.Core.Path.{◌≡◌, refl}
use mathlib.Core.Bool.{Bool, true}
use mathlib.Core.List.{List}
use Prim.Native.Nat.{ℕ, suc, ◌+◌, ◌≤◌}
use Rattle.junctions.specs.Sets.{holds}
use Rattle.hall.specs.Hall.{Hall, row, count}
use Rattle.dicuts.specs.Shores.{Ranged, once, Joining}
use Rattle.potentials.specs.Potential.{Parted}
use Rattle.potentials.specs.ZeroGraph.{zero_arcs}
use Rattle.potentials.specs.Flip.{Leg, by_open, Flip, Turns, after, Route}
use Rattle.potentials.proofs.Flip.{flip_keeps}
use Rattle.deciding.specs.Deciding.{opened}

pub opened_flip :
    (h : Hall) → Ranged h → (m : ℕ → Bool) (c p : ℕ → ℕ) (F : ℕ → Bool) (dist : ℕ → ℕ) →
    ((x y : ℕ) → 1 ≤ x → x ≤ h.n → 1 ≤ y → y ≤ h.n → holds (zero_arcs h m c p F x) y ≡ true → dist y ≤ suc (dist x)) →
    Joining h (once F) → Parted h (once F) p → (i : ℕ) → 1 ≤ i → i ≤ count h → m i ≡ true → p (row h i).to ≡ p (row h i).from + c i →
    (ls : List Leg) → Route h m c p F dist (row h i).from ls (row h i).to → Flip h m c p F (opened i ls F)
unfolding Turns after opened
opened_flip h rg m c p F dist ahead joining parted i l u free rise ls route =
    flip_keeps h m c p F dist ahead (row h i).from (rg.from_low i l u) (rg.from_high i l u) ls (row h i).to route joining parted
    (by_open i (row h i).from) (refl, record { low = l; high = u; free = free; rise = rise; from_is = refl; to_is = refl })

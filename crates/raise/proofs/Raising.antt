-- The room that rows and neighbourhoods leave is one for a raise. Assumes nothing.
use mathlib.Core.Path.{◌≡◌, sym, ap, ◌∙◌}
use mathlib.Core.Bool.{Bool, true}
use mathlib.Core.List.{List}
use Prim.Native.Nat.{ℕ, ◌≤◌}
use native.Mathlib.Omega.{arith}
use Rattle.laws.specs.Lists.{at}
use Rattle.junctions.specs.Sets.{holds}
use Rattle.junctions.proofs.Bounds.{junction_le}
use Rattle.hall.specs.Hall.{Hall, count}
use Rattle.dicuts.specs.Shores.{around, once}
use Rattle.dicuts.proofs.Shores.{around_lt}
use Rattle.columns.specs.Columns.{Neighbourhoods}
use Rattle.potentials.specs.Potential.{gap}
use Rattle.potentials.specs.ZeroGraph.{UnderOn}
use Rattle.potentials.proofs.Raise.{near_rises, row_bound, near_bound}
use Rattle.raise.specs.Rooms.{Most, RowsAllow, NearAllow, Room}

pub room_all :
    (h : Hall) (movable : ℕ → Bool) (c p : ℕ → ℕ) (F : ℕ → Bool) (near : List ℕ) (m z start r s : ℕ) → count h ≡ m → Neighbourhoods h F near →
    Most (λ e. (e ≤ start) × RowsAllow h movable c p z m e) r → Most (λ e. (e ≤ r) × NearAllow (at near) p z e) s → Room h movable c p F z start s
unfolding Neighbourhoods RowsAllow NearAllow UnderOn gap
room_all h movable c p F near m z start r s rows there first second =
    record {
      most = omega (arith, first.fits.0, second.fits.0);
      able = λ under parted.
          record {
            rows = λ i l u t o v. omega (arith, under i l u t, second.fits.0, first.fits.1 i l (omega (arith, rows)) t o v);
            near = λ v u lv kv lu ku v_in u_out n.
                omega (
                  arith,
                  near_rises h (once F) p parted v u lv kv lu ku n,
                  second.fits.1 v lv v_in u lu u_out (ap (λ (w : ℕ). holds w u) (there v lv kv) ∙ n),
                );
          };
      some = λ rg under parted inside closed one.
          second.most 1 (
            first.most 1 (one, λ i l u t o v. omega (arith, row_bound h rg movable c p F z closed under i l (omega (arith, rows)) t o v)),
            λ v lv v_in u lu u_out n.
                let kv : v ≤ h.n = junction_le h.n z v inside v_in in
                let near_u : holds (around h (once F) v) u ≡ true = sym (ap (λ (w : ℕ). holds w u) (there v lv kv)) ∙ n in
                let ku : u ≤ h.n = junction_le h.n (around h (once F) v) u (around_lt h (once F) v) near_u in
                omega (arith, near_bound h rg movable c p F z closed parted v u lv kv lu ku v_in u_out near_u),
          );
    }

-- What bounds a raise on a set: rows that enter it, and neighbourhoods that leave it. Assumes nothing: these are definitions.
use Rattle.std.specs.Prelude.{◌≡◌, Bool, true, false, ℕ, ◌-◌, ◌^◌, ◌≤◌, ◌<◌}
use Rattle.junctions.specs.Sets.{holds}
use Rattle.digraph.specs.Reach.{Closed}
use Rattle.hall.specs.Hall.{Hall, row}
use Rattle.dicuts.specs.Shores.{Ranged, once}
use Rattle.potentials.specs.Potential.{Parted, gap}
use Rattle.potentials.specs.ZeroGraph.{zero_arcs, UnderOn, raised, Raisable}

-- r is the most of the numbers that are allowed
pub record Most (allowed : ℕ → Type 0) (r : ℕ) : Type 0 where
  pub fits : allowed r
  pub most : (e : ℕ) → allowed e → e ≤ r

-- of the first k rows, no movable one that enters the set has a gap below e
unfoldable pub RowsAllow : Hall → (movable : ℕ → Bool) → (c p : ℕ → ℕ) → (set k e : ℕ) → Type 0
RowsAllow h m c p z k e =
    (i : ℕ) → 1 ≤ i → i ≤ k → m i ≡ true → holds z (row h i).from ≡ false → holds z (row h i).to ≡ true → e ≤ gap h c p i

-- no junction of the set has a potential less than e over low
unfoldable pub OverSet : (p : ℕ → ℕ) → (low set e : ℕ) → Type 0
OverSet p low s e = (u : ℕ) → 1 ≤ u → holds s u ≡ true → e ≤ p u - low

-- no junction outside the set, in the neighbourhood of one inside, has a potential less than e over that one's
unfoldable pub NearAllow : (near p : ℕ → ℕ) → (set e : ℕ) → Type 0
NearAllow near p z e =
    (v : ℕ) → 1 ≤ v → holds z v ≡ true → (u : ℕ) → 1 ≤ u → holds z u ≡ false → holds (near v) u ≡ true → e ≤ p u - p v

-- THE ROOM for a raise on the set, up to a start: where P1 and P3 hold it keeps within all bounds, and where the set is closed and in the hall it is not 0
pub record Room (h : Hall) (movable : ℕ → Bool) (c p : ℕ → ℕ) (F : ℕ → Bool) (set start r : ℕ) : Type 0 where
  pub most : r ≤ start
  pub able : UnderOn h movable c p → Parted h (once F) p → Raisable h movable c p F set r
  pub some : Ranged h → UnderOn h movable c p → Parted h (once F) p → set < 2 ^ h.n →
      Closed h.n (zero_arcs h movable c p F) set → 1 ≤ start → 1 ≤ r

-- q is p raised on the set, within the room up to the gap of row i
abbrev pub RaisedFor : Hall → (movable : ℕ → Bool) → (c p : ℕ → ℕ) → (F : ℕ → Bool) → (set i : ℕ) → (q : ℕ → ℕ) → Type 0
RaisedFor h m c p F z i q = (e : ℕ) × Room h m c p F z (gap h c p i) e × ((j : ℕ) → 1 ≤ j → j ≤ 64 → q j ≡ raised z e p j)

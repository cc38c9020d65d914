-- A route walked back in the flags, with a row that leads back to its start, is a flip. Assumes nothing.
use mathlib.Core.Path.{◌≡◌, refl, sym, ap, ◌∙◌}
use mathlib.Core.Bool.{Bool, true, false}
use mathlib.Core.List.{List}
use Prim.Native.Nat.{ℕ, zero, suc, ◌+◌, ◌≤◌}
use native.Mathlib.Omega.{arith}
use Rattle.laws.specs.Lists.{at}
use Rattle.junctions.specs.Sets.{holds}
use Rattle.digraph.specs.Paths.{Distances}
use Rattle.hall.specs.Hall.{Hall, row}
use Rattle.dicuts.specs.Shores.{once, Joining}
use Rattle.joining.proofs.Joining.{joining_mono}
use Rattle.columns.specs.Columns.{flagged}
use Rattle.potentials.specs.Potential.{Parted}
use Rattle.potentials.specs.ZeroGraph.{zero_arcs}
use Rattle.potentials.specs.Flip.{Leg, Turns, put, after, flipped, Flip}
use Rattle.potentials.proofs.Flip.{flip_keeps}
use Rattle.potentials.proofs.Same.{parted_same}
use Rattle.potentials.proofs.Weights.{put_same}
use Rattle.zerograph.specs.Zero.{ZeroGraph}
use Rattle.flip.specs.Flips.{SameRows, Walked, turning}

-- a leg that turns puts its row in, or takes it out
after-turning : (b : Bool) (i w : ℕ) (F : ℕ → Bool) → after (turning b i w) F ≡ put i b F
unfolding after turning
after-turning true i w F = refl
after-turning false i w F = refl

-- no arc of the zero graph skips a distance
pub graph_ahead :
    (h : Hall) (m : ℕ → Bool) (c p : ℕ → ℕ) (F : ℕ → Bool) (sets : List ℕ) (start : ℕ) (dist : ℕ → ℕ) → h.n ≤ 64 → ZeroGraph h m c p F sets →
    Distances 64 (at sets) start dist → (x y : ℕ) → 1 ≤ x → x ≤ h.n → 1 ≤ y → y ≤ h.n → holds (zero_arcs h m c p F x) y ≡ true → dist y ≤ suc (dist x)
graph_ahead h m c p F sets start dist small graph d x y lx kx ly ky arc =
    d.ahead x y lx (omega arith) ly (omega arith) (ap (λ (s : ℕ). holds s y) (graph.inside x lx kx) ∙ arc)

module _ (h : Hall) (movable chosen : List Bool) (costs potential : List ℕ) where
  abbrev F : ℕ → Bool
  F = flagged chosen

  abbrev m : ℕ → Bool
  m = flagged movable

  abbrev c : ℕ → ℕ
  c = at costs

  abbrev p : ℕ → ℕ
  p = at potential

  -- the same rows but for number 0, which stands for number 1 in flags
  flip_flags : (G : ℕ → Bool) (result : List Bool) → SameRows (flagged result) G → Flip h m c p F G → Flip h m c p F (flagged result)
  unfolding row
  flip_flags G result same flip =
      record {
        joining = joining_mono h G (flagged result) (λ k l u e. same k l ∙ e) flip.joining;
        parted = parted_same h p p (λ j l u. refl) G (flagged result) (λ k l u. sym (same k l)) flip.parted;
        fixed = fixed_all;
        new = new_all;
      }
    where
      fixed_all : (k : ℕ) → m k ≡ false → flagged result k ≡ F k
      fixed_all zero e = same 1 (omega arith) ∙ flip.fixed 1 e
      fixed_all (suc k) e = same (suc k) (omega arith) ∙ flip.fixed (suc k) e

      new_all : (k : ℕ) → flagged result k ≡ true → F k ≡ false → p (row h k).to ≡ p (row h k).from + c k
      new_all zero t e = flip.new 1 (sym (same 1 (omega arith)) ∙ t) e
      new_all (suc k) t e = flip.new (suc k) (sym (same (suc k) (omega arith)) ∙ t) e

  pub walked_flip :
      (sets : List ℕ) (start target : ℕ) (dist : ℕ → ℕ) (i : ℕ) (b : Bool) (result : List Bool) → h.n ≤ 64 → ZeroGraph h m c p F sets →
      Distances 64 (at sets) start dist → 1 ≤ start → start ≤ h.n → Joining h (once F) → Parted h (once F) p → 1 ≤ i →
      Turns h m c p F target (turning b i start) start → Walked h m c p F dist start target i b (flagged result) →
      Flip h m c p F (flagged result) × (flagged result i ≡ b)
  walked_flip sets start target dist i b result small graph d low high joining parted some turns walked =
      let ls : List Leg = walked.0 in
      let flip : Flip h m c p F (after (turning b i start) (flipped ls F)) =
      flip_keeps h m c p F dist (graph_ahead h m c p F sets start dist small graph d) start low high ls target walked.1 joining parted (turning b i start) turns in
      let made : Flip h m c p F (put i b (flipped ls F)) = rw (after-turning b i start (flipped ls F)) at flip in
      (flip_flags (put i b (flipped ls F)) result walked.2 made, walked.2 i some ∙ put_same i b (flipped ls F))

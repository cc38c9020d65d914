-- A potential that meets P3 for a joining set of rows is made of weights on tight shores; with P1 and P2 no joining set costs less. Assumes nothing.
use mathlib.Core.Path.{◌≡◌, sym, ◌∙◌}
use mathlib.Core.Bool.{Bool}
use Prim.Native.Nat.{ℕ, ◌≤◌}
use native.Mathlib.Omega.{arith}
use Rattle.hall.specs.Hall.{Hall, row, enters}
use Rattle.hall.specs.Plan.{load}
use Rattle.dicuts.specs.Shores.{Ranged, once, Joining}
use Rattle.potentials.specs.Potential.{Parted, cost}
use Rattle.potentials.specs.Compare.{rise, Weighs}
use Rattle.potentials.specs.Repair.{Repaired}
use Rattle.potentials.proofs.Compare.{cheapest}
use Rattle.certificates.specs.Cuts.{peak, weight, cuts}
use Rattle.certificates.proofs.Classes.{peak_high}
use Rattle.certificates.proofs.Levels.{weights-spread}
use Rattle.certificates.proofs.Listing.{load-weigh}
use Rattle.certificates.proofs.Certificate.{weight-tight, cuts-weigh, certificate}

module _ (h : Hall) (ranged : Ranged h) (x p : ℕ → ℕ) (joins : Joining h x) (parted : Parted h x p) where
  rise-load : (i : ℕ) → rise h (weight h x p (peak h.n p)) i ≡ load (cuts h x p (peak h.n p)) (row h i)
  unfolding rise
  rise-load i =
      let top = peak h.n p in
      weights-spread h x p top (λ s. enters s (row h i))
      ∙ sym (load-weigh (cuts h x p top) (row h i) ∙ cuts-weigh h ranged x p joins parted top (λ s. enters s (row h i)))

  pub parted_weighs : (w : ℕ → ℕ) × Weighs h x p w
  parted_weighs =
      let top = peak h.n p in (
        weight h x p top,
        record {
          on_tight = λ s l pos. weight-tight h ranged x p joins parted top s pos;
          rises = λ i l u. omega (arith, rise-load i, (certificate h ranged x p joins parted top (peak_high h.n p)).rises i l u);
        },
      )

-- no joining set costs less than a repaired one
pub repaired_least : (h : Hall) → Ranged h → (c p : ℕ → ℕ) (F : ℕ → Bool) → Repaired h c p F → (G : ℕ → Bool) → Joining h (once G) → cost h c F ≤ cost h c G
repaired_least h ranged c p F done =
    let w = parted_weighs h ranged (once F) p done.joining done.parted in
    cheapest h F p w.0 w.1 c done.under done.paid

-- The cuts of a potential that meets P1, P2 and P3 for the charges, with any set of rows, stand beside the first choice: its total is what that set is charged. Assumes nothing.
use mathlib.Core.Path.{◌≡◌}
use mathlib.Core.Bool.{Bool}
use mathlib.Core.List.{List}
use Prim.Native.Nat.{ℕ, ◌≤◌}
use native.Mathlib.Omega.{arith}
use Rattle.hall.specs.Hall.{Hall}
use Rattle.hall.specs.Plan.{First, Cut, Beside, total}
use Rattle.dicuts.specs.Shores.{Ranged, Linked, once}
use Rattle.dicuts.specs.Listed.{listed, NoneFixed}
use Rattle.dicuts.proofs.Listed.{listed_choice}
use Rattle.joining.proofs.Joins.{listed-joins}
use Rattle.potentials.specs.Potential.{cost}
use Rattle.potentials.specs.Repair.{Repaired}
use Rattle.order.specs.Ranked.{charge, Plannable}
use Rattle.order.proofs.First.{first_least}
use Rattle.duality.proofs.Beside.{weights_below_total}
use Rattle.duality.proofs.Meeting.{joins_meeting}
use Rattle.certificates.specs.Cuts.{peak, cuts}
use Rattle.certificates.specs.Certificate.{Certificate}
use Rattle.certificates.proofs.Certificate.{certificate}
use Rattle.certificates.proofs.Charges.{cheap_unfixed, choice_cheap, listed_charges}
use Rattle.certificates.proofs.Classes.{peak_high}
use Rattle.certificates.proofs.Beside.{weights-cost, charged_loads, certificate_beside}

module _ (h : Hall) where
  module _ (able : Plannable h) (ranged : Ranged h) (linked : Linked h) (c : List ℕ) (first : First h c) (p : ℕ → ℕ) (F : ℕ → Bool) (done : Repaired h (charge h) p F) where
    module _ (top : ℕ) (high : (j : ℕ) → 1 ≤ j → j ≤ h.n → p j ≤ top) where
      proof : Certificate h (once F) p (cuts h (once F) p top)
      proof = certificate h ranged (once F) p done.joining done.parted top high

      -- the weights are what the set is charged, and no more than any joining choice costs
      charged_least : cost h (charge h) F ≤ total h c
      charged_least =
          omega (
            arith,
            weights-cost h F (charge h) p (cuts h (once F) p top) proof done.under done.paid,
            weights_below_total h (cuts h (once F) p top) proof.good (charged_loads h F p (cuts h (once F) p top) proof done.under) c first.choice
                (joins_meeting h ranged c first.choice first.joining),
          )

      unfixed : NoneFixed h F
      unfixed = cheap_unfixed h F (omega (arith, charged_least, choice_cheap h able c first.choice))

      same_total : cost h (charge h) F ≡ total h c
      same_total = omega (arith, charged_least, listed_charges h F unfixed, first_least h c (listed h F) first (listed_choice h F unfixed) (listed-joins h ranged F done.joining))

      pub beside_first : Beside h c (cuts h (once F) p top)
      beside_first = certificate_beside h F p (cuts h (once F) p top) proof done.under ranged linked c same_total done.paid

    pub beside_first_there : (ks : List Cut) × Beside h c ks
    beside_first_there = (cuts h (once F) p (peak h.n p), beside_first (peak h.n p) (peak_high h.n p))

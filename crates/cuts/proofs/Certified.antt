-- The weights of a potential leave room: few shores weigh anything, and none more than the largest potential. Assumes nothing.
use mathlib.Core.Path.{◌≡◌, ap, ◌∙◌}
use mathlib.Core.Bool.{true, ◌&&◌, not, cond}
use Prim.Native.Nat.{ℕ, suc, ◌+◌, ◌-◌, ◌^◌, ◌≤◌, ◌<◌}
use native.Mathlib.Nat.{zero-add}
use native.Mathlib.Omega.{arith}
use lib.Dec.{ltb}
use borrow.Author.Tests.{ltb-true, ltb-false}
use Rattle.laws.proofs.Booleans.{by_bool, clash, and_i, bool_ext, not_false_true, cond_true}
use Rattle.laws.proofs.Counts.{count_ext}
use Rattle.laws.proofs.Finite.{decide_below, sum-at_least}
use Rattle.junctions.specs.Sets.{holds}
use Rattle.hall.specs.Hall.{Hall, row, count, enters}
use Rattle.hall.specs.Plan.{most_cuts}
use Rattle.dicuts.specs.Shores.{Ranged, Linked, Joining, Shore}
use Rattle.dicuts.proofs.Shores.{shore_lt}
use Rattle.laminar.proofs.Few.{few_cuts}
use Rattle.potentials.specs.Potential.{Parted}
use Rattle.certificates.specs.Cuts.{weight, cuts}
use Rattle.certificates.proofs.Certificate.{weight-tight, cuts-weigh, certificate}
use Rattle.certificates.proofs.Levels.{weights-spread}
use Rattle.certificates.proofs.Listing.{load-weigh}
use Rattle.shorelist.specs.Listed.{WeightRoom}
use Rattle.cuts.specs.Thresholds.{UnderTop}
use Rattle.cuts.proofs.Listing.{listing-length}

-- some row enters each shore of a linked hall
pub shore_entered : (h : Hall) → Linked h → (s : ℕ) → Shore h s → (i : ℕ) × (1 ≤ i) × (i ≤ count h) × (enters s (row h i) ≡ true)
unfolding Linked enters
shore_entered h linked s shore =
    decide_below (count h) (λ k. not (holds s (row h (suc k)).from) && holds s (row h (suc k)).to)
    (λ k l e. (suc k, omega arith, omega arith, e))
    (λ none.
    absurd
    (linked s shore.some shore.proper
    (λ i l m.
    let e : suc (i - 1) ≡ i = omega arith in
    bool_ext (holds s (row h i).from) (holds s (row h i).to) (shore.kept i l m)
    (λ t. not_false_true (holds s (row h i).from)
    (λ f. clash (and_i (not (holds s (row h i).from)) (holds s (row h i).to) (ap not f) t) (rw e at (none (i - 1) (omega arith))))))))

module _ (h : Hall) (ranged : Ranged h) (linked : Linked h) (x p : ℕ → ℕ) (joins : Joining h x) (parted : Parted h x p) (top : ℕ) (under : UnderTop h.n p top) where
  -- a shore weighs no more than the load of a row that enters it
  weight_under : (s : ℕ) → weight h x p top s ≤ top
  unfolding UnderTop
  weight_under s =
      by_bool (ltb 0 (weight h x p top s))
      (λ t.
      let tight = weight-tight h ranged x p joins parted top s (ltb-true 0 (weight h x p top s) t) in
      let e = shore_entered h linked s tight.shore in
      let i = e.0 in
      let in_it : ℕ → ℕ = λ r. cond (enters r (row h i)) (weight h x p top r) 0 in
      omega (
        arith,
        sum-at_least (2 ^ h.n) in_it s (shore_lt h s tight.shore),
        cond_true (enters s (row h i)) (weight h x p top s) 0 e.3,
        weights-spread h x p top (λ r. enters r (row h i)),
        load-weigh (cuts h x p top) (row h i) ∙ cuts-weigh h ranged x p joins parted top (λ r. enters r (row h i)),
        (certificate h ranged x p joins parted top under).rises i e.1 e.2,
        under (row h i).to (ranged.to_low i e.1 e.2) (ranged.to_high i e.1 e.2),
      ))
      (λ t. omega (arith, ltb-false 0 (weight h x p top s) t))

  pub weights_room : h.n ≤ 64 → top < 2 ^ 32 → WeightRoom (weight h x p top)
  unfolding UnderTop cuts most_cuts
  weights_room small low = record {
    bound = 2 ^ h.n;
    low = λ s l. shore_lt h s (weight-tight h ranged x p joins parted top s l).shore;
    small = λ s. omega (arith, weight_under s);
    few =
        omega (
          arith,
          few_cuts h ranged linked (cuts h x p top) (certificate h ranged x p joins parted top under).good,
          listing-length (weight h x p top) (2 ^ h.n) 0,
          count_ext (2 ^ h.n) (λ s. ltb 0 (weight h x p top (0 + s))) (λ s. ltb 0 (weight h x p top s)) (λ s l. ap (λ (r : ℕ). ltb 0 (weight h x p top r)) (zero-add s)),
        );
  }

-- The cuts of a potential that meets P3 are a certificate of it. Assumes nothing.
use mathlib.Core.Path.{◌≡◌, refl, sym, ap, ◌∙◌}
use mathlib.Core.Bool.{Bool, true, false, ◌&&◌, not, cond}
use Prim.Native.Nat.{ℕ, suc, ◌+◌, ◌^◌, ◌≤◌, ◌<◌}
use native.Mathlib.Nat.{zero-add}
use native.Mathlib.Omega.{arith}
use lib.Dec.{leb, ltb}
use borrow.Author.Tests.{ltb-true, ltb-false, leb-true, leb-false, le-leb}
use Rattle.laws.specs.Finite.{sum_below, one_if}
use Rattle.laws.proofs.Booleans.{by_bool, clash}
use Rattle.laws.proofs.Finite.{sum_ext, sum_add}
use Rattle.junctions.specs.Sets.{holds}
use Rattle.junctions.proofs.Bounds.{junction_le}
use Rattle.hall.specs.Hall.{Hall, row, count, enters}
use Rattle.hall.specs.Plan.{cross, load, level_sum}
use Rattle.dicuts.specs.Shores.{Ranged, Joining, Tight}
use Rattle.dicuts.proofs.Shores.{shore_cut}
use Rattle.laminar.proofs.Cross.{uncrossed}
use Rattle.laminar.proofs.CrossFree.{crossing_swap}
use Rattle.potentials.specs.Potential.{Parted}
use Rattle.certificates.specs.Cuts.{upper, over_levels, weight, cuts, weight_where}
use Rattle.certificates.specs.Certificate.{Certificate}
use Rattle.certificates.proofs.Classes.{upper_lt, upper-holds, upper_saturated}
use Rattle.certificates.proofs.Uncrossed.{shore_tight, shores_uncross}
use Rattle.certificates.proofs.Levels.{weights-spread, weight_found, levels_differ}
use Rattle.certificates.proofs.Listing.{load-weigh, level_weigh, listing-weigh, listing-shores, listing_good}

-- a higher threshold leaves fewer junctions
pub upper_falls : (n : ℕ) (p : ℕ → ℕ) (q r : ℕ) → r ≤ q → (j : ℕ) → 1 ≤ j → holds (upper n p q) j ≡ true → holds (upper n p r) j ≡ true
upper_falls n p q r l j lj e =
    let m = junction_le n (upper n p q) j (upper_lt n p q) e in
    upper-holds n p r j lj m ∙ le-leb r (p j) (omega (arith, leb-true q (p j) (sym (upper-holds n p q j lj m) ∙ e)))

-- one shore that a row does not leave
shore_row : (a b : Bool) (m : ℕ) → (a ≡ true → b ≡ true) → cond (not a && b) m 0 + cond a m 0 ≡ cond b m 0
shore_row true true m f = omega arith
shore_row true false m f = clash (f refl) refl
shore_row false true m f = omega arith
shore_row false false m f = refl

no_weight : (a b : Bool) (m : ℕ) → m ≡ 0 → cond (not a && b) m 0 + cond a m 0 ≡ cond b m 0
no_weight a b m e = rw e (zeros a b)
  where
    zeros : (a b : Bool) → cond (not a && b) 0 0 + cond a 0 0 ≡ cond b 0 0
    zeros true true = refl
    zeros true false = refl
    zeros false true = refl
    zeros false false = refl

module _ (h : Hall) (ranged : Ranged h) (x p : ℕ → ℕ) (joins : Joining h x) (parted : Parted h x p) (top : ℕ) where
  pub weight-tight : (s : ℕ) → 0 < weight h x p top s → Tight h x s
  weight-tight s pos =
      let f = weight_found h x p top s pos in
      let u = upper h.n p (suc f.0) in
      shore_tight h ranged x joins u s (upper_lt h.n p (suc f.0)) (upper_saturated h x p parted (suc f.0)) f.2

  pub weights_uncrossed : (s r : ℕ) → 0 < weight h x p top s → 0 < weight h x p top r → cross h.n s r ≡ false
  weights_uncrossed s r ps pr =
      let f = weight_found h x p top s ps in
      let g = weight_found h x p top r pr in
      let u = upper h.n p (suc f.0) in
      let t = upper h.n p (suc g.0) in
      let u_lt = upper_lt h.n p (suc f.0) in
      let t_lt = upper_lt h.n p (suc g.0) in
      let u_sat = upper_saturated h x p parted (suc f.0) in
      let t_sat = upper_saturated h x p parted (suc g.0) in
      uncrossed h.n s r
      (λ c. by_bool (leb g.0 f.0)
      (λ e. shores_uncross h ranged x joins u t u_lt t_lt u_sat t_sat (upper_falls h.n p (suc f.0) (suc g.0) (omega (arith, leb-true g.0 f.0 e))) s r f.2 g.2 c)
      (λ e. shores_uncross h ranged x joins t u t_lt u_lt t_sat u_sat (upper_falls h.n p (suc g.0) (suc f.0) (omega (arith, leb-false g.0 f.0 e))) r s g.2 f.2 (crossing_swap c)))

  pub cuts-weigh : (t : ℕ → Bool) → weight_where t (cuts h x p top) ≡ over_levels h x p top (λ s. one_if (t s))
  unfolding cuts
  cuts-weigh t =
      let w = weight h x p top in
      listing-weigh w t (2 ^ h.n) 0
      ∙ sum_ext (2 ^ h.n) (λ s. cond (t (0 + s)) (w (0 + s)) 0) (λ s. cond (t s) (w s) 0) (λ s l. ap (λ (r : ℕ). cond (t r) (w r) 0) (zero-add s))
      ∙ weights-spread h x p top t

  -- the load of a row is what its head is held more than its tail
  load-levels : (i : ℕ) → 1 ≤ i → i ≤ count h
      → over_levels h x p top (λ s. one_if (enters s (row h i))) + over_levels h x p top (λ s. one_if (holds s (row h i).from)) ≡ over_levels h x p top (λ s. one_if (holds s (row h i).to))
  unfolding enters
  load-levels i l m =
      let w = weight h x p top in
      let u = (row h i).from in
      let v = (row h i).to in
      let in_it : ℕ → ℕ = λ s. cond (enters s (row h i)) (w s) 0 in
      let tail : ℕ → ℕ = λ s. cond (holds s u) (w s) 0 in
      let head : ℕ → ℕ = λ s. cond (holds s v) (w s) 0 in
      let each : sum_below (2 ^ h.n) (λ s. in_it s + tail s) ≡ sum_below (2 ^ h.n) head =
      sum_ext (2 ^ h.n) (λ s. in_it s + tail s) head
      (λ s ls. by_bool (ltb 0 (w s))
      (λ e. shore_row (holds s u) (holds s v) (w s) ((weight-tight s (ltb-true 0 (w s) e)).shore.kept i l m))
      (λ e. let z = ltb-false 0 (w s) e in no_weight (holds s u) (holds s v) (w s) (omega arith))) in
      omega (
        arith,
        sum_add (2 ^ h.n) in_it tail,
        weights-spread h x p top (λ s. enters s (row h i)),
        weights-spread h x p top (λ s. holds s u),
        weights-spread h x p top (λ s. holds s v),
      )

  module _ (high : (j : ℕ) → 1 ≤ j → j ≤ h.n → p j ≤ top) where
    load_rises : (i : ℕ) → 1 ≤ i → i ≤ count h → load (cuts h x p top) (row h i) + p (row h i).from ≡ p (row h i).to
    load_rises i l m =
        let fl = ranged.from_low i l m in
        let fh = ranged.from_high i l m in
        let tl = ranged.to_low i l m in
        let th = ranged.to_high i l m in
        omega (
          arith,
          load-weigh (cuts h x p top) (row h i) ∙ cuts-weigh (λ s. enters s (row h i)),
          load-levels i l m,
          levels_differ h x p top (row h i).from (row h i).to fl fh tl th (high (row h i).from fl fh) (high (row h i).to tl th),
        )

    levels-rise : (i j : ℕ) → 1 ≤ i → i ≤ h.n → 1 ≤ j → j ≤ h.n → level_sum i (cuts h x p top) + p j ≡ level_sum j (cuts h x p top) + p i
    levels-rise i j li mi lj mj =
        omega (
          arith,
          level_weigh (cuts h x p top) i ∙ cuts-weigh (λ s. holds s i),
          level_weigh (cuts h x p top) j ∙ cuts-weigh (λ s. holds s j),
          levels_differ h x p top i j li mi lj mj (high i li mi) (high j lj mj),
        )

    pub certificate : Certificate h x p (cuts h x p top)
    unfolding cuts
    certificate = record {
      good =
          listing_good (weight h x p top) h weights_uncrossed (λ s pos. shore_cut h s (weight-tight s pos).shore) (2 ^ h.n) 0 1
          (λ s l pos. (weight-tight s pos).shore.some);
      tight = λ s e. weight-tight s (listing-shores (weight h x p top) (2 ^ h.n) 0 s e);
      rises = load_rises;
      levels = levels-rise;
    }

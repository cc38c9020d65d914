-- Weights on all sets as an ascending list of cuts: what it weighs, and that it is good where its shores are cuts of which no two cross. Assumes nothing.
use mathlib.Core.Path.{◌≡◌, refl, ap}
use mathlib.Core.Bool.{Bool, true, false, ◌&&◌, not, cond}
use mathlib.Core.List.{List, [], ◌∷◌}
use mathlib.Core.Logic.{⊎_elim}
use Prim.Native.Nat.{ℕ, zero, suc, ◌+◌, ◌≤◌, ◌<◌}
use native.Mathlib.Nat.{add-zero}
use native.Mathlib.Omega.{arith}
use lib.Dec.{eqb, leb, ltb}
use borrow.Author.Tests.{ltb-true, ltb-false, le-leb, eqb-true}
use Rattle.laws.specs.Finite.{sum_below}
use Rattle.laws.proofs.Booleans.{by_bool, clash, and_i, or_cases, cond-zero}
use Rattle.laws.proofs.Counts.{sum_head}
use Rattle.laws.proofs.Finite.{sum_ext}
use Rattle.junctions.specs.Sets.{holds}
use Rattle.hall.specs.Hall.{Hall, Row, enters, is_cut}
use Rattle.hall.specs.Plan.{Cut, cut, cross, none_cross, cuts_good, load, level_sum}
use Rattle.laminar.specs.Families.{shore_family}
use Rattle.certificates.specs.Cuts.{listing, weight_where}

pub load-weigh : (ks : List Cut) (r : Row) → load ks r ≡ weight_where (λ s. enters s r) ks
unfolding load weight_where
load-weigh [] r = refl
load-weigh (c ∷ cs) r = ap (λ (m : ℕ). cond (enters c.shore r) c.weight 0 + m) (load-weigh cs r)

pub level_weigh : (ks : List Cut) (j : ℕ) → level_sum j ks ≡ weight_where (λ s. holds s j) ks
unfolding level_sum weight_where
level_weigh [] j = refl
level_weigh (c ∷ cs) j = ap (λ (m : ℕ). cond (holds c.shore j) c.weight 0 + m) (level_weigh cs j)

module _ (w : ℕ → ℕ) where
  pub listing-weigh : (t : ℕ → Bool) (k s : ℕ) → weight_where t (listing k s w) ≡ sum_below k (λ i. cond (t (s + i)) (w (s + i)) 0)
  unfolding weight_where listing sum_below cut
  listing-weigh t zero s = refl
  listing-weigh t (suc k) s =
      let f : ℕ → ℕ = λ i. cond (t i) (w i) 0 in
      let later : sum_below k (λ i. f (s + suc i)) ≡ sum_below k (λ i. f (suc s + i)) =
      sum_ext k (λ i. f (s + suc i)) (λ i. f (suc s + i)) (λ i l. let e : s + suc i ≡ suc s + i = omega arith in ap f e) in
      let rest = listing-weigh t k (suc s) in
      let first = ap f (add-zero s) in
      by_bool (ltb 0 (w s))
      (λ e. rw e (omega (arith, sum_head k (λ i. f (s + i)))))
      (λ e. rw e (omega (arith, sum_head k (λ i. f (s + i)), cond-zero (t s) (w s) (let z = ltb-false 0 (w s) e in omega arith))))

  pub listing-shores : (k s i : ℕ) → shore_family (listing k s w) i ≡ true → 0 < w i
  unfolding shore_family listing cut
  listing-shores zero s i = λ e. clash e refl
  listing-shores (suc k) s i =
      by_bool (ltb 0 (w s))
      (λ t. rw t (λ e.
      ⊎_elim (λ (q : eqb s i ≡ true). omega (arith, ltb-true 0 (w s) t, ap w (eqb-true s i q))) (λ (q : shore_family (listing k (suc s) w) i ≡ true). listing-shores k (suc s) i q)
      (or_cases (eqb s i) (shore_family (listing k (suc s) w) i) e)))
      (λ t. rw t (λ e. listing-shores k (suc s) i e))

  module _ (h : Hall) (apart : (i j : ℕ) → 0 < w i → 0 < w j → cross h.n i j ≡ false) where
    listing-apart : (k s i : ℕ) → 0 < w i → none_cross h.n i (listing k s w) ≡ true
    unfolding none_cross listing cut
    listing-apart zero s i l = refl
    listing-apart (suc k) s i l =
        by_bool (ltb 0 (w s))
        (λ t. rw t (and_i (not (cross h.n i s)) (none_cross h.n i (listing k (suc s) w)) (ap not (apart i s l (ltb-true 0 (w s) t))) (listing-apart k (suc s) i l)))
        (λ t. rw t (listing-apart k (suc s) i l))

    pub listing_good : ((i : ℕ) → 0 < w i → is_cut h i ≡ true) → (k s a : ℕ) → ((i : ℕ) → s ≤ i → 0 < w i → a ≤ i) → cuts_good h a (listing k s w) ≡ true
    unfolding cuts_good listing cut
    listing_good are zero s a from = refl
    listing_good are (suc k) s a from =
        by_bool (ltb 0 (w s))
        (λ t.
        let pos = ltb-true 0 (w s) t in
        rw t (and_i ((leb a s && is_cut h s) && (ltb 0 (w s) && none_cross h.n s (listing k (suc s) w))) (cuts_good h (suc s) (listing k (suc s) w))
        (and_i (leb a s && is_cut h s) (ltb 0 (w s) && none_cross h.n s (listing k (suc s) w))
        (and_i (leb a s) (is_cut h s) (le-leb a s (from s (omega arith) pos)) (are s pos))
        (and_i (ltb 0 (w s)) (none_cross h.n s (listing k (suc s) w)) t (listing-apart k (suc s) s pos)))
        (listing_good are k (suc s) (suc s) (λ i l q. l))))
        (λ t. rw t (listing_good are k (suc s) a (λ i l q. from i (omega arith) q)))

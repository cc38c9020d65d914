-- Good cuts are few: at most 2n - 3 directed cuts of a linked hall of n junctions can be listed of which no two cross. Assumes nothing.
use mathlib.Core.Path.{◌≡◌, refl, sym, ap, ◌∙◌}
use mathlib.Core.Bool.{true, false, not}
use mathlib.Core.List.{List, [], ◌∷◌}
use mathlib.Core.Logic.{⊎_elim}
use Prim.Native.Nat.{ℕ, suc, ◌-◌, ◌^◌, ◌≤◌, ◌<◌}
use native.Mathlib.Omega.{arith}
use lib.Dec.{eqb}
use lib.ListN.{length}
use borrow.Author.Tests.{leb-true, eqb-true, ne_eqb, not-true}
use Rattle.laws.specs.Finite.{count_below}
use Rattle.laws.proofs.Booleans.{by_bool, clash, and_l, and_r, or_cases, bool_ext, not_true_false}
use Rattle.laws.proofs.Counts.{count_none, count_insert}
use Rattle.junctions.specs.Sets.{holds, full}
use Rattle.junctions.proofs.Complement.{rest_holds}
use Rattle.hall.specs.Hall.{Hall, row, count}
use Rattle.hall.specs.Plan.{Cut, cross, none_cross, cuts_good, most_cuts}
use Rattle.dicuts.specs.Shores.{Ranged, Linked, Shore}
use Rattle.dicuts.proofs.Shores.{cut_shore, shore_lt}
use Rattle.laminar.specs.Families.{Crossing, CrossFree, shore_family}
use Rattle.laminar.proofs.Cross.{crossing_cross}
use Rattle.laminar.proofs.CrossFree.{crossing_swap, cross_free_bound}

-- the parts of good cuts
module _ (h : Hall) (a : ℕ) (c : Cut) (cs : List Cut) (good : cuts_good h a (c ∷ cs) ≡ true) where
  pub first_least : a ≤ c.shore
  unfolding cuts_good
  first_least = search (and_l, and_r, leb-true)

  pub first_shore : Shore h c.shore
  unfolding cuts_good
  first_shore = search (and_l, and_r, cut_shore)

  pub first_uncrossed : none_cross h.n c.shore cs ≡ true
  unfolding cuts_good
  first_uncrossed = search (and_l, and_r)

  pub rest_good : cuts_good h (suc c.shore) cs ≡ true
  unfolding cuts_good
  rest_good = search (and_l, and_r)

-- in a linked hall a shore's complement is none
pub rest_no_shore : (h : Hall) → Ranged h → Linked h → (s : ℕ) → Shore h s → Shore h (full h.n - s) → ⊥
unfolding Linked
rest_no_shore h ranged linked s p q =
    linked s p.some p.proper
    (λ i l m. bool_ext (holds s (row h i).from) (holds s (row h i).to) (p.kept i l m) (back i l m))
  where
    back : (i : ℕ) → 1 ≤ i → i ≤ count h → holds s (row h i).to ≡ true → holds s (row h i).from ≡ true
    back i l m t =
        let from = rest_holds h.n s (row h i).from (shore_lt h s p) (ranged.from_low i l m) (ranged.from_high i l m) in
        let to = rest_holds h.n s (row h i).to (shore_lt h s p) (ranged.to_low i l m) (ranged.to_high i l m) in
        by_bool (holds s (row h i).from) (λ e. e) (λ e. clash (q.kept i l m (from ∙ ap not e)) (to ∙ ap not t))

no_self_crossing : (n s : ℕ) → Crossing n s s → ⊥
no_self_crossing n s x = let w = x.overlap.left in clash w.first w.second

-- the shores of good cuts
module _ (h : Hall) where
  pub shores_skip : (a : ℕ) (ks : List Cut) → cuts_good h a ks ≡ true → (s : ℕ) → s < a → shore_family ks s ≡ false
  unfolding shore_family
  shores_skip a [] good s l = refl
  shores_skip a (c ∷ cs) good s l =
      let least = first_least h a c cs good in
      rw (ne_eqb c.shore s (λ e. omega arith)) (shores_skip (suc c.shore) cs (rest_good h a c cs good) s (omega arith))

  pub shores_are : (a : ℕ) (ks : List Cut) → cuts_good h a ks ≡ true → (s : ℕ) → shore_family ks s ≡ true → Shore h s
  unfolding shore_family
  shores_are a [] good s e = clash e refl
  shores_are a (c ∷ cs) good s e =
      ⊎_elim (λ (q : eqb c.shore s ≡ true). rw (eqb-true c.shore s q) at (first_shore h a c cs good))
      (λ (q : shore_family cs s ≡ true). shores_are (suc c.shore) cs (rest_good h a c cs good) s q)
      (or_cases (eqb c.shore s) (shore_family cs s) e)

  none_crosses : (s : ℕ) (cs : List Cut) → none_cross h.n s cs ≡ true → (t : ℕ) → shore_family cs t ≡ true → Crossing h.n s t → ⊥
  unfolding shore_family none_cross
  none_crosses s [] e t f x = clash f refl
  none_crosses s (c ∷ cs) e t f x =
      ⊎_elim
      (λ (q : eqb c.shore t ≡ true).
      let u : cross h.n s c.shore ≡ false = search (and_l, not-true) in
      clash (crossing_cross h.n s t x) (rw (eqb-true c.shore t q) at u))
      (λ (q : shore_family cs t ≡ true). none_crosses s cs (and_r (not (cross h.n s c.shore)) (none_cross h.n s cs) e) t q x)
      (or_cases (eqb c.shore t) (shore_family cs t) f)

  shores_uncrossed : (a : ℕ) (ks : List Cut) → cuts_good h a ks ≡ true → (s t : ℕ) → shore_family ks s ≡ true → shore_family ks t ≡ true → Crossing h.n s t → ⊥
  unfolding shore_family
  shores_uncrossed a [] good s t e f x = clash e refl
  shores_uncrossed a (c ∷ cs) good s t e f x =
      let up = shores_uncrossed (suc c.shore) cs (rest_good h a c cs good) s t in
      ⊎_elim
      (λ (p : eqb c.shore s ≡ true).
      ⊎_elim
      (λ (q : eqb c.shore t ≡ true). no_self_crossing h.n s (rw (sym (eqb-true c.shore t q) ∙ eqb-true c.shore s p) at x))
      (λ (q : shore_family cs t ≡ true). none_crosses c.shore cs (first_uncrossed h a c cs good) t q (rw (sym (eqb-true c.shore s p)) at x))
      (or_cases (eqb c.shore t) (shore_family cs t) f))
      (λ (p : shore_family cs s ≡ true).
      ⊎_elim
      (λ (q : eqb c.shore t ≡ true).
      none_crosses c.shore cs (first_uncrossed h a c cs good) s p (crossing_swap (rw (sym (eqb-true c.shore t q)) at x)))
      (λ (q : shore_family cs t ≡ true). up p q x)
      (or_cases (eqb c.shore t) (shore_family cs t) f))
      (or_cases (eqb c.shore s) (shore_family cs s) e)

  pub shores-cross_free : (a : ℕ) (ks : List Cut) → cuts_good h a ks ≡ true → CrossFree h.n (shore_family ks)
  unfolding CrossFree
  shores-cross_free a ks good s t ls lt e f x = shores_uncrossed a ks good s t e f x

  pub shores-count : (a : ℕ) (ks : List Cut) → cuts_good h a ks ≡ true → count_below (2 ^ h.n) (shore_family ks) ≡ length ks
  unfolding shore_family
  shores-count a [] good = count_none (2 ^ h.n) (λ s. false) (λ s l. refl)
  shores-count a (c ∷ cs) good =
      let rest = rest_good h a c cs good in
      omega (
        arith,
        count_insert (2 ^ h.n) c.shore (shore_family cs) (shore_lt h c.shore (first_shore h a c cs good)) (shores_skip (suc c.shore) cs rest c.shore (omega arith)),
        shores-count (suc c.shore) cs rest,
      )

-- AT MOST 2n - 3
pub few_cuts : (h : Hall) → Ranged h → Linked h → (ks : List Cut) → cuts_good h 1 ks ≡ true → length ks ≤ most_cuts h.n
unfolding most_cuts
few_cuts h ranged linked ks good =
    omega (
      arith,
      shores-count h 1 ks good,
      cross_free_bound h.n (shore_family ks) ranged.some (shores-cross_free h 1 ks good) (shores_skip h 1 ks good 0 (omega arith)) proper
          (λ s l e f. rest_no_shore h ranged linked s (shores_are h 1 ks good s e) (shores_are h 1 ks good (full h.n - s) f)),
    )
  where
    proper : shore_family ks (full h.n) ≡ false
    proper = not_true_false (shore_family ks (full h.n)) (λ e. omega (arith, (shores_are h 1 ks good (full h.n) e).proper))

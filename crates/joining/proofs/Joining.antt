-- Joining is reaching: a set of rows enters every shore exactly if each junction reaches every other. Assumes nothing.
use mathlib.Core.Path.{◌≡◌, refl, sym, ap, ◌∙◌}
use mathlib.Core.Bool.{Bool, true, false, ◌&&◌, not, cond}
use Prim.Native.Nat.{ℕ, suc, ◌-◌, ◌^◌, ◌≤◌, ◌<◌}
use native.Mathlib.Omega.{arith}
use lib.Dec.{ltb}
use lib.Bits.{bit_and}
use borrow.Author.Tests.{ltb-true, ltb-false, not-true}
use Rattle.laws.specs.Finite.{one_if}
use Rattle.laws.proofs.Booleans.{by_bool, clash, and_l, and_r, and_i, not_true_false, bool_ext, cond_true, cond_false}
use Rattle.laws.proofs.Finite.{sum-zero, sum_le, sum-at_least}
use Rattle.laws.proofs.Connectives.{one_true, one_false}
use Rattle.junctions.specs.Sets.{holds, full, Within}
use Rattle.junctions.proofs.Sets.{and_holds, full_lt, within_full, within_both, some_junction, gather_lt}
use Rattle.junctions.proofs.Single.{one_lt, one_self, one_within}
use Rattle.junctions.proofs.Members.{holds_some, full_in}
use Rattle.junctions.proofs.Bounds.{within_full_lt}
use Rattle.digraph.specs.Reach.{Closed, Reach}
use Rattle.hall.specs.Hall.{Hall, row, count, enters}
use Rattle.dicuts.specs.Shores.{Ranged, Linked, Shore, cover, once, Joining}
use Rattle.dicuts.specs.Arcs.{arc, arcs}
use Rattle.dicuts.proofs.Shores.{shore_lt}
use Rattle.joining.specs.Sealed.{Sealed}
use Rattle.joining.proofs.Sealed.{sealed_closed, closed_sealed}

module _ (h : Hall) (F : ℕ → Bool) (s : ℕ) where
  abbrev met : (k : ℕ) → ℕ
  met k = cond (enters s (row h (suc k))) (once F (suc k)) 0

  sealed_unmet : Sealed h F s → (k : ℕ) → k < count h → met k ≡ 0
  unfolding enters once
  sealed_unmet sl k l =
      let u = holds s (row h (suc k)).from in
      let v = holds s (row h (suc k)).to in
      by_bool (not u && v)
      (λ e. cond_true (not u && v) (one_if (F (suc k))) 0 e
      ∙ one_false (F (suc k)) (not_true_false (F (suc k)) (λ f.
      clash (sl.shut (suc k) (omega arith) (omega arith) f (and_r (not u) v e)) (not-true u (and_l (not u) v e)))))
      (λ e. cond_false (not u && v) (one_if (F (suc k))) 0 e)

  -- no row of F enters a sealed set, and a shore that none enters is sealed
  pub sealed_cover : Sealed h F s → cover h (once F) s ≡ 0
  unfolding cover
  sealed_cover sl = sum-zero (count h) met (sealed_unmet sl)

  pub cover_sealed : Shore h s → cover h (once F) s ≡ 0 → Sealed h F s
  unfolding cover once enters
  cover_sealed sh none = record {
    kept = sh.kept;
    shut = λ i l m f t.
        let at : suc (i - 1) ≡ i = omega arith in
        by_bool (holds s (row h i).from) (λ e. e)
        (λ e.
        let in_it : (not (holds s (row h i).from) && holds s (row h i).to) ≡ true = and_i (not (holds s (row h i).from)) (holds s (row h i).to) (ap not e) t in
        let one : met (i - 1) ≡ 1 = rw at (cond_true (not (holds s (row h i).from) && holds s (row h i).to) (one_if (F i)) 0 in_it ∙ one_true (F i) f) in
        absurd (omega (arith, one, none, sum-at_least (count h) met (i - 1) (omega arith))));
  }

  pub sealed_shore : 0 < s → s < full h.n → Sealed h F s → Shore h s
  sealed_shore p q sl = record { some = p; proper = q; kept = sl.kept }

-- the part of a sealed set inside the hall is sealed
sealed_inside : (h : Hall) (F : ℕ → Bool) (s : ℕ) → Ranged h → Sealed h F s → Sealed h F (bit_and s (full h.n))
sealed_inside h F s rg sl = record {
  kept = λ i l m t. both (row h i).to (rg.to_low i l m) (rg.to_high i l m) (sl.kept i l m (first (row h i).from t));
  shut = λ i l m f t. both (row h i).from (rg.from_low i l m) (rg.from_high i l m) (sl.shut i l m f (first (row h i).to t));
}
  where
    first : (j : ℕ) → holds (bit_and s (full h.n)) j ≡ true → holds s j ≡ true
    first j t = and_l (holds s j) (holds (full h.n) j) (sym (and_holds s (full h.n) j) ∙ t)

    both : (j : ℕ) → 1 ≤ j → j ≤ h.n → holds s j ≡ true → holds (bit_and s (full h.n)) j ≡ true
    both j l m t =
        and_holds s (full h.n) j ∙ and_i (holds s j) (holds (full h.n) j) t (full_in h.n j l m)

module _ (h : Hall) (F : ℕ → Bool) where
  -- where F joins, a sealed set is empty or the whole hall
  pub joining_sealed : Joining h (once F) → (s : ℕ) → 0 < s → s < 2 ^ h.n → Sealed h F s → s ≡ full h.n
  unfolding Joining full
  joining_sealed jn s p l sl =
      by_bool (ltb s (2 ^ h.n - 1))
      (λ e. absurd (omega (arith, jn s (sealed_shore h F s p (ltb-true s (2 ^ h.n - 1) e) sl), sealed_cover h F s sl)))
      (λ e. omega (arith, ltb-false s (2 ^ h.n - 1) e))

  pub joining_reach : Ranged h → Joining h (once F) → (j : ℕ) → 1 ≤ j → j ≤ h.n → Reach h.n (arcs h F) (2 ^ (j - 1)) (full h.n)
  unfolding Within Closed arcs
  joining_reach rg jn j l m = record {
    contains = within_full h.n (2 ^ (j - 1)) (one_lt h.n j l m);
    closed = λ x lx mx t. within_full h.n (arcs h F x) (gather_lt h.n (arc h F x));
    least = λ t w cl.
        let part = bit_and t (full h.n) in
        let here : holds part j ≡ true = and_holds t (full h.n) j ∙ and_i (holds t j) (holds (full h.n) j) (w j l (one_self j l)) (full_in h.n j l m) in
        let small : part < 2 ^ h.n = within_full_lt h.n part (λ i li e. and_r (holds t i) (holds (full h.n) i) (sym (and_holds t (full h.n) i) ∙ e)) in
        let all : part ≡ full h.n = joining_sealed jn part (holds_some part j here) small (sealed_inside h F t rg (closed_sealed h F t rg cl)) in
        λ i li e. and_l (holds t i) (holds (full h.n) i) (sym (and_holds t (full h.n) i) ∙ ap (λ (s : ℕ). holds s i) all ∙ e);
  }

  pub reach_joining : ((j : ℕ) → 1 ≤ j → j ≤ h.n → Reach h.n (arcs h F) (2 ^ (j - 1)) (full h.n)) → Joining h (once F)
  unfolding Joining
  reach_joining reach s sh =
      by_bool (ltb 0 (cover h (once F) s)) (λ e. ltb-true 0 (cover h (once F) s) e)
      (λ e.
      let none : cover h (once F) s ≡ 0 = omega (arith, ltb-false 0 (cover h (once F) s) e) in
      let cl = sealed_closed h F s (cover_sealed h F s sh none) in
      let w = some_junction h.n s sh.some (shore_lt h s sh) in
      let all : Within (full h.n) s = (reach w.0 w.1 w.2).least s (one_within s w.0 w.1 w.3) cl in
      let same : s ≡ full h.n = within_both h.n s (full h.n) (shore_lt h s sh) (full_lt h.n) (within_full h.n s (shore_lt h s sh)) all in
      absurd (omega (arith, same, sh.proper)))

met_le : (in_it a b : Bool) → (a ≡ true → b ≡ true) → cond in_it (one_if a) 0 ≤ cond in_it (one_if b) 0
unfolding one_if
met_le true true b f = rw (f refl) (omega arith)
met_le true false b f = omega arith
met_le false a b f = omega arith

-- more rows enter every shore at least as often
pub cover_mono : (h : Hall) (F G : ℕ → Bool) (s : ℕ) → ((i : ℕ) → 1 ≤ i → i ≤ count h → F i ≡ true → G i ≡ true) → cover h (once F) s ≤ cover h (once G) s
unfolding cover once
cover_mono h F G s f =
    sum_le (count h) (met h F s) (met h G s)
    (λ k l. met_le (enters s (row h (suc k))) (F (suc k)) (G (suc k)) (f (suc k) (omega arith) (omega arith)))

pub joining_mono : (h : Hall) (F G : ℕ → Bool) → ((i : ℕ) → 1 ≤ i → i ≤ count h → F i ≡ true → G i ≡ true) → Joining h (once F) → Joining h (once G)
unfolding Joining
joining_mono h F G f jn s sh = omega (arith, jn s sh, cover_mono h F G s f)

-- all rows join a hall that does not fall apart
pub linked_joining : (h : Hall) → Linked h → Joining h (once (λ i. true))
unfolding Joining Linked
linked_joining h lk s sh =
    by_bool (ltb 0 (cover h (once (λ i. true)) s)) (λ e. ltb-true 0 (cover h (once (λ i. true)) s) e)
    (λ e.
    let sl = cover_sealed h (λ i. true) s sh (omega (arith, ltb-false 0 (cover h (once (λ i. true)) s) e)) in
    absurd (lk s sh.some sh.proper (λ i l m. bool_ext (holds s (row h i).from) (holds s (row h i).to) (sl.kept i l m) (sl.shut i l m refl))))

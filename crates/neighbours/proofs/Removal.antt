-- Neighbourhoods by one removal: v is separated from u exactly if for some chosen row f, u is not reached from v without f; the
-- set reached is then a tight shore. And a chosen row may be dropped exactly if its tail is reached from its head without it. Assumes nothing.
use mathlib.Core.Path.{◌≡◌, refl, sym, ap, ◌∙◌}
use mathlib.Core.Bool.{Bool, true, false, ◌&&◌, not, cond}
use Prim.Native.Nat.{ℕ, suc, ◌+◌, ◌-◌, ◌^◌, ◌≤◌, ◌<◌}
use native.Mathlib.Omega.{arith}
use lib.Dec.{eqb, ltb}
use lib.Pow.{pow-lt}
use borrow.Author.Tests.{ltb-true, ltb-false, eqb-true, eqb-false, ne_eqb, eq-eqb, not-true}
use Rattle.laws.specs.Finite.{sum_below, one_if}
use Rattle.laws.proofs.Booleans.{by_bool, clash, and_l, and_r, and_i, not_true_false, cond_true, cond_false}
use Rattle.laws.proofs.Connectives.{one_le}
use Rattle.laws.proofs.Finite.{decide_below, sum_ext, sum_add, sum_one, sum-zero}
use Rattle.laws.proofs.Connectives.{one_true, one_false}
use Rattle.junctions.specs.Sets.{holds, full, Within}
use Rattle.junctions.proofs.Sets.{within_full, gather_lt}
use Rattle.junctions.proofs.Bounds.{within_full_lt}
use Rattle.junctions.proofs.Members.{holds_some, lacks_proper}
use Rattle.junctions.proofs.Single.{one_within, one_self}
use Rattle.digraph.specs.Reach.{Closed, Reach}
use Rattle.hall.specs.Hall.{Hall, row, count, enters}
use Rattle.dicuts.specs.Shores.{Ranged, Shore, cover, once, Joining, Tight, Sep, sep, around}
use Rattle.dicuts.specs.Arcs.{arc, arcs}
use Rattle.dicuts.proofs.Shores.{sep_true, true_sep, around-holds}
use Rattle.joining.specs.Sealed.{Sealed}
use Rattle.joining.proofs.Sealed.{sealed_closed, closed_sealed}
use Rattle.joining.proofs.Joining.{sealed_cover, cover_sealed}
use Rattle.neighbours.specs.Removal.{without, Spared, Chosen}

-- what is reached lies in every sealed set that holds the start
pub reach_sealed :
    (h : Hall) (F : ℕ → Bool) (v r s : ℕ) → 1 ≤ v → Reach h.n (arcs h F) (2 ^ (v - 1)) r → Sealed h F s → holds s v ≡ true → Within r s
reach_sealed h F v r s l reach sl has = reach.least s (one_within s v l has) (sealed_closed h F s sl)

-- the whole hall is closed
full_closed : (h : Hall) (F : ℕ → Bool) → Closed h.n (arcs h F) (full h.n)
unfolding Closed arcs
full_closed h F j l m t = within_full h.n (arcs h F j) (gather_lt h.n (arc h F j))

module _ (h : Hall) (F : ℕ → Bool) (v : ℕ) (low : 1 ≤ v) (high : v ≤ h.n) (r : ℕ) (reach : Reach h.n (arcs h F) (2 ^ (v - 1)) r) where
  pub reach_lt : r < 2 ^ h.n
  reach_lt =
      within_full_lt h.n r
      (reach.least (full h.n) (within_full h.n (2 ^ (v - 1)) (pow-lt {i = v - 1} {j = h.n} (omega arith))) (full_closed h F))

  pub reach_start : holds r v ≡ true
  unfolding Within
  reach_start = reach.contains v low (one_self v low)

one_apart : (e b z : Bool) → cond e (one_if b) 0 ≡ cond e (one_if (b && not z)) 0 + cond z (cond e (one_if b) 0) 0
unfolding one_if
one_apart true true true = refl
one_apart true true false = refl
one_apart true false z = by_bool z (λ q. rw q) (λ q. rw q)
one_apart false b z = by_bool z (λ q. rw q) (λ q. rw q)

-- one row out of a set: it counts for itself alone
module _ (h : Hall) (F : ℕ → Bool) (f : ℕ) (low : 1 ≤ f) (high : f ≤ count h) (s : ℕ) where
  abbrev met : (G : ℕ → Bool) → (k : ℕ) → ℕ
  met G k = cond (enters s (row h (suc k))) (once G (suc k)) 0

  same_row : (k : ℕ) → eqb k (f - 1) ≡ eqb (suc k) f
  same_row k =
      by_bool (eqb k (f - 1))
      (λ e. e ∙ sym (eq-eqb (suc k) f (omega (arith, eqb-true k (f - 1) e))))
      (λ e. e ∙ sym (ne_eqb (suc k) f (λ q. eqb-false k (f - 1) e (omega arith))))

  met_apart : (k : ℕ) → met F k ≡ met (without F f) k + cond (eqb k (f - 1)) (met F k) 0
  unfolding once without
  met_apart k = rw (same_row k) (one_apart (enters s (row h (suc k))) (F (suc k)) (eqb (suc k) f))

  pub cover-without : cover h (once F) s ≡ cover h (once (without F f)) s + cond (enters s (row h f)) (once F f) 0
  unfolding cover
  cover-without =
      let at : suc (f - 1) ≡ f = omega arith in
      let alone : sum_below (count h) (λ k. cond (eqb k (f - 1)) (met F k) 0) ≡ cond (enters s (row h f)) (once F f) 0 =
      sum_one (count h) (met F) (f - 1) (omega arith) ∙ ap (λ (i : ℕ). cond (enters s (row h i)) (once F i) 0) at in
      sum_ext (count h) (met F) (λ k. met (without F f) k + cond (eqb k (f - 1)) (met F k) 0) (λ k l. met_apart k)
      ∙ sum_add (count h) (met (without F f)) (λ k. cond (eqb k (f - 1)) (met F k) 0)
      ∙ ap (λ (m : ℕ). sum_below (count h) (met (without F f)) + m) alone

  alone_le : cond (enters s (row h f)) (once F f) 0 ≤ 1
  unfolding once
  alone_le =
      by_bool (enters s (row h f)) (λ e. omega (arith, cond_true (enters s (row h f)) (one_if (F f)) 0 e, one_le (F f)))
      (λ e. omega (arith, cond_false (enters s (row h f)) (one_if (F f)) 0 e))

  -- a set that the other rows do not enter is entered at most once
  pub sealed_at_most_one : Sealed h (without F f) s → cover h (once F) s ≤ 1
  sealed_at_most_one sl = omega (arith, cover-without, alone_le, sealed_cover h (without F f) s sl)

  -- a tight shore is sealed for the others, if f enters it
  pub tight_sealed : Tight h (once F) s → F f ≡ true → enters s (row h f) ≡ true → Sealed h (without F f) s
  unfolding once
  tight_sealed t chosen e =
      let one : cond (enters s (row h f)) (one_if (F f)) 0 ≡ 1 = cond_true (enters s (row h f)) (one_if (F f)) 0 e ∙ one_true (F f) chosen in
      cover_sealed h (without F f) s t.shore (omega (arith, cover-without, t.one))

-- some chosen row enters a tight shore
pub tight-row : (h : Hall) (F : ℕ → Bool) (s : ℕ) → Tight h (once F) s → (f : ℕ) × Chosen h F f × (enters s (row h f) ≡ true)
unfolding cover once
tight-row h F s t =
    decide_below (count h) (λ k. enters s (row h (suc k)) && F (suc k))
    (λ k l e. (
      suc k,
      record { low = omega arith; high = omega arith; in_it = and_r (enters s (row h (suc k))) (F (suc k)) e },
      and_l (enters s (row h (suc k))) (F (suc k)) e,
    ))
    (λ none.
    let zero_at : (k : ℕ) → k < count h → cond (enters s (row h (suc k))) (one_if (F (suc k))) 0 ≡ 0 =
    λ k l.
    by_bool (enters s (row h (suc k)))
    (λ e. cond_true (enters s (row h (suc k))) (one_if (F (suc k))) 0 e
    ∙ one_false (F (suc k)) (not_true_false (F (suc k)) (λ q. clash (and_i (enters s (row h (suc k))) (F (suc k)) e q) (none k l))))
    (λ e. cond_false (enters s (row h (suc k))) (one_if (F (suc k))) 0 e) in
    absurd (omega (arith, sum-zero (count h) (λ k. cond (enters s (row h (suc k))) (one_if (F (suc k))) 0) zero_at, t.one)))

module _ (h : Hall) (ranged : Ranged h) (F : ℕ → Bool) (joins : Joining h (once F)) where
  -- what is reached without f, if it is not all, is a tight shore
  module _ (f : ℕ) (f_low : 1 ≤ f) (f_high : f ≤ count h) (v : ℕ) (v_low : 1 ≤ v) (v_high : v ≤ h.n) (r : ℕ) (reach : Spared h F f v r)
      (u : ℕ) (u_low : 1 ≤ u) (u_high : u ≤ h.n) (lacks : holds r u ≡ false) where
    spared_sealed : Sealed h (without F f) r
    spared_sealed = closed_sealed h (without F f) r ranged reach.closed

    unreached_shore : Shore h r
    unreached_shore =
        record {
          some = holds_some r v (reach_start h (without F f) v v_low v_high r reach);
          proper = lacks_proper h.n r u (reach_lt h (without F f) v v_low v_high r reach) u_low u_high lacks;
          kept = spared_sealed.kept;
        }

    pub unreached_tight : Tight h (once F) r
    unfolding Joining
    unreached_tight =
        record {
          shore = unreached_shore;
          one = omega (arith, joins r unreached_shore, sealed_at_most_one h F f f_low f_high r spared_sealed);
        }

    pub unreached_sep : Sep h (once F) v u
    unreached_sep = record { set = r; tight = unreached_tight; has = reach_start h (without F f) v v_low v_high r reach; lacks = lacks }

-- where f enters a tight shore, what is reached from within it without f stays there
pub tight-holds_reach :
    (h : Hall) (F : ℕ → Bool) (f s : ℕ) → Chosen h F f → Tight h (once F) s → enters s (row h f) ≡ true → (v r : ℕ) → 1 ≤ v → holds s v ≡ true →
    Spared h F f v r → Within r s
tight-holds_reach h F f s c t e v r low has reach =
    reach_sealed h (without F f) v r s low reach (tight_sealed h F f c.low c.high s t c.in_it e) has

-- a separated junction is not reached without some chosen row
pub sep_unreached :
    (h : Hall) (F : ℕ → Bool) (v u : ℕ) → 1 ≤ v → 1 ≤ u → Sep h (once F) v u →
    (f : ℕ) × Chosen h F f × ((r : ℕ) → Spared h F f v r → holds r u ≡ false)
unfolding Within
sep_unreached h F v u v_low u_low s =
    let w = tight-row h F s.set s.tight in (
      w.0,
      w.1,
      λ r reach. not_true_false (holds r u)
          (λ e. clash (tight-holds_reach h F w.0 s.set w.1 s.tight w.2 v r v_low s.has reach u u_low e) s.lacks),
    )

-- the neighbourhood is what is reached without each chosen row
pub around-reached :
    (h : Hall) → Ranged h → (F : ℕ → Bool) → Joining h (once F) → (v : ℕ) → 1 ≤ v → v ≤ h.n → (u : ℕ) → 1 ≤ u → u ≤ h.n →
    holds (around h (once F) v) u ≡ true → (f : ℕ) → 1 ≤ f → f ≤ count h → (r : ℕ) → Spared h F f v r → holds r u ≡ true
around-reached h ranged F joins v v_low v_high u u_low u_high e f f_low f_high r reach =
    by_bool (holds r u) (λ q. q)
    (λ q.
    clash (true_sep h (once F) v u (unreached_sep h ranged F joins f f_low f_high v v_low v_high r reach u u_low u_high q))
    (not-true (sep h (once F) v u) (sym (around-holds h (once F) v u u_low u_high) ∙ e)))

pub reached-around :
    (h : Hall) (F : ℕ → Bool) (v : ℕ) → 1 ≤ v → (u : ℕ) → 1 ≤ u → u ≤ h.n →
    ((f : ℕ) → Chosen h F f → (r : ℕ) × Spared h F f v r × (holds r u ≡ true)) → holds (around h (once F) v) u ≡ true
reached-around h F v v_low u u_low u_high all =
    around-holds h (once F) v u u_low u_high
    ∙ by_bool (sep h (once F) v u)
    (λ e.
    let w = sep_unreached h F v u v_low u_low (sep_true h (once F) v u e) in
    let z = all w.0 w.1 in
    clash z.2 (w.2 z.0 z.1))
    (λ e. ap not e)

-- a chosen row whose tail is reached from its head without it
module _ (h : Hall) (F : ℕ → Bool) (f : ℕ) (chosen : Chosen h F f) (r : ℕ) (to_low : 1 ≤ (row h f).to) (from_low : 1 ≤ (row h f).from)
    (reach : Spared h F f (row h f).to r) (back : holds r (row h f).from ≡ true) where
  drop_not_entering : (s : ℕ) → Sealed h (without F f) s → enters s (row h f) ≡ true → ⊥
  unfolding enters Within
  drop_not_entering s sl e =
      let from = holds s (row h f).from in
      let to = holds s (row h f).to in
      clash (reach_sealed h (without F f) (row h f).to r s to_low reach sl (and_r (not from) to e) (row h f).from from_low back)
      (not-true from (and_l (not from) to e))

  -- the others join without it
  pub drop-joins : Joining h (once F) → Joining h (once (without F f))
  unfolding Joining
  drop-joins joins s shore =
      by_bool (ltb 0 (cover h (once (without F f)) s)) (λ e. ltb-true 0 (cover h (once (without F f)) s) e)
      (λ e.
      let none : cover h (once (without F f)) s ≡ 0 = omega (arith, ltb-false 0 (cover h (once (without F f)) s) e) in
      let sl : Sealed h (without F f) s = cover_sealed h (without F f) s shore none in
      let outside : enters s (row h f) ≡ false = not_true_false (enters s (row h f)) (drop_not_entering s sl) in
      omega
      (arith, joins s shore, cover-without h F f chosen.low chosen.high s, cond_false (enters s (row h f)) (once F f) 0 outside))

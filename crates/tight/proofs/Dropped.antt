-- A chosen row that is dropped takes away its own way back, and that only if the arc is not solid. Assumes nothing.
use mathlib.Core.Path.{◌≡◌, refl, sym, ap, ap₂, ◌∙◌}
use mathlib.Core.Bool.{Bool, true, false, ◌&&◌, ◌||◌, not}
use mathlib.Core.Logic.{⊎_elim}
use Prim.Native.Nat.{ℕ, suc, ◌-◌, ◌≤◌, ◌<◌}
use native.Mathlib.Omega.{arith}
use lib.Dec.{eqb, leb}
use borrow.Author.Tests.{eq-eqb, ne_eqb, eqb-true, eqb-false, leb-true, not-true, le-leb}
use Rattle.laws.specs.Finite.{any_below, count_below}
use Rattle.laws.proofs.Booleans.{by_bool, clash, and_l, and_r, and_i, or_cases, or_l, or_r, or_false_l, or_false_r, not_true_false, bool_ext}
use Rattle.laws.proofs.Finite.{any_found, any_intro}
use Rattle.laws.proofs.Twice.{count_other, count_twice}
use Rattle.junctions.specs.Sets.{holds}
use Rattle.junctions.proofs.Sets.{gather_lt}
use Rattle.junctions.proofs.Bounds.{junction_le}
use Rattle.growth.specs.Robust.{arcs_without}
use Rattle.growth.proofs.Cut.{cut_holds}
use Rattle.hall.specs.Hall.{Hall, row, count}
use Rattle.dicuts.specs.Arcs.{arc, arcs}
use Rattle.joining.proofs.Sealed.{arcs-arc, arc-arcs}
use Rattle.neighbours.specs.Removal.{without, Chosen}
use Rattle.tight.specs.Solid.{forward, backward, solid}

-- an arc is a row forward, or one of F backward
pub arc_rows :
    (h : Hall) (F : ℕ → Bool) (a b : ℕ) → arc h F a b ≡ true → (k : ℕ) × (k < count h) × ((forward h a b k || backward h F a b k) ≡ true)
unfolding arc
arc_rows h F a b e = any_found (count h) (λ k. forward h a b k || backward h F a b k) e

pub rows_arc :
    (h : Hall) (F : ℕ → Bool) (a b k : ℕ) → k < count h → (forward h a b k || backward h F a b k) ≡ true → arc h F a b ≡ true
unfolding arc
rows_arc h F a b k l e = any_intro (count h) (λ k. forward h a b k || backward h F a b k) k l e

-- arcs that are the same lead to the same junctions
pub arcs_agree :
    (h : Hall) (F : ℕ → Bool) (out : ℕ → ℕ) (a b : ℕ) → 1 ≤ b → (holds (out a) b ≡ true → (b ≤ h.n) × (arc h F a b ≡ true)) →
    (arc h F a b ≡ true → b ≤ h.n → holds (out a) b ≡ true) → holds (out a) b ≡ holds (arcs h F a) b
unfolding arcs
arcs_agree h F out a b l f g =
    bool_ext (holds (out a) b) (holds (arcs h F a) b) (λ e. arc-arcs h F a b l (f e).0 (f e).1)
    (λ e. g (arcs-arc h F a b l e) (junction_le h.n (arcs h F a) b (gather_lt h.n (arc h F a)) e))

module _ (h : Hall) (F : ℕ → Bool) (f : ℕ) (chosen : Chosen h F f) where
  abbrev x : ℕ
  x = (row h f).to

  abbrev y : ℕ
  y = (row h f).from

  -- a row of F other than f is still there
  other : (k : ℕ) → (suc k ≡ f → ⊥) → (a b : ℕ) → backward h F a b k ≡ true → backward h (without F f) a b k ≡ true
  unfolding without
  other k differ a b e =
      let ends = eqb (row h (suc k)).to a && eqb (row h (suc k)).from b in
      and_i (F (suc k) && not (eqb (suc k) f)) ends
      (and_i (F (suc k)) (not (eqb (suc k) f)) (and_l (F (suc k)) ends e) (ap not (ne_eqb (suc k) f differ)))
      (and_r (F (suc k)) ends e)

  fewer : (k a b : ℕ) → backward h (without F f) a b k ≡ true → (backward h F a b k ≡ true) × (suc k ≡ f → ⊥)
  unfolding without
  fewer k a b e =
      let ends = eqb (row h (suc k)).to a && eqb (row h (suc k)).from b in
      let in_it = and_l (F (suc k) && not (eqb (suc k) f)) ends e in (
        and_i (F (suc k)) ends (and_l (F (suc k)) (not (eqb (suc k) f)) in_it) (and_r (F (suc k) && not (eqb (suc k) f)) ends e),
        eqb-false (suc k) f (not-true (eqb (suc k) f) (and_r (F (suc k)) (not (eqb (suc k) f)) in_it)),
      )

  pub without-arc : (a b : ℕ) → arc h (without F f) a b ≡ true → arc h F a b ≡ true
  without-arc a b e =
      let w = arc_rows h (without F f) a b e in
      let k = w.0 in
      rows_arc h F a b k w.1
      (⊎_elim (λ (p : forward h a b k ≡ true). or_l (forward h a b k) (backward h F a b k) p)
      (λ (p : backward h (without F f) a b k ≡ true). or_r (forward h a b k) (backward h F a b k) (fewer k a b p).0)
      (or_cases (forward h a b k) (backward h (without F f) a b k) w.2))

  own : backward h F x y (f - 1) ≡ true
  own =
      let e : suc (f - 1) ≡ f = omega (arith, chosen.low) in
      rw e (and_i (F f) (eqb x x && eqb y y) chosen.in_it (and_i (eqb x x) (eqb y y) (eq-eqb x x refl) (eq-eqb y y refl)))

  -- a solid arc stays
  solid_stays : solid h F x y ≡ true → arc h (without F f) x y ≡ true
  unfolding solid
  solid_stays e =
      let G = without F f in
      ⊎_elim
      (λ (p : any_below (count h) (forward h x y) ≡ true).
      let w = any_found (count h) (forward h x y) p in
      rows_arc h G x y w.0 w.1 (or_l (forward h x y w.0) (backward h G x y w.0) w.2))
      (λ (p : leb 2 (count_below (count h) (backward h F x y)) ≡ true).
      let w = count_other (count h) (backward h F x y) (leb-true 2 (count_below (count h) (backward h F x y)) p) (f - 1) in
      rows_arc h G x y w.0 w.1
      (or_r (forward h x y w.0) (backward h G x y w.0) (other w.0 (λ q. w.2 (omega arith)) x y w.3)))
      (or_cases (any_below (count h) (forward h x y)) (leb 2 (count_below (count h) (backward h F x y))) e)

  -- so does every arc but the row's own way back
  pub arc_stays : (a b : ℕ) → arc h F a b ≡ true → (a ≡ x → b ≡ y → solid h F x y ≡ true) → arc h (without F f) a b ≡ true
  arc_stays a b e except =
      let G = without F f in
      let w = arc_rows h F a b e in
      let k = w.0 in
      ⊎_elim (λ (p : forward h a b k ≡ true). rows_arc h G a b k w.1 (or_l (forward h a b k) (backward h G a b k) p))
      (λ (p : backward h F a b k ≡ true).
      by_bool (eqb (suc k) f)
      (λ q.
      let at : suc k ≡ f = eqb-true (suc k) f q in
      let ends = and_r (F (suc k)) (eqb (row h (suc k)).to a && eqb (row h (suc k)).from b) p in
      let to : a ≡ x = sym (eqb-true (row h (suc k)).to a (and_l (eqb (row h (suc k)).to a) (eqb (row h (suc k)).from b) ends)) ∙ ap (λ (i : ℕ). (row h i).to) at in
      let from : b ≡ y = sym (eqb-true (row h (suc k)).from b (and_r (eqb (row h (suc k)).to a) (eqb (row h (suc k)).from b) ends)) ∙ ap (λ (i : ℕ). (row h i).from) at in
      ap₂ (arc h G) to from ∙ solid_stays (except to from))
      (λ q. rows_arc h G a b k w.1 (or_r (forward h a b k) (backward h G a b k) (other k (eqb-false (suc k) f q) a b p))))
      (or_cases (forward h a b k) (backward h F a b k) w.2)

  -- a frail arc goes
  pub frail_goes : solid h F x y ≡ false → arc h (without F f) x y ≡ false
  unfolding solid
  frail_goes e =
      not_true_false (arc h (without F f) x y)
      (λ t.
      let w = arc_rows h (without F f) x y t in
      let k = w.0 in
      ⊎_elim
      (λ (p : forward h x y k ≡ true).
      clash (any_intro (count h) (forward h x y) k w.1 p)
      (or_false_l (any_below (count h) (forward h x y)) (leb 2 (count_below (count h) (backward h F x y))) e))
      (λ (p : backward h (without F f) x y k ≡ true).
      let r = fewer k x y p in
      let differ = r.1 in
      clash
      (le-leb 2 (count_below (count h) (backward h F x y))
      (count_twice (count h) (backward h F x y) k (f - 1) w.1 (omega (arith, chosen.low, chosen.high))
      (λ q. differ (omega (arith, chosen.low))) r.0 own))
      (or_false_r (any_below (count h) (forward h x y)) (leb 2 (count_below (count h) (backward h F x y))) e))
      (or_cases (forward h x y k) (backward h (without F f) x y k) w.2))

  -- the adjacency without a row whose arc is solid is the same
  pub dropped-solid : solid h F x y ≡ true → (a b : ℕ) → 1 ≤ b → holds (arcs h F a) b ≡ holds (arcs h (without F f) a) b
  unfolding arcs
  dropped-solid e a b l =
      arcs_agree h (without F f) (arcs h F) a b l
      (λ t. (junction_le h.n (arcs h F a) b (gather_lt h.n (arc h F a)) t, arc_stays a b (arcs-arc h F a b l t) (λ p q. e)))
      (λ t m. arc-arcs h F a b l m (without-arc a b t))

  -- the adjacency without a row whose arc is frail lacks that arc alone
  pub dropped_frail :
      1 ≤ y → solid h F x y ≡ false → (a b : ℕ) → 1 ≤ b → holds (arcs_without (arcs h F) x y a) b ≡ holds (arcs h (without F f) a) b
  unfolding arcs
  dropped_frail ly e a b l =
      let here = eqb a x && eqb b y in
      let is = cut_holds (arcs h F) x y a b ly l in
      arcs_agree h (without F f) (arcs_without (arcs h F) x y) a b l
      (λ t.
      let both = sym is ∙ t in
      let in_it = and_l (holds (arcs h F a) b) (not here) both in (
        junction_le h.n (arcs h F a) b (gather_lt h.n (arc h F a)) in_it,
        arc_stays a b (arcs-arc h F a b l in_it)
            (λ p q. clash (and_i (eqb a x) (eqb b y) (eq-eqb a x p) (eq-eqb b y q)) (not-true here (and_r (holds (arcs h F a) b) (not here) both))),
      ))
      (λ t m.
      is
      ∙ and_i (holds (arcs h F a) b) (not here) (arc-arcs h F a b l m (without-arc a b t))
      (ap not
      (not_true_false here
      (λ q.
      clash t (ap₂ (arc h (without F f)) (eqb-true a x (and_l (eqb a x) (eqb b y) q)) (eqb-true b y (and_r (eqb a x) (eqb b y) q)) ∙ frail_goes e)))))

-- A set is sealed exactly if it is closed over the arcs of the rows. Assumes nothing.
use mathlib.Core.Path.{◌≡◌, refl, sym, ap, ◌∙◌}
use mathlib.Core.Bool.{Bool, true, ◌&&◌, ◌||◌}
use mathlib.Core.Logic.{⊎_elim}
use Prim.Native.Nat.{ℕ, zero, suc, ◌^◌, ◌≤◌, ◌<◌}
use native.Mathlib.Omega.{arith}
use lib.Dec.{eqb, leb}
use borrow.Author.Tests.{eq-eqb, eqb-true, leb-true, leb-false}
use Rattle.laws.proofs.Booleans.{by_bool, clash, and_l, and_r, and_i, or_cases, or_l, or_r}
use Rattle.laws.proofs.Finite.{any_found, any_intro}
use Rattle.junctions.specs.Sets.{holds, Within, gather}
use Rattle.junctions.proofs.Sets.{gather_lt, gather-holds, high_holds}
use Rattle.digraph.specs.Reach.{Closed}
use Rattle.hall.specs.Hall.{Hall, row, count}
use Rattle.dicuts.specs.Shores.{Ranged}
use Rattle.dicuts.specs.Arcs.{arc, arcs}
use Rattle.joining.specs.Sealed.{Sealed}

module _ (h : Hall) (F : ℕ → Bool) where
  abbrev ahead : (x y k : ℕ) → Bool
  ahead x y k = eqb (row h (suc k)).from x && eqb (row h (suc k)).to y

  abbrev back : (x y k : ℕ) → Bool
  back x y k = F (suc k) && (eqb (row h (suc k)).to x && eqb (row h (suc k)).from y)

  -- each row is an arc, and a row of F is one backward too
  pub arc-ahead : (i : ℕ) → 1 ≤ i → i ≤ count h → arc h F (row h i).from (row h i).to ≡ true
  unfolding arc
  arc-ahead zero l m = absurd (omega arith)
  arc-ahead (suc k) l m =
      let x = (row h (suc k)).from in
      let y = (row h (suc k)).to in
      any_intro (count h) (λ k. ahead x y k || back x y k) k (omega arith)
      (or_l (ahead x y k) (back x y k) (and_i (eqb x x) (eqb y y) (eq-eqb x x refl) (eq-eqb y y refl)))

  pub arc-back : (i : ℕ) → 1 ≤ i → i ≤ count h → F i ≡ true → arc h F (row h i).to (row h i).from ≡ true
  unfolding arc
  arc-back zero l m t = absurd (omega arith)
  arc-back (suc k) l m t =
      let x = (row h (suc k)).from in
      let y = (row h (suc k)).to in
      any_intro (count h) (λ k. ahead y x k || back y x k) k (omega arith)
      (or_r (ahead y x k) (back y x k) (and_i (F (suc k)) (eqb y y && eqb x x) t (and_i (eqb y y) (eqb x x) (eq-eqb y y refl) (eq-eqb x x refl))))

  -- an arc keeps to a sealed set
  pub sealed_arc : (s x y : ℕ) → Sealed h F s → arc h F x y ≡ true → holds s x ≡ true → holds s y ≡ true
  unfolding arc
  sealed_arc s x y sl a t =
      let w = any_found (count h) (λ k. ahead x y k || back x y k) a in
      let k = w.0 in
      let u = (row h (suc k)).from in
      let v = (row h (suc k)).to in
      ⊎_elim
      (λ (p : ahead x y k ≡ true).
      let eu : u ≡ x = eqb-true u x (and_l (eqb u x) (eqb v y) p) in
      let ev : v ≡ y = eqb-true v y (and_r (eqb u x) (eqb v y) p) in
      ap (holds s) (sym ev) ∙ sl.kept (suc k) (omega arith) (omega arith) (ap (holds s) eu ∙ t))
      (λ (p : back x y k ≡ true).
      let both : (eqb v x && eqb u y) ≡ true = and_r (F (suc k)) (eqb v x && eqb u y) p in
      let ev : v ≡ x = eqb-true v x (and_l (eqb v x) (eqb u y) both) in
      let eu : u ≡ y = eqb-true u y (and_r (eqb v x) (eqb u y) both) in
      ap (holds s) (sym eu) ∙ sl.shut (suc k) (omega arith) (omega arith) (and_l (F (suc k)) (eqb v x && eqb u y) p) (ap (holds s) ev ∙ t))
      (or_cases (ahead x y k) (back x y k) w.2)

  -- the adjacency holds what an arc leads to
  pub arcs_lt : (x : ℕ) → arcs h F x < 2 ^ h.n
  unfolding arcs
  arcs_lt x = gather_lt h.n (arc h F x)

  pub arcs-arc : (x y : ℕ) → 1 ≤ y → holds (arcs h F x) y ≡ true → arc h F x y ≡ true
  unfolding arcs
  arcs-arc x y l e =
      by_bool (leb y h.n) (λ p. sym (gather-holds h.n (arc h F x) y l (leb-true y h.n p)) ∙ e)
      (λ p. clash e (high_holds h.n (gather h.n (arc h F x)) y (gather_lt h.n (arc h F x)) (leb-false y h.n p)))

  pub arc-arcs : (x y : ℕ) → 1 ≤ y → y ≤ h.n → arc h F x y ≡ true → holds (arcs h F x) y ≡ true
  unfolding arcs
  arc-arcs x y l m a = gather-holds h.n (arc h F x) y l m ∙ a

  pub sealed_closed : (s : ℕ) → Sealed h F s → Closed h.n (arcs h F) s
  unfolding Closed Within
  sealed_closed s sl x l m t y l' e = sealed_arc s x y sl (arcs-arc x y l' e) t

  pub closed_sealed : (s : ℕ) → Ranged h → Closed h.n (arcs h F) s → Sealed h F s
  unfolding Closed Within
  closed_sealed s rg cl =
      record {
        kept = λ i l m t.
            cl (row h i).from (rg.from_low i l m) (rg.from_high i l m) t (row h i).to (rg.to_low i l m)
            (arc-arcs (row h i).from (row h i).to (rg.to_low i l m) (rg.to_high i l m) (arc-ahead i l m));
        shut = λ i l m f t.
            cl (row h i).to (rg.to_low i l m) (rg.to_high i l m) t (row h i).from (rg.from_low i l m)
            (arc-arcs (row h i).to (row h i).from (rg.from_low i l m) (rg.from_high i l m) (arc-back i l m f));
      }

-- The zero graph, junction by junction: the arcs of rows first, then those of swaps. Assumes nothing.
use mathlib.Core.Path.{◌≡◌, sym, ap, ap₂, ◌∙◌}
use mathlib.Core.Bool.{Bool, true, false, ◌&&◌, ◌||◌, or-false}
use mathlib.Core.List.{List}
use mathlib.Core.Logic.{◌⊎◌, inl, inr, ⊎_elim}
use Prim.Native.Nat.{ℕ, suc, ◌+◌, ◌-◌, ◌^◌, ◌≤◌, ◌<◌}
use native.Mathlib.Omega.{arith}
use lib.Bits.{bit_or}
use lib.Dec.{eqb, leb}
use lib.ListN.{get_or, length, length-set}
use borrow.Author.Tests.{eqb-true, eqb-false, ne_eqb, leb-true, leb-false}
use Rattle.laws.specs.Lists.{at}
use Rattle.laws.specs.Finite.{any_below}
use Rattle.laws.proofs.Booleans.{by_bool, not_true_false, or_cases}
use Rattle.laws.proofs.Connectives.{and_false_l, or_false_i}
use Rattle.laws.proofs.Finite.{any_found}
use Rattle.junctions.specs.Sets.{holds, gather}
use Rattle.junctions.proofs.Sets.{none_holds, gather-holds, gather_lt, high_holds}
use Rattle.junctions.proofs.Taking.{sets_same}
use Rattle.junctions.proofs.Adding.{added, added-holds}
use Rattle.hall.specs.Hall.{Hall, count}
use Rattle.dicuts.specs.Shores.{around, once}
use Rattle.dicuts.proofs.Shores.{around_lt}
use Rattle.columns.proofs.Ranged.{lanes_ranged}
use Rattle.columns.specs.Columns.{Neighbourhoods}
use Rattle.columns.specs.Lanes.{LanesOf}
use Rattle.columns.specs.declared.Lanes.{Lanes}
use Rattle.potentials.specs.ZeroGraph.{opens, closes, swaps, zero_arc, zero_arcs}
use Rattle.potentials.proofs.Arcs.{opens_true, closes_true}
use Rattle.zerograph.specs.Zero.{RowArcs, ZeroGraph}

-- swaps are in for the first x junctions
pub record Swapped (h : Hall) (movable : ℕ → Bool) (c p : ℕ → ℕ) (F : ℕ → Bool) (x : ℕ) (sets : List ℕ) : Type 0 where
  pub size : length sets ≡ 64
  pub done : (z y : ℕ) → 1 ≤ z → z ≤ x → 1 ≤ y → holds (at sets z) y ≡ zero_arc h movable c p F z y
  pub left : (z y : ℕ) → 1 ≤ z → x < z → z ≤ 64 → 1 ≤ y →
      holds (at sets z) y ≡ any_below (count h) (λ k. opens h movable c p z y (suc k) || closes h movable F z y (suc k))

-- neighbourhoods lie within the hall
pub near_lt : (h : Hall) (F : ℕ → Bool) (neighbours : List ℕ) (n x : ℕ) → Neighbourhoods h F neighbours → h.n ≡ n → x < n → get_or neighbours x 0 < 2 ^ n
unfolding Neighbourhoods
near_lt h F neighbours n x near size less =
    let place : suc x - 1 ≡ x = omega arith in
    let there : get_or neighbours x 0 ≡ around h (once F) (suc x) = ap (λ (i : ℕ). get_or neighbours i 0) (sym place) ∙ near (suc x) (omega arith) (omega arith) in
    rw (there, sym size) (around_lt h (once F) (suc x))

module _ (h : Hall) (movable : ℕ → Bool) (c : ℕ → ℕ) (potential : List ℕ) (F : ℕ → Bool) where
  pub swapped_none : (m : ℕ) (sets : List ℕ) → count h ≡ m → RowArcs h movable c (at potential) F m sets → Swapped h movable c (at potential) F 0 sets
  swapped_none m sets rows arcs =
      record {
        size = arcs.size;
        done = λ z y l u k. absurd (omega arith);
        left = λ z y l x u k. rw rows (arcs.arc z y l u k);
      }

  pub swapped_more :
      (x : ℕ) (sets neighbours : List ℕ) (w : ℕ) → x < h.n → x < 64 → Neighbourhoods h F neighbours →
      ((y : ℕ) → 1 ≤ y → holds w y ≡ (holds (get_or neighbours x 0) y && eqb (get_or potential x 0) (at potential y))) →
      Swapped h movable c (at potential) F x sets → Swapped h movable c (at potential) F (x + 1) (added sets x w)
  unfolding zero_arc swaps Neighbourhoods
  swapped_more x sets neighbours w less small near is before =
      record {
        size = length-set sets x (bit_or (get_or sets x 0) w) ∙ before.size;
        done = λ z y l u k.
            added-holds sets x w (omega (arith, before.size)) (z - 1) y
            ∙ by_bool (eqb (z - 1) x)
            (λ e.
            let q : z - 1 ≡ x = eqb-true (z - 1) x e in
            let there : get_or neighbours x 0 ≡ around h (once F) z = ap (λ (i : ℕ). get_or neighbours i 0) (sym q) ∙ near z l (omega arith) in
            ap₂ ◌||◌ (before.left z y l (omega arith) (omega arith) k)
            (rw e (is y k ∙ ap₂ (λ (s v : ℕ). holds s y && eqb v (at potential y)) there (ap (λ (i : ℕ). get_or potential i 0) (sym q)))))
            (λ e. rw e (or-false (holds (at sets z) y) ∙ before.done z y l (omega (arith, eqb-false (z - 1) x e)) k));
        left = λ z y l u b k.
            added-holds sets x w (omega (arith, before.size)) (z - 1) y
            ∙ rw (ne_eqb (z - 1) x (λ q. omega arith)) (or-false (holds (at sets z) y) ∙ before.left z y l (omega arith) b k);
      }

  module _ (lanes : Lanes) (cols : LanesOf h lanes) where
    -- rows make no arcs beyond the hall
    beyond : (x y : ℕ) → (h.n < x) ⊎ (h.n < y) → any_below (count h) (λ k. opens h movable c (at potential) x y (suc k) || closes h movable F x y (suc k)) ≡ false
    beyond x y far =
        not_true_false (any_below (count h) (λ k. opens h movable c (at potential) x y (suc k) || closes h movable F x y (suc k)))
        (λ t.
        let w = any_found (count h) (λ k. opens h movable c (at potential) x y (suc k) || closes h movable F x y (suc k)) t in
        let less : w.0 < lanes.count = omega (arith, w.1, cols.rows) in
        let some : 1 ≤ lanes.n = omega (arith, lanes.ends.tail_low w.0 less, lanes.ends.tail_high w.0 less) in
        let rg = lanes_ranged h lanes some cols in
        let from = rg.from_high (suc w.0) (omega arith) w.1 in
        let to = rg.to_high (suc w.0) (omega arith) w.1 in
        ⊎_elim
        (λ (e : opens h movable c (at potential) x y (suc w.0) ≡ true).
        let o = opens_true h movable c (at potential) F x y (suc w.0) (omega arith) w.1 e in
        ⊎_elim (λ (b : h.n < x). omega (arith, o.to_is, to)) (λ (b : h.n < y). omega (arith, o.from_is, from)) far)
        (λ (e : closes h movable F x y (suc w.0) ≡ true).
        let o = closes_true h movable c (at potential) F x y (suc w.0) (omega arith) w.1 e in
        ⊎_elim (λ (b : h.n < x). omega (arith, o.from_is, from)) (λ (b : h.n < y). omega (arith, o.to_is, to)) far)
        (or_cases (opens h movable c (at potential) x y (suc w.0)) (closes h movable F x y (suc w.0)) w.2))

    beyond_arc : (x y : ℕ) → h.n < y → zero_arc h movable c (at potential) F x y ≡ false
    unfolding zero_arc swaps
    beyond_arc x y far =
        or_false_i (any_below (count h) (λ k. opens h movable c (at potential) x y (suc k) || closes h movable F x y (suc k)))
        (swaps h (at potential) F x y) (beyond x y (inr far))
        (and_false_l (holds (around h (once F) x) y) (eqb (at potential x) (at potential y)) (high_holds h.n (around h (once F) x) y (around_lt h (once F) x) far))

    pub swapped_all :
        (x : ℕ) (sets : List ℕ) → x ≤ lanes.n → lanes.n ≤ x → Swapped h movable c (at potential) F x sets → ZeroGraph h movable c (at potential) F sets
    unfolding zero_arcs
    swapped_all x sets low high all =
        record {
          inside = λ z l u.
              sets_same (at sets z) (gather h.n (zero_arc h movable c (at potential) F z))
              (λ y k.
              all.done z y l (omega (arith, cols.junctions)) k
              ∙ by_bool (leb y h.n)
              (λ e. sym (gather-holds h.n (zero_arc h movable c (at potential) F z) y k (leb-true y h.n e)))
              (λ e.
              let far : h.n < y = leb-false y h.n e in
              beyond_arc z y far
              ∙ sym (high_holds h.n (gather h.n (zero_arc h movable c (at potential) F z)) y (gather_lt h.n (zero_arc h movable c (at potential) F z)) far)));
          outside = λ z l u.
              sets_same (at sets z) 0
              (λ y k. all.left z y (omega arith) (omega (arith, cols.junctions)) u k ∙ beyond z y (inl l) ∙ sym (none_holds y));
        }

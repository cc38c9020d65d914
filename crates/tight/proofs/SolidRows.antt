-- Sets filled from the first rows of the lanes: the arcs that some row backward gives, and those that are solid. Assumes nothing.
use mathlib.Core.Path.{◌≡◌, refl, sym, ap, ap₂, ◌∙◌}
use mathlib.Core.Bool.{Bool, true, false, ◌&&◌, ◌||◌, and-false, or-false, or-true}
use mathlib.Core.List.{List}
use Prim.Native.Nat.{ℕ, suc, ◌+◌, ◌-◌, ◌≤◌, ◌<◌}
use native.Mathlib.Nat.{add-zero}
use native.Mathlib.Numerals.{add-one}
use native.Mathlib.Omega.{arith}
use lib.Bits.{bit_and, bit_or}
use lib.Dec.{eqb, leb}
use lib.ListN.{length, get_or, replicate, length-set}
use borrow.Author.Tests.{eqb-true, leb-true, le-leb}
use Rattle.laws.specs.Lists.{at}
use Rattle.laws.specs.Finite.{any_below, sum_below, count_below, one_if}
use Rattle.laws.proofs.Booleans.{by_bool, clash, or_r, bool_ext}
use Rattle.laws.proofs.Agree.{any_ext}
use Rattle.laws.proofs.Counts.{count_ext}
use Rattle.laws.proofs.Lists.{replicate-at, at-suc}
use Rattle.junctions.specs.Sets.{holds}
use Rattle.junctions.proofs.Sets.{and_holds, none_holds}
use Rattle.junctions.proofs.Adding.{added, added_of, mask, mask_holds}
use Rattle.hall.specs.Hall.{Hall}
use Rattle.columns.specs.Columns.{flagged}
use Rattle.columns.specs.Lanes.{LanesOf}
use Rattle.columns.specs.declared.Lanes.{Lanes}
use Rattle.columns.proofs.Places.{lane_tail, lane_head}
use Rattle.tight.specs.SolidRows.{ahead, back, SolidRows}
use Rattle.tight.specs.Solid.{forward, backward, solid, SolidArcs}

-- no row
pub solid_none : (l : Lanes) (fs : List Bool) → SolidRows l fs 0 (replicate 64 0) (replicate 64 0)
unfolding any_below count_below sum_below
solid_none l fs =
    record {
      once_size = refl;
      solids_size = refl;
      once_holds = λ x y p q. ap (λ (s : ℕ). holds s y) (replicate-at {A = ℕ} 64 (x - 1) 0) ∙ none_holds y;
      solids_hold = λ x y p q. ap (λ (s : ℕ). holds s y) (replicate-at {A = ℕ} 64 (x - 1) 0) ∙ none_holds y;
    }

-- counting one more
first_more : (c : ℕ) (b : Bool) → leb 1 (c + one_if b) ≡ (leb 1 c || b)
unfolding one_if
first_more c true =
    bool_ext (leb 1 (c + 1)) (leb 1 c || true) (λ e. or_r (leb 1 c) true refl) (λ e. le-leb 1 (c + 1) (omega arith))
first_more c false =
    ap (leb 1) (add-zero c) ∙ sym (or-false (leb 1 c))

second_more : (c : ℕ) (b : Bool) → leb 2 (c + one_if b) ≡ (leb 2 c || (b && leb 1 c))
unfolding one_if
second_more c true =
    bool_ext (leb 2 (c + 1)) (leb 2 c || leb 1 c)
    (λ e. or_r (leb 2 c) (leb 1 c) (le-leb 1 c (omega (arith, leb-true 2 (c + 1) e))))
    (λ e. le-leb 2 (c + 1) (by_bool (leb 1 c) (λ t. omega (arith, leb-true 1 c t)) (λ t. by_bool (leb 2 c) (λ u. omega (arith, leb-true 2 c u)) (λ u. clash e (or_both u t)))))
  where
    or_both : leb 2 c ≡ false → leb 1 c ≡ false → (leb 2 c || leb 1 c) ≡ false
    or_both u t = rw (u, t)
second_more c false =
    ap (leb 2) (add-zero c) ∙ sym (or-false (leb 2 c))

or_swap : (a c f : Bool) → ((a || c) || f) ≡ ((a || f) || c)
or_swap true c f = refl
or_swap false true true = refl
or_swap false true false = refl
or_swap false false true = refl
or_swap false false false = refl

or_twice : (a c f t l : Bool) → (((a || c) || f) || (l && t)) ≡ ((a || f) || (c || (t && l)))
or_twice a c f true true = or-true ((a || c) || f) ∙ sym (ap (λ (b : Bool). (a || f) || b) (or-true c) ∙ or-true (a || f))
or_twice a c f true false = or-false ((a || c) || f) ∙ or_swap a c f ∙ ap (λ (b : Bool). (a || f) || b) (sym (or-false c))
or_twice a c f false true = or-false ((a || c) || f) ∙ or_swap a c f ∙ ap (λ (b : Bool). (a || f) || b) (sym (or-false c))
or_twice a c f false false = or-false ((a || c) || f) ∙ or_swap a c f ∙ ap (λ (b : Bool). (a || f) || b) (sym (or-false c))

-- one more row, with its ends at these places
module _ (l : Lanes) (fs : List Bool) (k : ℕ) (once solids : List ℕ) (so_far : SolidRows l fs k once solids) (tail head : ℕ)
    (tail_is : suc tail ≡ get_or l.tails k 0) (head_is : suc head ≡ get_or l.heads k 0) (tail_in : tail < l.n) (head_in : head < l.n) where
  -- the row forward
  abbrev with_ahead : List ℕ
  with_ahead = added solids tail (mask head)

  with_ahead_size : length with_ahead ≡ 64
  with_ahead_size = length-set solids tail (bit_or (get_or solids tail 0) (mask head)) ∙ so_far.solids_size

  abbrev backs : (x y : ℕ) → ℕ
  backs x y = count_below k (back l fs x y)

  -- the row runs from x to y
  abbrev runs : (x y : ℕ) → Bool
  runs x y = eqb (suc tail) x && eqb (suc head) y

  with_ahead-holds : (x y : ℕ) → 1 ≤ x → 1 ≤ y → holds (at with_ahead x) y ≡ ((any_below k (ahead l x y) || leb 2 (backs x y)) || runs x y)
  with_ahead-holds x y p q =
      added_of solids tail (mask head) (omega (arith, so_far.solids_size, l.ends.size)) x y p
      ∙ ap₂ (λ (a b : Bool). a || (eqb (suc tail) x && b)) (so_far.solids_hold x y p q) (mask_holds head y (omega (arith, l.ends.size)) q)

  pub solid-ahead : get_or fs k false ≡ false → SolidRows l fs (k + 1) once with_ahead
  unfolding any_below count_below sum_below
  solid-ahead f =
      record {
        once_size = so_far.once_size;
        solids_size = with_ahead_size;
        once_holds = λ x y p q. so_far.once_holds x y p q ∙ sym (rw (add-one k, f) (first_more (backs x y) false ∙ or-false (leb 1 (backs x y))));
        solids_hold = λ x y p q.
            with_ahead-holds x y p q ∙ or_swap (any_below k (ahead l x y)) (leb 2 (backs x y)) (runs x y)
            ∙ sym (rw (add-one k, f, ← tail_is, ← head_is) (ap (λ (b : Bool). (any_below k (ahead l x y) || runs x y) || b) (second_more (backs x y) false ∙ or-false (leb 2 (backs x y)))));
      }

  -- the row backward: an arc that a row gave already becomes solid
  abbrev again : ℕ
  again = bit_and (get_or once head 0) (mask tail)

  again_holds : (x y : ℕ) → 1 ≤ y → (eqb (suc head) x && holds again y) ≡ (leb 1 (backs x y) && (eqb (suc head) x && eqb (suc tail) y))
  again_holds x y q =
      by_bool (eqb (suc head) x)
      (λ e.
      rw e
      (and_holds (get_or once head 0) (mask tail) y
      ∙ ap₂ ◌&&◌ (sym (ap (λ (s : ℕ). holds s y) (at-suc once head)) ∙ so_far.once_holds (suc head) y (omega arith) q ∙ ap (λ (z : ℕ). leb 1 (backs z y)) (eqb-true (suc head) x e))
      (mask_holds tail y (omega (arith, l.ends.size)) q)))
      (λ e. rw e (sym (and-false (leb 1 (backs x y)))))

  pub solid-both :
      get_or fs k false ≡ true →
      SolidRows l fs (k + 1) (added once head (mask tail)) (added with_ahead head again)
  unfolding any_below count_below sum_below
  solid-both f =
      record {
        once_size = length-set once head (bit_or (get_or once head 0) (mask tail)) ∙ so_far.once_size;
        solids_size = length-set with_ahead head (bit_or (get_or with_ahead head 0) again) ∙ with_ahead_size;
        once_holds = λ x y p q.
            added_of once head (mask tail) (omega (arith, so_far.once_size, l.ends.size)) x y p
            ∙ ap₂ (λ (a b : Bool). a || (eqb (suc head) x && b)) (so_far.once_holds x y p q) (mask_holds tail y (omega (arith, l.ends.size)) q)
            ∙ sym (rw (add-one k, f, ← tail_is, ← head_is) (first_more (backs x y) (eqb (suc head) x && eqb (suc tail) y)));
        solids_hold = λ x y p q.
            let a = any_below k (ahead l x y) in
            let both = eqb (suc head) x && eqb (suc tail) y in
            added_of with_ahead head again (omega (arith, with_ahead_size, l.ends.size)) x y p
            ∙ ap₂ ◌||◌ (with_ahead-holds x y p q) (again_holds x y q)
            ∙ or_twice a (leb 2 (backs x y)) (runs x y) both (leb 1 (backs x y))
            ∙ sym (rw (add-one k, f, ← tail_is, ← head_is) (ap (λ (b : Bool). (a || runs x y) || b) (second_more (backs x y) both)));
      }

-- all rows
pub rows_solid :
    (l : Lanes) (fs : List Bool) (once solids : List ℕ) → SolidRows l fs l.count once solids → (h : Hall) → LanesOf h l →
    SolidArcs h (flagged fs) solids
unfolding SolidArcs solid
rows_solid l fs once solids full h lanes_of x y p _ q _ =
    full.solids_hold x y p q
    ∙ rw lanes_of.rows (ap₂ (λ (b : Bool) (c : ℕ). b || leb 2 c) (any_ext l.count _ _ (λ j less. forth j less)) (count_ext l.count _ _ (λ j less. back_again j less)))
  where
    forth : (j : ℕ) → j < l.count → ahead l x y j ≡ forward h x y j
    forth j less = rw (lane_tail h l lanes_of j less, lane_head h l lanes_of j less)

    back_again : (j : ℕ) → j < l.count → back l fs x y j ≡ backward h (flagged fs) x y j
    back_again j less = let place : suc j - 1 ≡ j = omega arith in rw (lane_tail h l lanes_of j less, lane_head h l lanes_of j less, place)

-- What a row at a place of the columns adds to the zero graph. Assumes nothing.
use mathlib.Core.Path.{◌≡◌, sym, ap, ap₂, ◌∙◌}
use mathlib.Core.Bool.{Bool, true, false, ◌&&◌, ◌||◌, or_assoc}
use mathlib.Core.List.{List}
use Prim.Native.Nat.{ℕ, suc, ◌+◌, ◌-◌, ◌≤◌, ◌<◌}
use native.Mathlib.Numerals.{add-one}
use native.Mathlib.Omega.{arith}
use lib.Bits.{bit_or}
use lib.Dec.{eqb}
use lib.ListN.{get_or, length, length-set, replicate, length-replicate, get_or-replicate}
use borrow.Author.Tests.{eqb-true, eq-eqb}
use Rattle.laws.specs.Lists.{at}
use Rattle.laws.specs.Finite.{any_below}
use Rattle.laws.proofs.Lists.{at-suc}
use Rattle.laws.proofs.Booleans.{and_l, and_r, and_i, bool_ext}
use Rattle.junctions.specs.Sets.{holds}
use Rattle.junctions.proofs.Sets.{none_holds}
use Rattle.junctions.proofs.Adding.{added, added-holds}
use Rattle.hall.specs.Hall.{Hall, row, count}
use Rattle.columns.specs.Columns.{flagged, Columns}
use Rattle.columns.proofs.Places.{place_tail, place_head}
use Rattle.potentials.specs.Potential.{gap}
use Rattle.potentials.specs.ZeroGraph.{opens, closes}
use Rattle.potentials.proofs.Arcs.{opens_true, true_opens, closes_true, true_closes}
use Rattle.zerograph.specs.Zero.{RowArcs}

eqb_back : (x a : ℕ) → 1 ≤ x → eqb (x - 1) a ≡ eqb x (suc a)
eqb_back x a low =
    bool_ext (eqb (x - 1) a) (eqb x (suc a)) (λ e. eq-eqb x (suc a) (omega (arith, eqb-true (x - 1) a e))) (λ e. eq-eqb (x - 1) a (omega (arith, eqb-true x (suc a) e)))

module _ (h : Hall) (n m : ℕ) (tails heads costs : List ℕ) (movable chosen : List Bool) (potential : List ℕ)
    (cols : Columns h n m tails heads) (k a b : ℕ) (less : k < m) (tail_is : suc a ≡ get_or tails k 0) (head_is : suc b ≡ get_or heads k 0) where
  pub place_back : (x : ℕ) → suc x - 1 ≡ x
  place_back x = omega arith

  pub high : suc k ≤ count h
  high = omega (arith, cols.rows)

  pub from_here : (row h (suc k)).from ≡ suc a
  from_here = sym (place_tail h n m tails heads cols k less) ∙ sym tail_is

  pub to_here : (row h (suc k)).to ≡ suc b
  to_here = sym (place_head h n m tails heads cols k less) ∙ sym head_is

  pub free_here : flagged movable (suc k) ≡ get_or movable k false
  free_here = ap (λ (i : ℕ). get_or movable i false) (place_back k)

  pub chosen_here : flagged chosen (suc k) ≡ get_or chosen k false
  chosen_here = ap (λ (i : ℕ). get_or chosen i false) (place_back k)

  pub cost_here : at costs (suc k) ≡ get_or costs k 0
  cost_here = at-suc costs k

  pub level_at : (x b : ℕ) → x ≡ suc b → at potential x ≡ get_or potential b 0
  level_at x b e = ap (at potential) e ∙ at-suc potential b

  -- the levels of the row's ends
  pub tail_level : at potential (row h (suc k)).from ≡ get_or potential a 0
  tail_level = level_at (row h (suc k)).from a from_here

  pub head_level : at potential (row h (suc k)).to ≡ get_or potential b 0
  head_level = level_at (row h (suc k)).to b to_here

  pub gap_here : get_or potential a 0 + get_or costs k 0 - get_or potential b 0 ≡ gap h (at costs) (at potential) (suc k)
  unfolding gap
  gap_here = omega (arith, tail_level, head_level, cost_here)

  -- the row's test to be opened, from the columns
  abbrev pub may_open : Bool
  may_open = get_or movable k false && eqb (get_or potential b 0) (get_or potential a 0 + get_or costs k 0)

  pub opens_here :
      (x y : ℕ) → (eqb x (suc b) && (may_open && eqb y (suc a))) ≡ opens h (flagged movable) (at costs) (at potential) x y (suc k)
  opens_here x y = bool_ext (eqb x (suc b) && (may_open && eqb y (suc a))) (opens h (flagged movable) (at costs) (at potential) x y (suc k)) there back
    where
      there : (eqb x (suc b) && (may_open && eqb y (suc a))) ≡ true → opens h (flagged movable) (at costs) (at potential) x y (suc k) ≡ true
      there e =
          let rest = and_r (eqb x (suc b)) (may_open && eqb y (suc a)) e in
          let may = and_l may_open (eqb y (suc a)) rest in
          let x_is : x ≡ suc b = eqb-true x (suc b) (and_l (eqb x (suc b)) (may_open && eqb y (suc a)) e) in
          let y_is : y ≡ suc a = eqb-true y (suc a) (and_r may_open (eqb y (suc a)) rest) in
          let rise = eqb-true (get_or potential b 0) (get_or potential a 0 + get_or costs k 0) (and_r (get_or movable k false) (eqb (get_or potential b 0) (get_or potential a 0 + get_or costs k 0)) may) in
          true_opens h (flagged movable) (at costs) (at potential) (flagged chosen) x y (suc k)
          (record {
            low = omega arith;
            high = high;
            free = free_here ∙ and_l (get_or movable k false) (eqb (get_or potential b 0) (get_or potential a 0 + get_or costs k 0)) may;
            rise = omega (arith, rise, level_at x b x_is, level_at y a y_is, cost_here);
            from_is = from_here ∙ sym y_is;
            to_is = to_here ∙ sym x_is;
          })

      back : opens h (flagged movable) (at costs) (at potential) x y (suc k) ≡ true → (eqb x (suc b) && (may_open && eqb y (suc a))) ≡ true
      back e =
          let o = opens_true h (flagged movable) (at costs) (at potential) (flagged chosen) x y (suc k) (omega arith) high e in
          let x_is : x ≡ suc b = sym o.to_is ∙ to_here in
          let y_is : y ≡ suc a = sym o.from_is ∙ from_here in
          and_i (eqb x (suc b)) (may_open && eqb y (suc a)) (eq-eqb x (suc b) x_is)
          (and_i may_open (eqb y (suc a))
          (and_i (get_or movable k false) (eqb (get_or potential b 0) (get_or potential a 0 + get_or costs k 0)) (sym free_here ∙ o.free)
          (eq-eqb (get_or potential b 0) (get_or potential a 0 + get_or costs k 0) (omega (arith, o.rise, level_at x b x_is, level_at y a y_is, cost_here))))
          (eq-eqb y (suc a) y_is))

  -- the row's test to be closed, from the columns
  abbrev pub may_close : Bool
  may_close = get_or movable k false && get_or chosen k false

  pub closes_here : (x y : ℕ) → (eqb x (suc a) && (may_close && eqb y (suc b))) ≡ closes h (flagged movable) (flagged chosen) x y (suc k)
  closes_here x y = bool_ext (eqb x (suc a) && (may_close && eqb y (suc b))) (closes h (flagged movable) (flagged chosen) x y (suc k)) there back
    where
      there : (eqb x (suc a) && (may_close && eqb y (suc b))) ≡ true → closes h (flagged movable) (flagged chosen) x y (suc k) ≡ true
      there e =
          let rest = and_r (eqb x (suc a)) (may_close && eqb y (suc b)) e in
          let may = and_l may_close (eqb y (suc b)) rest in
          let x_is : x ≡ suc a = eqb-true x (suc a) (and_l (eqb x (suc a)) (may_close && eqb y (suc b)) e) in
          let y_is : y ≡ suc b = eqb-true y (suc b) (and_r may_close (eqb y (suc b)) rest) in
          true_closes h (flagged movable) (at costs) (at potential) (flagged chosen) x y (suc k)
          (record {
            low = omega arith;
            high = high;
            free = free_here ∙ and_l (get_or movable k false) (get_or chosen k false) may;
            chosen = chosen_here ∙ and_r (get_or movable k false) (get_or chosen k false) may;
            from_is = from_here ∙ sym x_is;
            to_is = to_here ∙ sym y_is;
          })

      back : closes h (flagged movable) (flagged chosen) x y (suc k) ≡ true → (eqb x (suc a) && (may_close && eqb y (suc b))) ≡ true
      back e =
          let o = closes_true h (flagged movable) (at costs) (at potential) (flagged chosen) x y (suc k) (omega arith) high e in
          let x_is : x ≡ suc a = sym o.from_is ∙ from_here in
          let y_is : y ≡ suc b = sym o.to_is ∙ to_here in
          and_i (eqb x (suc a)) (may_close && eqb y (suc b)) (eq-eqb x (suc a) x_is)
          (and_i may_close (eqb y (suc b))
          (and_i (get_or movable k false) (get_or chosen k false) (sym free_here ∙ o.free) (sym chosen_here ∙ o.chosen))
          (eq-eqb y (suc b) y_is))

  -- one more row
  pub row-arcs_more :
      (sets : List ℕ) (opened closed : ℕ) → a < 64 → b < 64 →
      ((i : ℕ) → 1 ≤ i → holds opened i ≡ (may_open && eqb i (suc a))) → ((i : ℕ) → 1 ≤ i → holds closed i ≡ (may_close && eqb i (suc b))) →
      RowArcs h (flagged movable) (at costs) (at potential) (flagged chosen) k sets →
      RowArcs h (flagged movable) (at costs) (at potential) (flagged chosen) (k + 1) (added (added sets b opened) a closed)
  unfolding any_below
  row-arcs_more sets opened closed la lb open_is close_is before =
      let first : List ℕ = added sets b opened in
      let size : length first ≡ 64 = length-set sets b (bit_or (get_or sets b 0) opened) ∙ before.size in
      record {
        size = length-set first a (bit_or (get_or first a 0) closed) ∙ size;
        arc = λ x y lx ux ly.
            rw (add-one k)
            (added-holds first a closed (omega (arith, size)) (x - 1) y
            ∙ ap₂ ◌||◌ (added-holds sets b opened (omega (arith, before.size)) (x - 1) y
            ∙ ap₂ ◌||◌ (before.arc x y lx ux ly) (ap₂ ◌&&◌ (eqb_back x b lx) (open_is y ly) ∙ opens_here x y))
            (ap₂ ◌&&◌ (eqb_back x a lx) (close_is y ly) ∙ closes_here x y)
            ∙ or_assoc (any_below k (λ i. opens h (flagged movable) (at costs) (at potential) x y (suc i) || closes h (flagged movable) (flagged chosen) x y (suc i)))
            (opens h (flagged movable) (at costs) (at potential) x y (suc k)) (closes h (flagged movable) (flagged chosen) x y (suc k)));
      }

pub row-arcs_none : (h : Hall) (movable : ℕ → Bool) (c p : ℕ → ℕ) (F : ℕ → Bool) → RowArcs h movable c p F 0 (replicate 64 0)
unfolding any_below
row-arcs_none h movable c p F =
    record {
      size = length-replicate {A = ℕ} 64 0;
      arc = λ x y lx ux ly. ap (λ (s : ℕ). holds s y) (get_or-replicate {A = ℕ} 64 (x - 1) 0 0 (omega arith)) ∙ none_holds y;
    }

pub row-arcs_all :
    (h : Hall) (movable : ℕ → Bool) (c p : ℕ → ℕ) (F : ℕ → Bool) (k m : ℕ) (sets : List ℕ) → k ≤ m → m ≤ k → RowArcs h movable c p F k sets →
    RowArcs h movable c p F m sets
row-arcs_all h movable c p F k m sets low high arcs = let e : k ≡ m = omega arith in rw e at arcs

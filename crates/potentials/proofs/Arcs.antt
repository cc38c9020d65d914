-- An arc of the zero graph is one of three kinds, and each of them is an arc. Assumes nothing.
use mathlib.Core.Path.{◌≡◌, sym, ◌∙◌}
use mathlib.Core.Bool.{Bool, true, ◌&&◌, ◌||◌}
use mathlib.Core.Logic.{⊎_elim}
use Prim.Native.Nat.{ℕ, zero, suc, ◌+◌, ◌^◌, ◌≤◌, ◌<◌}
use native.Mathlib.Omega.{arith}
use lib.Dec.{eqb}
use borrow.Author.Tests.{eqb-true, eq-eqb}
use Rattle.laws.specs.Finite.{any_below}
use Rattle.laws.proofs.Booleans.{and_l, and_r, and_i, or_l, or_r, or_cases}
use Rattle.laws.proofs.Finite.{any_found, any_intro}
use Rattle.junctions.specs.Sets.{holds}
use Rattle.junctions.proofs.Sets.{gather_lt, gather-holds}
use Rattle.hall.specs.Hall.{Hall, row, count}
use Rattle.dicuts.specs.Shores.{around, once}
use Rattle.potentials.specs.ZeroGraph.{Opens, Closes, SwapsFor, opens, closes, swaps, zero_arc, zero_arcs}

and_four : (a b c d : Bool) → ((a && b) && (c && d)) ≡ true → (a ≡ true) × (b ≡ true) × (c ≡ true) × (d ≡ true)
and_four a b c d e =
    let l : (a && b) ≡ true = and_l (a && b) (c && d) e in
    let r : (c && d) ≡ true = and_r (a && b) (c && d) e in
    (and_l a b l, and_r a b l, and_l c d r, and_r c d r)

and_four_i : (a b c d : Bool) → a ≡ true → b ≡ true → c ≡ true → d ≡ true → ((a && b) && (c && d)) ≡ true
and_four_i a b c d p q r s = and_i (a && b) (c && d) (and_i a b p q) (and_i c d r s)

module _ (h : Hall) (m : ℕ → Bool) (c p : ℕ → ℕ) (F : ℕ → Bool) where
  pub zero_arcs_lt : (x : ℕ) → zero_arcs h m c p F x < 2 ^ h.n
  unfolding zero_arcs
  zero_arcs_lt x = gather_lt h.n (zero_arc h m c p F x)

  -- the tests read
  pub opens_true : (x y i : ℕ) → 1 ≤ i → i ≤ count h → opens h m c p x y i ≡ true → Opens h m c p x y i
  unfolding opens
  opens_true x y i l u e =
      let w = and_four (m i) (eqb (p x) (p y + c i)) (eqb (row h i).from y) (eqb (row h i).to x) e in
      record {
        low = l;
        high = u;
        free = w.0;
        rise = eqb-true (p x) (p y + c i) w.1;
        from_is = eqb-true (row h i).from y w.2;
        to_is = eqb-true (row h i).to x w.3;
      }

  pub true_opens : (x y i : ℕ) → Opens h m c p x y i → opens h m c p x y i ≡ true
  unfolding opens
  true_opens x y i o =
      and_four_i (m i) (eqb (p x) (p y + c i)) (eqb (row h i).from y) (eqb (row h i).to x) o.free (eq-eqb (p x) (p y + c i) o.rise)
      (eq-eqb (row h i).from y o.from_is) (eq-eqb (row h i).to x o.to_is)

  pub closes_true : (x y i : ℕ) → 1 ≤ i → i ≤ count h → closes h m F x y i ≡ true → Closes h m F x y i
  unfolding closes
  closes_true x y i l u e =
      let w = and_four (m i) (F i) (eqb (row h i).from x) (eqb (row h i).to y) e in
      record {
        low = l;
        high = u;
        free = w.0;
        chosen = w.1;
        from_is = eqb-true (row h i).from x w.2;
        to_is = eqb-true (row h i).to y w.3;
      }

  pub true_closes : (x y i : ℕ) → Closes h m F x y i → closes h m F x y i ≡ true
  unfolding closes
  true_closes x y i o =
      and_four_i (m i) (F i) (eqb (row h i).from x) (eqb (row h i).to y) o.free o.chosen (eq-eqb (row h i).from x o.from_is)
      (eq-eqb (row h i).to y o.to_is)

  pub swaps_true : (x y : ℕ) → swaps h p F x y ≡ true → SwapsFor h p F x y
  unfolding swaps
  swaps_true x y e =
      record {
        near = and_l (holds (around h (once F) x) y) (eqb (p x) (p y)) e;
        level = eqb-true (p x) (p y) (and_r (holds (around h (once F) x) y) (eqb (p x) (p y)) e);
      }

  pub true_swaps : (x y : ℕ) → SwapsFor h p F x y → swaps h p F x y ≡ true
  unfolding swaps
  true_swaps x y o = and_i (holds (around h (once F) x) y) (eqb (p x) (p y)) o.near (eq-eqb (p x) (p y) o.level)

  -- each kind is an arc
  abbrev by_row : (x y k : ℕ) → Bool
  by_row x y k = opens h m c p x y (suc k) || closes h m F x y (suc k)

  row-arc : (x y i : ℕ) → 1 ≤ y → y ≤ h.n → 1 ≤ i → i ≤ count h → (opens h m c p x y i || closes h m F x y i) ≡ true → holds (zero_arcs h m c p F x) y ≡ true
  unfolding zero_arc zero_arcs
  row-arc x y zero ly hy l u e = absurd (omega arith)
  row-arc x y (suc k) ly hy l u e =
      gather-holds h.n (zero_arc h m c p F x) y ly hy
      ∙ or_l (any_below (count h) (by_row x y)) (swaps h p F x y) (any_intro (count h) (by_row x y) k (omega arith) e)

  pub open_arc : (x y i : ℕ) → 1 ≤ y → y ≤ h.n → Opens h m c p x y i → holds (zero_arcs h m c p F x) y ≡ true
  open_arc x y i ly hy o = row-arc x y i ly hy o.low o.high (or_l (opens h m c p x y i) (closes h m F x y i) (true_opens x y i o))

  pub close_arc : (x y i : ℕ) → 1 ≤ y → y ≤ h.n → Closes h m F x y i → holds (zero_arcs h m c p F x) y ≡ true
  close_arc x y i ly hy o = row-arc x y i ly hy o.low o.high (or_r (opens h m c p x y i) (closes h m F x y i) (true_closes x y i o))

  pub swap_arc : (x y : ℕ) → 1 ≤ y → y ≤ h.n → SwapsFor h p F x y → holds (zero_arcs h m c p F x) y ≡ true
  unfolding zero_arc zero_arcs
  swap_arc x y ly hy o =
      gather-holds h.n (zero_arc h m c p F x) y ly hy ∙ or_r (any_below (count h) (by_row x y)) (swaps h p F x y) (true_swaps x y o)

  -- and there are no others
  pub arc_cases {ℓ} :
      {C : Type ℓ} (x y : ℕ) → 1 ≤ y → y ≤ h.n → holds (zero_arcs h m c p F x) y ≡ true →
      ((i : ℕ) → Opens h m c p x y i → C) → ((i : ℕ) → Closes h m F x y i → C) → (SwapsFor h p F x y → C) → C
  unfolding zero_arc zero_arcs
  arc_cases {C} x y ly hy e on_open on_close on_swap =
      ⊎_elim
      (λ (a : any_below (count h) (by_row x y) ≡ true).
      let w = any_found (count h) (by_row x y) a in
      ⊎_elim
      (λ (o : opens h m c p x y (suc w.0) ≡ true). on_open (suc w.0) (opens_true x y (suc w.0) (omega arith) w.1 o))
      (λ (o : closes h m F x y (suc w.0) ≡ true). on_close (suc w.0) (closes_true x y (suc w.0) (omega arith) w.1 o))
      (or_cases (opens h m c p x y (suc w.0)) (closes h m F x y (suc w.0)) w.2))
      (λ (s : swaps h p F x y ≡ true). on_swap (swaps_true x y s))
      (or_cases (any_below (count h) (by_row x y)) (swaps h p F x y) (sym (gather-holds h.n (zero_arc h m c p F x) y ly hy) ∙ e))

-- Arcs of the zero graph made in the flags, one after another: the row found is opened or closed, and where none is found the arc is a swap. Assumes nothing.
use mathlib.Core.Path.{◌≡◌, refl, sym, ap, ◌∙◌}
use mathlib.Core.Bool.{Bool, true, false, cond}
use mathlib.Core.List.{List, [], ◌∷◌}
use Rattle.std.specs.Prelude.{Option, None, Some, MatchOption}
use Prim.Native.Nat.{ℕ, suc, ◌-◌, ◌≤◌, ◌<◌}
use native.Mathlib.Omega.{arith}
use lib.Dec.{eqb, leb}
use lib.ListN.{length, set, get_or}
use lib.Seq.{get_or-set_same, get_or-set_other}
use borrow.Author.Tests.{eqb-true, eqb-false, leb-true, leb-false}
use Rattle.laws.specs.Lists.{at}
use Rattle.laws.proofs.Booleans.{by_bool, clash}
use Rattle.laws.proofs.First.{first_passes, first_least, first_more, first_none}
use Rattle.junctions.specs.Sets.{holds}
use Rattle.junctions.proofs.Sets.{none_holds}
use Rattle.hall.specs.Hall.{Hall, count}
use Rattle.columns.specs.Columns.{flagged}
use Rattle.potentials.specs.ZeroGraph.{opens, closes, zero_arcs}
use Rattle.potentials.specs.Flip.{Leg, by_open, by_close, by_swap, end_of, Takes, Route, put, after, flipped}
use Rattle.potentials.proofs.Arcs.{opens_true, true_opens, closes_true, true_closes, arc_cases}
use Rattle.flip.specs.Flips.{FirstPlace, SameRows, Made, Walked}
use Rattle.zerograph.specs.Zero.{ZeroGraph}

-- what a search of the places below m finds is the first that passes
module _ (m : ℕ) (test : ℕ → Bool) where
  pub first_place :
      (r : Option ℕ) → MatchOption r ((k : ℕ) → 0 ≤ k → k < m → test k ≡ false) (λ i. (0 ≤ i) × (i < m) × (test i ≡ true) × ((k : ℕ) → 0 ≤ k → k < i → test k ≡ false)) →
      FirstPlace m test r
  unfolding FirstPlace
  first_place None none = first_none m test (λ i l. none i (omega arith) l)
  first_place (Some k) found = (sym (first_more m test k found.1 (λ i l. found.3 i (omega arith) l) found.2), found.1)

  found_passes : (k : ℕ) → FirstPlace m test (Some k) → (k < m) × (test k ≡ true)
  unfolding FirstPlace
  found_passes k found = (found.1, ap test found.0 ∙ first_passes m test (omega (arith, found.0, found.1)))

  none_passes : FirstPlace m test None → (k : ℕ) → k < m → test k ≡ true → ⊥
  unfolding FirstPlace
  none_passes none k less passes = clash passes (first_least m test k (omega (arith, none)))

-- what is set at a place of a column is put for the row that stands there
pub set_puts : {A : Type 0} (none : A) (xs : List A) (r : ℕ) (b : A) → r < length xs → (k : ℕ) → 1 ≤ k → get_or (set xs r b) (k - 1) none ≡ put (suc r) b (λ j. get_or xs (j - 1) none) k
unfolding put
set_puts none xs r b less k l =
    by_bool (eqb k (suc r))
    (λ e.
    let q : k - 1 ≡ r = omega (arith, eqb-true k (suc r) e) in
    rw (e, q) (get_or-set_same xs r b none less))
    (λ e.
    let other : k - 1 ≡ r → ⊥ = λ q. eqb-false k (suc r) e (omega arith) in
    rw e (get_or-set_other xs r (k - 1) b none other))

module _ (h : Hall) (m : ℕ → Bool) (c p : ℕ → ℕ) (F : ℕ → Bool) (x y count_rows : ℕ) (rows : count h ≡ count_rows) (flags : List Bool) where
  abbrev pub opening_row : ℕ → Bool
  opening_row k = opens h m c p x y (suc k)

  abbrev pub closing_row : ℕ → Bool
  closing_row k = closes h m F x y (suc k)

  pub made_open : (r : ℕ) → FirstPlace count_rows opening_row (Some r) → r < length flags → Made h m c p F x y (flagged flags) (flagged (set flags r true))
  unfolding end_of Takes after
  made_open r first fits ly hy arc =
      let found = found_passes count_rows opening_row r first in
      (by_open (suc r) y, refl, opens_true h m c p F x y (suc r) (omega arith) (omega (arith, rows, found.0)) found.1, set_puts false flags r true fits)

  pub made_close : (r : ℕ) → FirstPlace count_rows closing_row (Some r) → r < length flags → Made h m c p F x y (flagged flags) (flagged (set flags r false))
  unfolding end_of Takes after
  made_close r first fits ly hy arc =
      let found = found_passes count_rows closing_row r first in
      (by_close (suc r) y, refl, closes_true h m c p F x y (suc r) (omega arith) (omega (arith, rows, found.0)) found.1, set_puts false flags r false fits)

  pub made_swap : FirstPlace count_rows opening_row None → FirstPlace count_rows closing_row None → Made h m c p F x y (flagged flags) (flagged flags)
  unfolding end_of Takes after
  made_swap no_open no_close ly hy arc =
      arc_cases h m c p F x y ly hy arc
      (λ i o. let same : suc (i - 1) ≡ i = omega (arith, o.low) in
      absurd (none_passes count_rows opening_row no_open (i - 1) (omega (arith, o.low, o.high, rows)) (rw same (true_opens h m c p F x y i o))))
      (λ i o. let same : suc (i - 1) ≡ i = omega (arith, o.low) in
      absurd (none_passes count_rows closing_row no_close (i - 1) (omega (arith, o.low, o.high, rows)) (rw same (true_closes h m c p F x y i o))))
      (λ o. (by_swap y, refl, o, λ k l. refl))

-- the same rows stay the same after a row is put in or taken out, and after a leg
pub puts_same : (i : ℕ) (b : Bool) (F G : ℕ → Bool) → SameRows F G → SameRows (put i b F) (put i b G)
unfolding put
puts_same i b F G same k l = ap (λ (t : Bool). cond (eqb k i) b t) (same k l)

pub after_same : (l : Leg) (F G : ℕ → Bool) → SameRows F G → SameRows (after l F) (after l G)
unfolding after
after_same (by_open i w) F G same = puts_same i true F G same
after_same (by_close i w) F G same = puts_same i false F G same
after_same (by_swap w) F G same = same

module _ (h : Hall) (m : ℕ → Bool) (c p : ℕ → ℕ) (F : ℕ → Bool) where
  -- an arc of the lists is one of the zero graph
  pub zero-inside :
      (sets : List ℕ) → ZeroGraph h m c p F sets → (x y : ℕ) → 1 ≤ x → x ≤ 64 → holds (at sets x) y ≡ true →
      (x ≤ h.n) × (holds (zero_arcs h m c p F x) y ≡ true)
  zero-inside sets graph x y lx hx arc =
      by_bool (leb x h.n)
      (λ e. let inside = leb-true x h.n e in (inside, sym (ap (λ (s : ℕ). holds s y) (graph.inside x lx inside)) ∙ arc))
      (λ e. clash arc (ap (λ (s : ℕ). holds s y) (graph.outside x (leb-false x h.n e) hx) ∙ none_holds y))

  module _ (dist : ℕ → ℕ) (target : ℕ) where
    -- G is F after the legs of a route from y to the target
    abbrev pub Walking : (y : ℕ) → (G : ℕ → Bool) → Type 0
    Walking y G = (ls : List Leg) × Route h m c p F dist y ls target × SameRows G (flipped ls F)

    pub walking_start : Walking target F
    unfolding Route flipped
    walking_start = ([], refl, λ k l. refl)

    pub walking_more :
        (x y : ℕ) (G G' : ℕ → Bool) → 1 ≤ y → y ≤ h.n → dist y ≡ suc (dist x) → holds (zero_arcs h m c p F x) y ≡ true → Made h m c p F x y G G' →
        Walking y G → Walking x G'
    unfolding Route flipped
    walking_more x y G G' ly hy up arc made walk =
        let leg = made ly hy arc in
        let l : Leg = leg.0 in
        let ls : List Leg = walk.0 in
        let at_end : (1 ≤ end_of l) × (end_of l ≤ h.n) × (dist (end_of l) ≡ suc (dist x)) × Route h m c p F dist (end_of l) ls target =
        rw leg.1 (ly, hy, up, walk.1) in
        (l ∷ ls, (at_end.0, at_end.1, leg.2, at_end.2, at_end.3), λ k lk. leg.3 k lk ∙ after_same l G (flipped ls F) walk.2 k lk)

    pub walking_end :
        (x : ℕ) (flags : List Bool) (r : ℕ) (b : Bool) → r < length flags → Walking x (flagged flags) → Walked h m c p F dist x target (suc r) b (flagged (set flags r b))
    walking_end x flags r b less walk =
        (walk.0, walk.1, λ k l. set_puts false flags r b less k l ∙ puts_same (suc r) b (flagged flags) (flipped walk.0 F) walk.2 k l)

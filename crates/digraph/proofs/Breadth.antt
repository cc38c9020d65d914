-- The machine's search by layers: it starts, goes on and stops with the fewest arcs to what it holds. Assumes nothing.
use mathlib.Core.Path.{◌≡◌, refl, sym, ap, ap₂, ◌∙◌}
use mathlib.Core.Bool.{Bool, true, false, ◌&&◌, ◌||◌, not, cond}
use mathlib.Core.List.{List}
use mathlib.Core.Logic.{⊎_elim}
use Prim.Native.Nat.{ℕ, ◌+◌, ◌-◌, ◌*◌, ◌%◌, ◌^◌, ◌≤◌, ◌<◌}
use native.Mathlib.Numerals.{add-one}
use native.Mathlib.Omega.{arith}
use lib.Bits.{bit_and, bit_or, or_lt, and_le_l}
use lib.Dec.{eqb}
use lib.ListN.{length}
use lib.Pow.{pow-lt}
use borrow.Author.Tests.{eq-eqb, eqb-true, eqb-false, not-true}
use Rattle.laws.specs.Lists.{at}
use Rattle.laws.proofs.Booleans.{by_bool, clash, and_l, and_r, and_i, or_cases, bool_ext, not_true_false}
use Rattle.junctions.specs.Sets.{holds}
use Rattle.junctions.proofs.Bits.{one_shl}
use Rattle.junctions.proofs.Bounds.{junction_le}
use Rattle.junctions.proofs.Sets.{and_holds, or_holds, less_holds, none_holds, some_junction}
use Rattle.junctions.proofs.Without.{without}
use Rattle.digraph.specs.Closure.{arc_from}
use Rattle.digraph.specs.Distances.{distances}
use Rattle.digraph.specs.Search.{avoiding, Searched}
use Rattle.digraph.specs.Turns.{Turn}
use Rattle.digraph.specs.Layers.{Marked}
use Rattle.digraph.proofs.Closure.{arc_from_intro, arc_from_found}
use Rattle.digraph.proofs.Balls.{distances_are}
use Rattle.digraph.proofs.Layers.{layers_start, layers_step, layer_below}
use Rattle.digraph.proofs.Stopped.{stopped}

pub avoiding-holds : (set : ℕ) (out : ℕ → ℕ) (x y : ℕ) → holds (avoiding set out x) y ≡ (holds (out x) y && not (holds set y))
unfolding avoiding
avoiding-holds set out x y = less_holds (out x) set y

-- arcs that avoid the set lead to what arcs lead to outside it
arc_from-avoiding : (n : ℕ) (out : ℕ → ℕ) (set s y : ℕ) → arc_from n (avoiding set out) s y ≡ (arc_from n out s y && not (holds set y))
arc_from-avoiding n out set s y = bool_ext (arc_from n (avoiding set out) s y) (arc_from n out s y && not (holds set y)) there back
  where
    there : arc_from n (avoiding set out) s y ≡ true → (arc_from n out s y && not (holds set y)) ≡ true
    there t =
        let w = arc_from_found n (avoiding set out) s y t in
        let both = sym (avoiding-holds set out w.0 y) ∙ w.4 in
        and_i (arc_from n out s y) (not (holds set y))
        (arc_from_intro n out s w.0 y w.1 w.2 w.3 (and_l (holds (out w.0) y) (not (holds set y)) both))
        (and_r (holds (out w.0) y) (not (holds set y)) both)

    back : (arc_from n out s y && not (holds set y)) ≡ true → arc_from n (avoiding set out) s y ≡ true
    back t =
        let w = arc_from_found n out s y (and_l (arc_from n out s y) (not (holds set y)) t) in
        arc_from_intro n (avoiding set out) s w.0 y w.1 w.2 w.3
        (avoiding-holds set out w.0 y ∙ and_i (holds (out w.0) y) (not (holds set y)) w.4 (and_r (arc_from n out s y) (not (holds set y)) t))

neither : (a b c : Bool) → (a && not (b || c)) ≡ ((a && not b) && not c)
neither true true c = refl
neither true false c = refl
neither false b c = refl

-- what the loop's test says
pub goes_on : (layer goal : ℕ) → (not (eqb layer 0) && eqb (bit_and layer goal) 0) ≡ true → (0 < layer) × (bit_and layer goal ≡ 0)
goes_on layer goal t =
    let some = eqb-false layer 0 (not-true (eqb layer 0) (and_l (not (eqb layer 0)) (eqb (bit_and layer goal) 0) t)) in
    (omega (arith, some), eqb-true (bit_and layer goal) 0 (and_r (not (eqb layer 0)) (eqb (bit_and layer goal) 0) t))

is_over : (layer goal : ℕ) → (not (eqb layer 0) && eqb (bit_and layer goal) 0) ≡ false → bit_and layer goal ≡ 0 → layer ≡ 0
is_over layer goal f e =
    by_bool (eqb layer 0) (λ t. eqb-true layer 0 t)
    (λ t. clash (and_i (not (eqb layer 0)) (eqb (bit_and layer goal) 0) (ap not t) (eq-eqb (bit_and layer goal) 0 e)) f)

module _ (out : ℕ → ℕ) (start set goal : ℕ) (from_one : 1 ≤ start) (to_last : start ≤ 64) (before : List ℕ) where
  abbrev round : ℕ → ℕ
  round = avoiding set out

  pub breadth_start : length before ≡ 64 → Turn out start set goal before before ((1 * 2 ^ (start - 1)) % 2 ^ 64) 0 0
  breadth_start size =
      rw (one_shl (start - 1) (omega arith)) (
        pow-lt {i = start - 1} {j = 64} (omega arith),
        size,
        layers_start 64 round start from_one to_last (distances 64 round start) (distances_are 64 round start from_one to_last) (at before) goal,
        λ x y l m t. clash t (none_holds x),
      )

  module _ (dist : List ℕ) (layer done d : ℕ) (s : Turn out start set goal before dist layer done d) where
    pub breadth_below : 0 < layer → d < 64
    breadth_below p =
        layer_below 64 round start from_one to_last (distances 64 round start) (distances_are 64 round start from_one to_last) (at before) goal
        (at dist) layer done d s.2 p s.0

    pub breadth_step : (dist' : List ℕ) (found : ℕ) → bit_and layer goal ≡ 0 → Marked dist dist' layer (λ _. d) → found < 2 ^ 64 →
        set < 2 ^ 64 → done < 2 ^ 64 → ((y : ℕ) → holds found y ≡ arc_from 64 out layer y) →
        Turn out start set goal before dist' (bit_and found (18446744073709551615 - bit_or set (bit_or done layer))) (bit_or done layer) (d + 1)
    breadth_step dist' found unmet marked h set_fits done_fits found_is = (
      omega (arith, and_le_l found (18446744073709551615 - known), h),
      marked.size,
      rw (add-one d)
          (layers_step 64 round start from_one to_last (distances 64 round start) (distances_are 64 round start from_one to_last) (at before) goal
          (at dist) layer done d s.2 (at dist') (bit_and found (18446744073709551615 - known)) (bit_or done layer)
          (λ j l t. not_true_false (holds layer j) (λ u. clash (and_holds layer goal j ∙ and_i (holds layer j) (holds goal j) u t) (ap (λ (w : ℕ). holds w j) unmet ∙ none_holds j)))
          marked.entry (λ j l. or_holds done layer j) (λ j l. layer_is j)),
      λ x y l m t p a.
          ⊎_elim (λ (e : holds done x ≡ true). s.3 x y l m e p a)
          (λ (e : holds layer x ≡ true). junction_le 64 found y h (found_is y ∙ arc_from_intro 64 out layer x y l m e a))
          (or_cases (holds done x) (holds layer x) (sym (or_holds done layer x) ∙ t)),
    )
      where
        known : ℕ
        known = bit_or set (bit_or done layer)

        layer_is : (j : ℕ) → holds (bit_and found (18446744073709551615 - known)) j ≡ (arc_from 64 round layer j && not (holds (bit_or done layer) j))
        layer_is j =
            without found known h (or_lt 64 set (bit_or done layer) set_fits (or_lt 64 done layer done_fits s.0)) j
            ∙ ap₂ (λ (a b : Bool). a && not b) (found_is j) (or_holds set (bit_or done layer) j)
            ∙ neither (arc_from 64 out layer j) (holds set j) (holds (bit_or done layer) j)
            ∙ ap (λ (a : Bool). a && not (holds (bit_or done layer) j)) (sym (arc_from-avoiding 64 out set layer j))

    pub breadth_stop : (dist' : List ℕ) → (not (eqb layer 0) && eqb (bit_and layer goal) 0) ≡ false → Marked dist dist' (bit_and layer goal) (λ _. d) →
        Searched 64 out start set goal (bit_or done (bit_and layer goal)) before dist'
    breadth_stop dist' test marked =
        stopped 64 out start set goal from_one to_last (distances 64 round start) (distances_are 64 round start from_one to_last) before dist layer done d
        s.2 s.3 over (bit_or done (bit_and layer goal)) dist' marked.size
        (λ j l. or_holds done (bit_and layer goal) j ∙ ap (λ (b : Bool). holds done j || b) (and_holds layer goal j))
        (λ j l m. marked.entry j l m ∙ ap (λ (b : Bool). cond b d (at dist j)) (and_holds layer goal j))
      where
        over : ((j : ℕ) → 1 ≤ j → (holds layer j && holds goal j) ≡ false) → layer ≡ 0
        over unmet =
            is_over layer goal test
            (by_bool (eqb (bit_and layer goal) 0) (λ e. eqb-true (bit_and layer goal) 0 e)
            (λ e.
            let w = some_junction 64 (bit_and layer goal) (omega (arith, eqb-false (bit_and layer goal) 0 e)) (omega (arith, and_le_l layer goal, s.0)) in
            clash (sym (and_holds layer goal w.0) ∙ w.3) (unmet w.0 w.1)))

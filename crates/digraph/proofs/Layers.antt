-- Each layer is what arcs from the last one find beyond what is done; when a layer is empty all that arcs lead to is done. Assumes nothing.
use mathlib.Core.Path.{◌≡◌, refl, sym, ap, ◌∙◌}
use mathlib.Core.Bool.{true, false, ◌&&◌, ◌||◌, not, cond}
use mathlib.Core.Logic.{◌⊎◌, ⊎_elim}
use Prim.Native.Nat.{ℕ, suc, ◌-◌, ◌^◌, ◌≤◌, ◌<◌}
use native.Mathlib.Omega.{arith}
use lib.Dec.{eqb, ltb}
use borrow.Author.Tests.{eq-eqb, eqb-true, ltb-true, ltb-false, not-true}
use Rattle.laws.proofs.Booleans.{by_bool, clash, and_l, and_r, and_i, or_cases, or_l, or_r, or_false_l, or_false_r, not_true_false, bool_ext, cond_true, cond_false}
use Rattle.laws.proofs.Connectives.{or_false_i}
use Rattle.junctions.proofs.Sets.{one_holds, none_holds, some_junction}
use Rattle.junctions.specs.Sets.{holds}
use Rattle.digraph.specs.Closure.{arc_from}
use Rattle.digraph.specs.Paths.{Distances}
use Rattle.digraph.specs.Layers.{Layered, Before}
use Rattle.digraph.proofs.Closure.{arc_from_intro, arc_from_found}
use Rattle.digraph.proofs.Paths.{near-arc, level}

-- arcs from a set are those of one junction and those of the rest
pub arc_from_split : (n : ℕ) (out : ℕ → ℕ) (s j rest y : ℕ) → 1 ≤ j → j ≤ n → holds s j ≡ true
    → ((i : ℕ) → 1 ≤ i → holds rest i ≡ (holds s i && not (eqb i j))) → arc_from n out s y ≡ (holds (out j) y || arc_from n out rest y)
arc_from_split n out s j rest y l m h rest_is = bool_ext (arc_from n out s y) (holds (out j) y || arc_from n out rest y) there back
  where
    there : arc_from n out s y ≡ true → (holds (out j) y || arc_from n out rest y) ≡ true
    there t =
        let w = arc_from_found n out s y t in
        by_bool (eqb w.0 j)
        (λ e. or_l (holds (out j) y) (arc_from n out rest y) (sym (ap (λ (x : ℕ). holds (out x) y) (eqb-true w.0 j e)) ∙ w.4))
        (λ e. or_r (holds (out j) y) (arc_from n out rest y)
        (arc_from_intro n out rest w.0 y w.1 w.2 (rest_is w.0 w.1 ∙ and_i (holds s w.0) (not (eqb w.0 j)) w.3 (ap not e)) w.4))

    back : (holds (out j) y || arc_from n out rest y) ≡ true → arc_from n out s y ≡ true
    back t =
        ⊎_elim (λ (e : holds (out j) y ≡ true). arc_from_intro n out s j y l m h e)
        (λ (e : arc_from n out rest y ≡ true).
        let w = arc_from_found n out rest y e in
        arc_from_intro n out s w.0 y w.1 w.2 (and_l (holds s w.0) (not (eqb w.0 j)) (sym (rest_is w.0 w.1) ∙ w.3)) w.4)
        (or_cases (holds (out j) y) (arc_from n out rest y) t)

pub arc_from_none : (n : ℕ) (out : ℕ → ℕ) (s y : ℕ) → s ≡ 0 → arc_from n out s y ≡ false
arc_from_none n out s y e =
    not_true_false (arc_from n out s y)
    (λ t. let w = arc_from_found n out s y t in clash w.3 (ap (λ (r : ℕ). holds r w.0) e ∙ none_holds w.0))

pub before_there : (n : ℕ) (out : ℕ → ℕ) (start : ℕ) (dist : ℕ → ℕ) → Distances n out start dist
    → (y : ℕ) → 1 ≤ y → y ≤ n → 0 < dist y → dist y < n → (x : ℕ) × Before n out dist y x
before_there n out start dist d y l m p h =
    let w = d.behind y l m p h in
    (w.0, record { from_one = w.1; to_last = w.2; closer = w.3; arc = w.4 })

module _ (n : ℕ) (out : ℕ → ℕ) (start : ℕ) (from_one : 1 ≤ start) (to_last : start ≤ n) (fewest : ℕ → ℕ) (d : Distances n out start fewest)
    (before : ℕ → ℕ) (goal : ℕ) where
  pub layers_start : Layered n fewest before before goal (2 ^ (start - 1)) 0 0
  layers_start = record {
    layer_in = λ j l m t. (ap fewest (eqb-true j start (sym (one_holds j start l from_one) ∙ t)) ∙ d.here, omega arith);
    layer_has = λ j l m e p. one_holds j start l from_one ∙ eq-eqb j start (d.alone j l m e);
    done_in = λ j l m t. clash t (none_holds j);
    done_has = λ j l m p. absurd (omega arith);
    marked = λ j l m t. clash t (none_holds j);
    kept = λ j l m f. refl;
    clear = λ j l g. none_holds j;
  }

  module _ (dist : ℕ → ℕ) (layer done k : ℕ) (s : Layered n fewest before dist goal layer done k) where
    -- a layer that is not empty is not the n-th
    pub layer_below : 0 < layer → layer < 2 ^ n → k < n
    layer_below p h = let w = some_junction n layer p h in (s.layer_in w.0 w.1 w.2 w.3).1

    -- once a layer is empty, all that arcs lead to is done
    pub layers_end : layer ≡ 0 → (j : ℕ) → 1 ≤ j → j ≤ n → fewest j < n → holds done j ≡ true
    layers_end e j l m less =
        by_bool (ltb (fewest j) k) (λ t. s.done_has j l m (ltb-true (fewest j) k t) less)
        (λ f. let far = ltb-false (fewest j) k f in
        let w = level n out start fewest d (fewest j - k) j l m less k (omega (arith, far)) in
        clash (s.layer_has w.0 w.1 w.2 w.3 (omega (arith, far, less))) (ap (λ (r : ℕ). holds r w.0) e ∙ none_holds w.0))

    module _ (dist' : ℕ → ℕ) (layer' done' : ℕ) (unmet : (j : ℕ) → 1 ≤ j → holds goal j ≡ true → holds layer j ≡ false)
        (marks : (j : ℕ) → 1 ≤ j → j ≤ n → dist' j ≡ cond (holds layer j) k (dist j))
        (done_is : (j : ℕ) → 1 ≤ j → holds done' j ≡ (holds done j || holds layer j))
        (layer_is : (j : ℕ) → 1 ≤ j → holds layer' j ≡ (arc_from n out layer j && not (holds done' j))) where
      done_cases : (j : ℕ) → 1 ≤ j → holds done' j ≡ true → (holds done j ≡ true) ⊎ (holds layer j ≡ true)
      done_cases j l t = or_cases (holds done j) (holds layer j) (sym (done_is j l) ∙ t)

      -- what is done then is what is nearer than the next layer
      next_done_in : (j : ℕ) → 1 ≤ j → j ≤ n → holds done' j ≡ true → (fewest j < suc k) × (fewest j < n)
      next_done_in j l m t =
          ⊎_elim (λ (e : holds done j ≡ true). let w = s.done_in j l m e in (omega (arith, w.0), w.1))
          (λ (e : holds layer j ≡ true). let w = s.layer_in j l m e in (omega (arith, w.0), omega (arith, w.0, w.1)))
          (done_cases j l t)

      next_done_has : (j : ℕ) → 1 ≤ j → j ≤ n → fewest j < suc k → fewest j < n → holds done' j ≡ true
      next_done_has j l m p h =
          done_is j l
          ∙ by_bool (ltb (fewest j) k) (λ e. or_l (holds done j) (holds layer j) (s.done_has j l m (ltb-true (fewest j) k e) h))
          (λ e. let x : fewest j ≡ k = omega (arith, ltb-false (fewest j) k e) in
          or_r (holds done j) (holds layer j) (s.layer_has j l m x (omega (arith, x))))

      next_in : (j : ℕ) → 1 ≤ j → j ≤ n → holds layer' j ≡ true → (fewest j ≡ suc k) × (suc k < n)
      next_in j l m t =
          let both = sym (layer_is j l) ∙ t in
          let w = arc_from_found n out layer j (and_l (arc_from n out layer j) (not (holds done' j)) both) in
          let x = s.layer_in w.0 w.1 w.2 w.3 in
          let near : fewest j < n = near-arc n out start fewest d w.0 j w.1 w.2 l m (omega (arith, x.0, x.1)) w.4 in
          let step : fewest j ≤ suc (fewest w.0) = d.ahead w.0 j w.1 w.2 l m w.4 in
          by_bool (ltb (fewest j) (suc k))
          (λ e. clash (next_done_has j l m (ltb-true (fewest j) (suc k) e) near) (not-true (holds done' j) (and_r (arc_from n out layer j) (not (holds done' j)) both)))
          (λ e. let far = ltb-false (fewest j) (suc k) e in (omega (arith, far, step, x.0), omega (arith, far, near)))

      next_has : (j : ℕ) → 1 ≤ j → j ≤ n → fewest j ≡ suc k → suc k < n → holds layer' j ≡ true
      next_has j l m e h =
          let w = d.behind j l m (omega (arith, e)) (omega (arith, e)) in
          layer_is j l
          ∙ and_i (arc_from n out layer j) (not (holds done' j))
          (arc_from_intro n out layer w.0 j w.1 w.2 (s.layer_has w.0 w.1 w.2 (omega (arith, w.3, e)) (omega arith)) w.4)
          (ap not (not_true_false (holds done' j) (λ t. omega (arith, (next_done_in j l m t).0, e))))

      pub layers_step : Layered n fewest before dist' goal layer' done' (suc k)
      layers_step = record {
        layer_in = next_in;
        layer_has = next_has;
        done_in = next_done_in;
        done_has = next_done_has;
        marked = λ j l m t.
            by_bool (holds layer j)
            (λ a. marks j l m ∙ cond_true (holds layer j) k (dist j) a ∙ sym (s.layer_in j l m a).0)
            (λ b. marks j l m ∙ cond_false (holds layer j) k (dist j) b
            ∙ ⊎_elim (λ (e : holds done j ≡ true). s.marked j l m e) (λ (e : holds layer j ≡ true). clash e b) (done_cases j l t));
        kept = λ j l m f.
            let none = sym (done_is j l) ∙ f in
            marks j l m ∙ cond_false (holds layer j) k (dist j) (or_false_r (holds done j) (holds layer j) none)
            ∙ s.kept j l m (or_false_l (holds done j) (holds layer j) none);
        clear = λ j l g. done_is j l ∙ or_false_i (holds done j) (holds layer j) (s.clear j l g) (unmet j l g);
      }

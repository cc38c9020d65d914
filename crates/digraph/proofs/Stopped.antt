-- What a search by layers has found where it stops: at its end, or in the layer where it meets the goal. Assumes nothing.
use mathlib.Core.Path.{◌≡◌, sym, ◌∙◌}
use mathlib.Core.Bool.{true, false, ◌&&◌, ◌||◌, cond}
use mathlib.Core.List.{List}
use mathlib.Core.Logic.{⊎_elim}
use Prim.Native.Nat.{ℕ, ◌≤◌, ◌<◌}
use native.Mathlib.Omega.{arith}
use lib.Dec.{ltb}
use lib.ListN.{length}
use borrow.Author.Tests.{ltb-true, ltb-false}
use Rattle.laws.proofs.Booleans.{by_bool, clash, and_l, and_r, or_cases, or_l, or_r, or_false_l, or_false_r, not_true_false, cond_true, cond_false}
use Rattle.laws.specs.Lists.{at}
use Rattle.junctions.specs.Sets.{holds}
use Rattle.digraph.specs.Paths.{Distances, Fewest}
use Rattle.digraph.specs.Layers.{Layered}
use Rattle.digraph.specs.Search.{avoiding, Searched}
use Rattle.digraph.proofs.Paths.{fewest, near_fewest, far_none}
use Rattle.digraph.proofs.Layers.{layers_end}

module _ (n : ℕ) (out : ℕ → ℕ) (start set goal : ℕ) (from_one : 1 ≤ start) (to_last : start ≤ n) (far : ℕ → ℕ)
    (d : Distances n (avoiding set out) start far) (before dist : List ℕ) (layer done k : ℕ)
    (s : Layered n far (at before) (at dist) goal layer done k)
    (inside : (x y : ℕ) → 1 ≤ x → x ≤ n → holds done x ≡ true → 1 ≤ y → holds (out x) y ≡ true → y ≤ n)
    (over : ((j : ℕ) → 1 ≤ j → (holds layer j && holds goal j) ≡ false) → layer ≡ 0)
    (r : ℕ) (after : List ℕ) (size : length after ≡ n)
    (r_is : (j : ℕ) → 1 ≤ j → holds r j ≡ (holds done j || (holds layer j && holds goal j)))
    (marks : (j : ℕ) → 1 ≤ j → j ≤ n → at after j ≡ cond (holds layer j && holds goal j) k (at dist j)) where
  met_in : (j : ℕ) → 1 ≤ j → j ≤ n → (holds layer j && holds goal j) ≡ true → (far j ≡ k) × (far j < n)
  met_in j l m t = let w = s.layer_in j l m (and_l (holds layer j) (holds goal j) t) in (w.0, omega (arith, w.0, w.1))

  -- what is held is done, or of the goal and in the layer at hand: its distance is marked, and none is farther than that layer
  held_at : (j : ℕ) → 1 ≤ j → j ≤ n → holds r j ≡ true → (at after j ≡ far j) × (far j < n) × (far j ≤ k)
  held_at j l m t =
      by_bool (holds layer j && holds goal j)
      (λ e. let w = met_in j l m e in
      (marks j l m ∙ cond_true (holds layer j && holds goal j) k (at dist j) e ∙ sym w.0, w.1, omega (arith, w.0)))
      (λ e.
      let is_done : holds done j ≡ true =
      ⊎_elim (λ (a : holds done j ≡ true). a) (λ (a : (holds layer j && holds goal j) ≡ true). clash a e)
      (or_cases (holds done j) (holds layer j && holds goal j) (sym (r_is j l) ∙ t)) in
      let w = s.done_in j l m is_done in
      (marks j l m ∙ cond_false (holds layer j && holds goal j) k (at dist j) e ∙ s.marked j l m is_done, w.1, omega (arith, w.0)))

  keeps : (j : ℕ) → 1 ≤ j → holds done j ≡ true → holds r j ≡ true
  keeps j l t = r_is j l ∙ or_l (holds done j) (holds layer j && holds goal j) t

  -- of the goal only the layer at hand is held
  goal_at : (g : ℕ) → 1 ≤ g → g ≤ n → holds goal g ≡ true → holds r g ≡ true → far g ≡ k
  goal_at g l m t h =
      ⊎_elim (λ (a : holds done g ≡ true). clash a (s.clear g l t)) (λ (a : (holds layer g && holds goal g) ≡ true). (met_in g l m a).0)
      (or_cases (holds done g) (holds layer g && holds goal g) (sym (r_is g l) ∙ h))

  pub stopped : Searched n out start set goal r before after
  unfolding Fewest
  stopped = record {
    size = size;
    fewest = λ y l m t. let w = held_at y l m t in rw w.0 (near_fewest n (avoiding set out) start far d from_one to_last y l m w.1);
    few = λ y l m t. let w = held_at y l m t in omega (arith, w.0, w.1);
    nearer = λ x y ws p q l m t walk less.
        let w = held_at y l m t in
        let close : far x ≤ length ws = fewest n (avoiding set out) start far d from_one to_last ws x walk in
        keeps x p (s.done_has x p q (omega (arith, close, less, w.0, w.2)) (omega (arith, close, less, w.0, w.1)));
    nearest = λ g y p q l m t h held.
        let w = held_at y l m held in
        omega (arith, w.0, w.2, (held_at g p q h).0, goal_at g p q t h);
    ended = λ unmet y l m f.
        let last = over (λ j p. not_true_false (holds layer j && holds goal j) (λ t.
        clash (r_is j p ∙ or_r (holds done j) (holds layer j && holds goal j) t) (unmet j p (and_r (holds layer j) (holds goal j) t)))) in
        far_none n (avoiding set out) start far d from_one to_last y
        (by_bool (ltb (far y) n)
        (λ t. clash (keeps y l (layers_end n (avoiding set out) start from_one to_last far d (at before) goal (at dist) layer done k s last y l m (ltb-true (far y) n t))) f)
        (λ t. ltb-false (far y) n t));
    inside = λ x y l m h f p a.
        inside x y l m (⊎_elim (λ (e : holds done x ≡ true). e) (λ (e : (holds layer x && holds goal x) ≡ true). clash (and_r (holds layer x) (holds goal x) e) f)
        (or_cases (holds done x) (holds layer x && holds goal x) (sym (r_is x l) ∙ h))) p a;
    kept = λ y l m f.
        let none = sym (r_is y l) ∙ f in
        marks y l m ∙ cond_false (holds layer y && holds goal y) k (at dist y) (or_false_r (holds done y) (holds layer y && holds goal y) none)
        ∙ s.kept y l m (or_false_l (holds done y) (holds layer y && holds goal y) none);
  }

-- What the reach step says of sets and of distances, and that a search which met no junction of its goal is one. Assumes nothing.
use mathlib.Core.Path.{◌≡◌, refl, sym, ap, ◌∙◌}
use mathlib.Core.Bool.{Bool, true, false, ◌&&◌, not, and-true}
use mathlib.Core.List.{List, [], ◌∷◌}
use mathlib.Core.Option.{none, some}
use Prim.Native.Nat.{ℕ, suc, ◌-◌, ◌^◌, ◌≤◌, ◌<◌}
use native.Mathlib.Omega.{arith}
use lib.Bits.{bit_and}
use lib.ListN.{length}
use borrow.Author.Tests.{eqb-true}
use Rattle.laws.proofs.Booleans.{by_bool, clash, and_l, and_i, not_true_false, not_false_true}
use Rattle.laws.specs.Lists.{at}
use Rattle.junctions.specs.Sets.{holds, Within}
use Rattle.junctions.proofs.Bounds.{junction_le}
use Rattle.junctions.proofs.Sets.{and_holds, none_holds, one_holds}
use Rattle.junctions.proofs.Single.{one_self}
use Rattle.digraph.specs.Reach.{Closed, Reach}
use Rattle.digraph.specs.Paths.{Distances, Walk, Fewest}
use Rattle.digraph.specs.Search.{if_held, Reached, avoiding, Searched}
use Rattle.digraph.proofs.Breadth.{avoiding-holds}
use Rattle.digraph.proofs.Walks.{walk_join, walk_last, walk_alike, walk_closed, fewest_alike}

-- a search that holds no junction of its goal has gone to its end
pub searched_reached : (n : ℕ) (out : ℕ → ℕ) (start set goal r : ℕ) (before after : List ℕ) → Searched n out start set goal r before after →
    ((g : ℕ) → 1 ≤ g → holds goal g ≡ true → holds r g ≡ false) → Reached n (avoiding set out) start r before after
unfolding if_held
searched_reached n out start set goal r before after s unmet = record {
  size = s.size;
  fewest = λ y l m.
      by_bool (holds r y) (λ t. rw t (s.fewest y l m t)) (λ f. rw f (s.ended unmet y l m f));
  few = s.few;
  inside = λ x y l m h p a. s.inside x y l m h (goal_free x l h) p (and_l (holds (out x) y) (not (holds set y)) (sym (avoiding-holds set out x y) ∙ a));
  kept = s.kept;
}
  where
    goal_free : (x : ℕ) → 1 ≤ x → holds r x ≡ true → holds goal x ≡ false
    goal_free x l h = not_true_false (holds goal x) (λ t. clash h (unmet x l t))

-- arcs that avoid no junction are all arcs
pub avoiding_none : (out : ℕ → ℕ) (x y : ℕ) → holds (avoiding 0 out x) y ≡ holds (out x) y
avoiding_none out x y = avoiding-holds 0 out x y ∙ ap (λ (b : Bool). holds (out x) y && not b) (none_holds y) ∙ and-true (holds (out x) y)

-- the same arcs from junctions 1 to n
pub reached_alike : (n : ℕ) (out to : ℕ → ℕ) → ((x y : ℕ) → 1 ≤ x → x ≤ n → 1 ≤ y → holds (out x) y ≡ holds (to x) y) →
    (start r : ℕ) (before after : List ℕ) → 1 ≤ start → start ≤ n → Reached n out start r before after → Reached n to start r before after
reached_alike n out to same start r before after low high s = record {
  size = s.size;
  fewest = λ y l m. fewest_alike n out to (λ x z a b c _. same x z a b c) start low high y (if_held (holds r y) (at after y)) (s.fewest y l m);
  few = s.few;
  inside = λ x y l m h p a. s.inside x y l m h p (same x y l m p ∙ a);
  kept = s.kept;
}

module _ (n : ℕ) (out : ℕ → ℕ) (start r : ℕ) (before after : List ℕ) (low : 1 ≤ start) (high : start ≤ n) (s : Reached n out start r before after) where
  held_fewest : (y : ℕ) → 1 ≤ y → y ≤ n → holds r y ≡ true → Fewest n out start y (some (at after y))
  unfolding if_held
  held_fewest y l m t = rw t at (s.fewest y l m)

  -- a walk to each junction that is held, with as many arcs as its place says
  pub held_walk : (y : ℕ) → 1 ≤ y → y ≤ n → holds r y ≡ true → (ws : List ℕ) × Walk n out start ws y × (length ws ≡ at after y)
  unfolding Fewest
  held_walk y l m t = (held_fewest y l m t).0

  held_least : (y : ℕ) → 1 ≤ y → y ≤ n → holds r y ≡ true → (ws : List ℕ) → Walk n out start ws y → at after y ≤ length ws
  unfolding Fewest
  held_least y l m t = (held_fewest y l m t).1

  -- what a walk leads to is held
  pub walk_held : (y : ℕ) → 1 ≤ y → y ≤ n → (ws : List ℕ) → Walk n out start ws y → holds r y ≡ true
  unfolding Fewest if_held
  walk_held y l m ws c = not_false_true (holds r y) (λ f. let no : Fewest n out start y none = rw f at (s.fewest y l m) in no ws c)

  start_held : holds r start ≡ true
  unfolding Walk
  start_held = walk_held start low high [] refl

  arc_held : (x y : ℕ) → 1 ≤ x → x ≤ n → 1 ≤ y → y ≤ n → holds r x ≡ true → holds (out x) y ≡ true →
      (holds r y ≡ true) × (at after y ≤ suc (at after x))
  arc_held x y l m p q t a =
      let w = held_walk x l m t in
      let v = walk_join n out start w.0 x y w.1 p q a in
      let h = walk_held y p q v.0 v.1 in
      (h, omega (arith, held_least y p q h v.0 v.1, v.2, w.2))

  -- what is held is the least closed set with the start
  pub reached_reach : r < 2 ^ n → Reach n out (2 ^ (start - 1)) r
  unfolding Within Closed
  reached_reach small = record {
    contains = λ y l t. ap (holds r) (eqb-true y start (sym (one_holds y start l low) ∙ t)) ∙ start_held;
    closed = λ x l m t y p a. (arc_held x y l m p (s.inside x y l m t p a) t a).0;
    least = λ t c shut y l h.
        let w = held_walk y l (junction_le n r y small h) h in
        walk_closed n out t shut start low high (c start low (one_self start low)) w.0 y w.1;
  }

  -- in a list of n everywhere the fewest arcs are distances
  module _ (far : (y : ℕ) → 1 ≤ y → y ≤ n → at before y ≡ n) where
    unheld : (y : ℕ) → 1 ≤ y → y ≤ n → holds r y ≡ false → at after y ≡ n
    unheld y l m f = s.kept y l m f ∙ far y l m

    near_held : (y : ℕ) → 1 ≤ y → y ≤ n → at after y < n → holds r y ≡ true
    near_held y l m h = not_false_true (holds r y) (λ f. omega (arith, unheld y l m f, h))

    at_most : (y : ℕ) → 1 ≤ y → y ≤ n → at after y ≤ n
    at_most y l m = by_bool (holds r y) (λ t. omega (arith, s.few y l m t)) (λ f. omega (arith, unheld y l m f))

    one_behind : (y : ℕ) → 1 ≤ y → y ≤ n → 0 < at after y → holds r y ≡ true → (ws : List ℕ) → Walk n out start ws y → length ws ≡ at after y →
        (x : ℕ) × (1 ≤ x) × (x ≤ n) × (suc (at after x) ≡ at after y) × (holds (out x) y ≡ true)
    one_behind y l m p t [] c e = absurd (omega (arith, p, e))
    one_behind y l m p t (w ∷ ws) c e =
        let last = walk_last n out start low high w ws y c in
        let x = last.0 in
        let h = walk_held x last.1 last.2 last.4.0 last.4.1 in
        let least = held_least x last.1 last.2 h last.4.0 last.4.1 in
        let step = (arc_held x y last.1 last.2 l m h last.3).1 in
        (x, last.1, last.2, omega (arith, least, step, e, last.4.2), last.3)

    pub reached-distances : Distances n out start (at after)
    unfolding Walk
    reached-distances = record {
      here = let z = held_least start low high start_held [] refl in omega (arith, z);
      alone = λ y l m z.
          let w = held_walk y l m (near_held y l m (omega (arith, z))) in only y w.0 w.1 (w.2 ∙ z);
      ahead = λ x y l m p q a.
          by_bool (holds r x) (λ t. (arc_held x y l m p q t a).1) (λ f. omega (arith, unheld x l m f, at_most y p q));
      behind = λ y l m p h. let t = near_held y l m h in let w = held_walk y l m t in one_behind y l m p t w.0 w.1 w.2;
    }
      where
        only : (y : ℕ) (ws : List ℕ) → Walk n out start ws y → length ws ≡ 0 → y ≡ start
        only y [] c e = sym c
        only y (w ∷ ws) c e = absurd (omega (arith, e))

-- a search that avoids no junction
module _ (n : ℕ) (out : ℕ → ℕ) (start goal r : ℕ) (before after : List ℕ) (low : 1 ≤ start) (high : start ≤ n) (s : Searched n out start 0 goal r before after) where
  -- what it holds is in each closed set with the start
  pub searched_within : (y : ℕ) → 1 ≤ y → y ≤ n → holds r y ≡ true → (t : ℕ) → holds t start ≡ true → Closed n out t → holds t y ≡ true
  unfolding Fewest
  searched_within y l m h t here shut =
      let w = (s.fewest y l m h).0 in
      walk_closed n out t shut start low high here w.0 y (walk_alike n (avoiding 0 out) out (λ x z _ _ _ _. avoiding_none out x z) start low high w.0 y w.1)

  -- and where it holds none of the goal, that is what is reached
  pub searched_reach : bit_and r goal ≡ 0 → r < 2 ^ n → Reach n out (2 ^ (start - 1)) r
  searched_reach unmet =
      reached_reach n out start r before after low high
      (reached_alike n (avoiding 0 out) out (λ x z _ _ _. avoiding_none out x z) start r before after low high
      (searched_reached n out start 0 goal r before after s
      (λ g l t. not_true_false (holds r g) (λ h. clash (and_holds r goal g ∙ and_i (holds r g) (holds goal g) h t) (ap (λ (w : ℕ). holds w g) unmet ∙ none_holds g)))))

-- Distances are the arcs of the shortest walks, each junction at a distance has a climb to it, and those at a distance are what is reached. Assumes nothing.
use mathlib.Core.Path.{◌≡◌, refl, sym, ap, ◌∙◌}
use mathlib.Core.Bool.{true}
use mathlib.Core.List.{List, [], ◌∷◌}
use mathlib.Core.Option.{none, some}
use Prim.Native.Nat.{ℕ, zero, suc, ◌+◌, ◌-◌, ◌^◌, ◌≤◌, ◌<◌}
use native.Mathlib.Omega.{arith}
use lib.Dec.{ltb}
use lib.ListN.{length}
use borrow.Author.Tests.{eq-eqb, eqb-true, ltb-true, ltb-false, lt-ltb, le-ltb}
use Rattle.laws.proofs.Booleans.{by_bool}
use Rattle.laws.proofs.Growth.{count_le, count_less}
use Rattle.junctions.proofs.Sets.{one_holds, gather_lt, gather-holds}
use Rattle.junctions.proofs.Bounds.{junction_le}
use Rattle.laws.specs.Finite.{count_below}
use Rattle.junctions.specs.Sets.{holds, Within}
use Rattle.digraph.specs.Reach.{Closed, Reach}
use Rattle.digraph.specs.Paths.{Distances, Walk, Fewest, Climb}
use Rattle.digraph.specs.Distances.{near}

pub climb_walk : (n : ℕ) (out dist : ℕ → ℕ) (x : ℕ) (ws : List ℕ) (y : ℕ) → Climb n out dist x ws y → Walk n out x ws y
unfolding Climb Walk
climb_walk n out dist x [] y c = c
climb_walk n out dist x (w ∷ ws) y c = (c.0, c.1, c.2, climb_walk n out dist w ws y c.4)

pub climb_height : (n : ℕ) (out dist : ℕ → ℕ) (x : ℕ) (ws : List ℕ) (y : ℕ) → Climb n out dist x ws y → dist y ≡ dist x + length ws
unfolding Climb
climb_height n out dist x [] y c = omega (arith, ap dist c)
climb_height n out dist x (w ∷ ws) y c = omega (arith, climb_height n out dist w ws y c.4, c.3)

module _ (n : ℕ) (out : ℕ → ℕ) (start : ℕ) (dist : ℕ → ℕ) (d : Distances n out start dist) where
  walk_from : (x : ℕ) → 1 ≤ x → x ≤ n → (ws : List ℕ) (y : ℕ) → Walk n out x ws y → dist y ≤ dist x + length ws
  unfolding Walk
  walk_from x l m [] y c = omega (arith, ap dist c)
  walk_from x l m (w ∷ ws) y c = omega (arith, walk_from w c.0 c.1 ws y c.3, d.ahead x w l m c.0 c.1 c.2)

  -- no walk from the start has fewer arcs
  pub fewest : 1 ≤ start → start ≤ n → (ws : List ℕ) (y : ℕ) → Walk n out start ws y → dist y ≤ length ws
  fewest l m ws y c = omega (arith, walk_from start l m ws y c, d.here)

  descend_on : (k y : ℕ) → 1 ≤ y → y ≤ n → dist y ≡ k → k < n → (ws : List ℕ) (z : ℕ) → Climb n out dist y ws z
      → (vs : List ℕ) × Climb n out dist start vs z
  unfolding Climb
  descend_on zero y l m e h ws z c = (ws, rw (sym (d.alone y l m e)) c)
  descend_on (suc k) y l m e h ws z c =
      let w = d.behind y l m (omega (arith, e)) (omega (arith, e)) in
      descend_on k w.0 w.1 w.2 (omega (arith, w.3, e)) (omega arith) (y ∷ ws) z (l, m, w.4, sym w.3, c)

  -- a climb from the start to each junction at a distance, with as many arcs
  pub descend : (y : ℕ) → 1 ≤ y → y ≤ n → dist y < n → (vs : List ℕ) × Climb n out dist start vs y × (length vs ≡ dist y)
  unfolding Climb
  descend y l m h =
      let w = descend_on (dist y) y l m refl h [] y refl in
      (w.0, w.1, omega (arith, climb_height n out dist start w.0 y w.1, d.here))

  -- every distance up to that of a junction is some junction's
  pub level : (k y : ℕ) → 1 ≤ y → y ≤ n → dist y < n → (j : ℕ) → dist y ≡ j + k → (x : ℕ) × (1 ≤ x) × (x ≤ n) × (dist x ≡ j)
  level zero y l m h j e = (y, l, m, omega (arith, e))
  level (suc k) y l m h j e =
      let w = d.behind y l m (omega (arith, e)) h in
      level k w.0 w.1 w.2 (omega (arith, w.3)) j (omega (arith, w.3, e))

  many_near : (y : ℕ) → 1 ≤ y → y ≤ n → dist y < n → (m : ℕ) → m ≤ suc (dist y) → m ≤ count_below n (λ k. ltb (dist (suc k)) m)
  many_near y p q h zero l = omega arith
  many_near y p q h (suc m) l =
      let w = level (dist y - m) y p q h m (omega arith) in
      let e : suc (w.0 - 1) ≡ w.0 = omega (arith, w.1) in
      let more = count_less n (λ k. ltb (dist (suc k)) m) (λ k. ltb (dist (suc k)) (suc m))
      (λ k o t. lt-ltb (dist (suc k)) (suc m) (omega (arith, ltb-true (dist (suc k)) m t)))
      (w.0 - 1) (omega (arith, w.1, w.2))
      (le-ltb (dist (suc (w.0 - 1))) m (omega (arith, ap dist e, w.3)))
      (lt-ltb (dist (suc (w.0 - 1))) (suc m) (omega (arith, ap dist e, w.3))) in
      omega (arith, more, many_near y p q h m (omega arith))

  -- where one junction is n - 1 arcs away, none is beyond
  near_all : (x : ℕ) → 1 ≤ x → x ≤ n → suc (dist x) ≡ n → (y : ℕ) → 1 ≤ y → y ≤ n → dist y < n
  near_all x l m e y p q =
      by_bool (ltb (dist y) n) (λ t. ltb-true (dist y) n t)
      (λ f. let s : suc (y - 1) ≡ y = omega arith in
      let fewer = count_less n (λ k. ltb (dist (suc k)) n) (λ k. true) (λ k o t. refl) (y - 1) (omega arith)
      (ap (λ (i : ℕ). ltb (dist i) n) s ∙ f) refl in
      absurd (omega (arith, fewer, count_le n (λ k. true), many_near x l m (omega (arith, e)) n (omega (arith, e)))))

  pub near-arc : (x y : ℕ) → 1 ≤ x → x ≤ n → 1 ≤ y → y ≤ n → dist x < n → holds (out x) y ≡ true → dist y < n
  near-arc x y l m p q h a =
      by_bool (ltb (suc (dist x)) n)
      (λ t. omega (arith, ltb-true (suc (dist x)) n t, d.ahead x y l m p q a))
      (λ f. near_all x l m (omega (arith, ltb-false (suc (dist x)) n f)) y p q)

  -- a walk from a junction at a distance leads to one
  walk_near : (x : ℕ) → 1 ≤ x → x ≤ n → dist x < n → (ws : List ℕ) (y : ℕ) → Walk n out x ws y → dist y < n
  unfolding Walk
  walk_near x l m h [] y c = omega (arith, h, ap dist c)
  walk_near x l m h (w ∷ ws) y c = walk_near w c.0 c.1 (near-arc x w l m c.0 c.1 h c.2) ws y c.3

  -- the distance is the fewest arcs to each junction, and to those at no distance none lead
  pub near_fewest : 1 ≤ start → start ≤ n → (y : ℕ) → 1 ≤ y → y ≤ n → dist y < n → Fewest n out start y (some (dist y))
  unfolding Fewest
  near_fewest s b y l m h =
      let w = descend y l m h in
      ((w.0, climb_walk n out dist start w.0 y w.1, w.2), λ ws c. fewest s b ws y c)

  pub far_none : 1 ≤ start → start ≤ n → (y : ℕ) → n ≤ dist y → Fewest n out start y none
  unfolding Fewest
  far_none s b y h ws c = omega (arith, walk_near start s b (omega (arith, d.here)) ws y c)

  pub near-holds : (y : ℕ) → 1 ≤ y → y ≤ n → holds (near n dist) y ≡ ltb (dist y) n
  unfolding near
  near-holds y l m = gather-holds n (λ j. ltb (dist j) n) y l m

  pub near_lt : near n dist < 2 ^ n
  unfolding near
  near_lt = gather_lt n (λ j. ltb (dist j) n)

  near_low : (y : ℕ) → 1 ≤ y → holds (near n dist) y ≡ true → (y ≤ n) × (dist y < n)
  near_low y l t =
      let m = junction_le n (near n dist) y near_lt t in
      (m, ltb-true (dist y) n (sym (near-holds y l m) ∙ t))

  near_needed : (t : ℕ) → Within (2 ^ (start - 1)) t → Closed n out t → 1 ≤ start
      → (k y : ℕ) → 1 ≤ y → y ≤ n → dist y ≡ k → k < n → holds t y ≡ true
  unfolding Within Closed
  near_needed t c o s zero y l m e h = c y l (one_holds y start l s ∙ eq-eqb y start (d.alone y l m e))
  near_needed t c o s (suc k) y l m e h =
      let w = d.behind y l m (omega (arith, e)) (omega (arith, e)) in
      o w.0 w.1 w.2 (near_needed t c o s k w.0 w.1 w.2 (omega (arith, w.3, e)) (omega arith)) y l w.4

  -- the junctions at a distance are what is reached from the start
  pub near_reach : 1 ≤ start → start ≤ n → ((j : ℕ) → 1 ≤ j → j ≤ n → out j < 2 ^ n) → Reach n out (2 ^ (start - 1)) (near n dist)
  unfolding Within Closed
  near_reach s b ranged = record {
    contains = λ y l t.
        let e : y ≡ start = eqb-true y start (sym (one_holds y start l s) ∙ t) in
        near-holds y l (omega (arith, e)) ∙ lt-ltb (dist y) n (omega (arith, ap dist e, d.here));
    closed = λ x l m t y p a.
        let q = junction_le n (out x) y (ranged x l m) a in
        near-holds y p q ∙ lt-ltb (dist y) n (near-arc x y l m p q (near_low x l t).1 a);
    least = λ t c o y l h. let w = near_low y l h in near_needed t c o s (dist y) y l w.0 refl w.1;
  }

  -- so what is reached is at a distance
  pub reached-near : 1 ≤ start → start ≤ n → ((j : ℕ) → 1 ≤ j → j ≤ n → out j < 2 ^ n)
      → (r : ℕ) → Reach n out (2 ^ (start - 1)) r → (y : ℕ) → 1 ≤ y → holds r y ≡ true → dist y < n
  unfolding Within
  reached-near s b ranged r reach y l t =
      let around = near_reach s b ranged in (near_low y l (reach.least (near n dist) around.contains around.closed y l t)).1

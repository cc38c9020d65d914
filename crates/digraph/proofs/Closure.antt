-- The closure is the set reached, there is one such set, and it does not depend on junctions beyond those of the arcs. Assumes nothing.
use mathlib.Core.Path.{◌≡◌, sym, ap, ◌∙◌}
use mathlib.Core.Bool.{true, ◌&&◌, ◌||◌}
use mathlib.Core.Logic.{◌⊎◌, inl, inr, ⊎_elim}
use Prim.Native.Nat.{ℕ, zero, suc, ◌-◌, ◌^◌, ◌≤◌, ◌<◌}
use native.Mathlib.Omega.{arith}
use lib.Bits.{bit_and}
use borrow.Author.Tests.{le-leb, leb-true}
use Rattle.laws.proofs.Booleans.{and_l, and_r, and_i, or_cases, or_l, or_r}
use Rattle.laws.proofs.Finite.{any_found, any_intro}
use Rattle.laws.proofs.Growth.{count_le, same_or_less}
use Rattle.junctions.proofs.Bounds.{junction_le, within_full_lt}
use Rattle.junctions.proofs.Sets.{and_holds, full-holds, within_full, within_both, gather_lt, gather-holds, sets_ext}
use Rattle.junctions.proofs.Single.{one_self}
use Rattle.laws.specs.Finite.{count_below}
use Rattle.junctions.specs.Sets.{holds, full, Within}
use Rattle.digraph.specs.Reach.{Closed, Reach}
use Rattle.digraph.specs.Closure.{arc_from, widen, ball, closure}

module _ (n : ℕ) (out : ℕ → ℕ) (s : ℕ) where
  pub arc_from_intro : (x y : ℕ) → 1 ≤ x → x ≤ n → holds s x ≡ true → holds (out x) y ≡ true → arc_from n out s y ≡ true
  unfolding arc_from
  arc_from_intro x y l m h a =
      let e : suc (x - 1) ≡ x = omega arith in
      any_intro n (λ k. holds s (suc k) && holds (out (suc k)) y) (x - 1) (omega arith)
      (rw e (and_i (holds s x) (holds (out x) y) h a))

  pub arc_from_found : (y : ℕ) → arc_from n out s y ≡ true → (x : ℕ) × (1 ≤ x) × (x ≤ n) × (holds s x ≡ true) × (holds (out x) y ≡ true)
  unfolding arc_from
  arc_from_found y t =
      let w = any_found n (λ k. holds s (suc k) && holds (out (suc k)) y) t in
      let x = suc w.0 in
      (x, omega arith, omega (arith, w.1), and_l (holds s x) (holds (out x) y) w.2, and_r (holds s x) (holds (out x) y) w.2)

  pub widen_lt : widen n out s < 2 ^ n
  unfolding widen
  widen_lt = gather_lt n (λ y. holds s y || arc_from n out s y)

  pub widen-holds : (y : ℕ) → 1 ≤ y → y ≤ n → holds (widen n out s) y ≡ (holds s y || arc_from n out s y)
  unfolding widen
  widen-holds y l m = gather-holds n (λ y. holds s y || arc_from n out s y) y l m

  pub widen_low : (y : ℕ) → holds (widen n out s) y ≡ true → y ≤ n
  widen_low y t = junction_le n (widen n out s) y widen_lt t

  -- what is in a wider set was there, or an arc leads to it
  pub widen_cases : (y : ℕ) → 1 ≤ y → holds (widen n out s) y ≡ true → (holds s y ≡ true) ⊎ (arc_from n out s y ≡ true)
  widen_cases y l t = or_cases (holds s y) (arc_from n out s y) (sym (widen-holds y l (widen_low y t)) ∙ t)

  pub widen_keeps : (y : ℕ) → 1 ≤ y → y ≤ n → holds s y ≡ true → holds (widen n out s) y ≡ true
  widen_keeps y l m t = widen-holds y l m ∙ or_l (holds s y) (arc_from n out s y) t

  pub widen-arc : (x y : ℕ) → 1 ≤ x → x ≤ n → 1 ≤ y → y ≤ n → holds s x ≡ true → holds (out x) y ≡ true → holds (widen n out s) y ≡ true
  widen-arc x y l m l2 m2 t a = widen-holds y l2 m2 ∙ or_r (holds s y) (arc_from n out s y) (arc_from_intro x y l m t a)

  -- widening adds a junction, or nothing
  pub widen_same_or_more : s < 2 ^ n
      → (widen n out s ≡ s) ⊎ (count_below n (λ k. holds s (suc k)) < count_below n (λ k. holds (widen n out s) (suc k)))
  widen_same_or_more h =
      ⊎_elim
      (λ (same : (k : ℕ) → k < n → holds (widen n out s) (suc k) ≡ holds s (suc k)).
      inl (sets_ext n (widen n out s) s widen_lt h (λ j l m. let e : suc (j - 1) ≡ j = omega arith in rw e at (same (j - 1) (omega arith)))))
      (λ (more : count_below n (λ k. holds s (suc k)) < count_below n (λ k. holds (widen n out s) (suc k))). inr more)
      (same_or_less n (λ k. holds s (suc k)) (λ k. holds (widen n out s) (suc k)) (λ k l t. widen_keeps (suc k) (omega arith) (omega arith) t))

module _ (n : ℕ) (out : ℕ → ℕ) (start : ℕ) (few : start < 2 ^ n) where
  pub ball_lt : (k : ℕ) → ball n out start k < 2 ^ n
  unfolding ball
  ball_lt zero = few
  ball_lt (suc k) = widen_lt n out (ball n out start k)

  pub ball_step : (k y : ℕ) → 1 ≤ y → holds (ball n out start k) y ≡ true → holds (ball n out start (suc k)) y ≡ true
  unfolding ball
  ball_step k y l t = widen_keeps n out (ball n out start k) y l (junction_le n (ball n out start k) y (ball_lt k) t) t

  -- after k arcs nothing more is found, or more than k junctions are
  ball_settles : (k : ℕ) → (ball n out start (suc k) ≡ ball n out start k) ⊎ (k < count_below n (λ i. holds (ball n out start (suc k)) (suc i)))
  unfolding ball
  ball_settles zero =
      ⊎_elim (λ (e : widen n out start ≡ start). inl e)
      (λ (m : count_below n (λ i. holds start (suc i)) < count_below n (λ i. holds (widen n out start) (suc i))). inr (omega (arith, m)))
      (widen_same_or_more n out start few)
  ball_settles (suc k) =
      let b = ball n out start k in
      ⊎_elim (λ (e : widen n out b ≡ b). inl (ap (widen n out) e))
      (λ (m : k < count_below n (λ i. holds (widen n out b) (suc i))).
      ⊎_elim (λ (e : widen n out (widen n out b) ≡ widen n out b). inl e)
      (λ (o : count_below n (λ i. holds (widen n out b) (suc i)) < count_below n (λ i. holds (widen n out (widen n out b)) (suc i))). inr (omega (arith, m, o)))
      (widen_same_or_more n out (widen n out b) (widen_lt n out b)))
      (ball_settles k)

  pub ball-done : ball n out start (suc n) ≡ ball n out start n
  ball-done =
      ⊎_elim (λ (e : ball n out start (suc n) ≡ ball n out start n). e)
      (λ (m : n < count_below n (λ i. holds (ball n out start (suc n)) (suc i))). absurd (omega (arith, m, count_le n (λ i. holds (ball n out start (suc n)) (suc i)))))
      (ball_settles n)

  pub closure_lt : closure n out start < 2 ^ n
  unfolding closure
  closure_lt = ball_lt n

  ball_contains : (k : ℕ) → Within start (ball n out start k)
  unfolding Within ball
  ball_contains zero y l t = t
  ball_contains (suc k) y l t = ball_step k y l (ball_contains k y l t)

  ball_least : (t : ℕ) → Within start t → Closed n out t → (k : ℕ) → Within (ball n out start k) t
  unfolding Within Closed ball
  ball_least t c d zero y l h = c y l h
  ball_least t c d (suc k) y l h =
      ⊎_elim (λ (e : holds (ball n out start k) y ≡ true). ball_least t c d k y l e)
      (λ (e : arc_from n out (ball n out start k) y ≡ true).
      let w = arc_from_found n out (ball n out start k) y e in
      d w.0 w.1 w.2 (ball_least t c d k w.0 w.1 w.3) y l w.4)
      (widen_cases n out (ball n out start k) y l h)

  pub closure-arc : (x y : ℕ) → 1 ≤ x → x ≤ n → 1 ≤ y → y ≤ n → holds (closure n out start) x ≡ true → holds (out x) y ≡ true → holds (closure n out start) y ≡ true
  unfolding closure ball
  closure-arc x y l m l2 m2 t a = ap (λ (s : ℕ). holds s y) (sym ball-done) ∙ widen-arc n out (ball n out start n) x y l m l2 m2 t a

  -- what is reached, where arcs lead to junctions of 1 to n only
  pub closure_reach : ((j : ℕ) → 1 ≤ j → j ≤ n → out j < 2 ^ n) → Reach n out start (closure n out start)
  unfolding closure Closed Within
  closure_reach ranged = record {
    contains = ball_contains n;
    closed = λ j l m t y p a. closure-arc j y l m p (junction_le n (out j) y (ranged j l m) a) t a;
    least = λ t c d. ball_least t c d n;
  }

-- there is one set reached
pub reach_unique : (n : ℕ) (out : ℕ → ℕ) (start r t : ℕ) → r < 2 ^ n → t < 2 ^ n → Reach n out start r → Reach n out start t → r ≡ t
reach_unique n out start r t hr ht a b =
    within_both n r t hr ht (a.least t b.contains b.closed) (b.least r a.contains a.closed)

-- a start is reached
pub start_reached : (n : ℕ) (out : ℕ → ℕ) (start r : ℕ) → 1 ≤ start → Reach n out (2 ^ (start - 1)) r → holds r start ≡ true
unfolding Within
start_reached n out start r low reach = reach.contains start low (one_self start low)

-- what is reached among 64 junctions is reached among the first n, where arcs lead to these only
module _ (n : ℕ) (out : ℕ → ℕ) (start r : ℕ) (small : n ≤ 64) (few : start < 2 ^ n)
    (ranged : (j : ℕ) → 1 ≤ j → j ≤ n → out j < 2 ^ n) (reach : Reach 64 out start r) where
  closed_cut : (t : ℕ) → Closed n out t → Closed 64 out (bit_and t (full n))
  unfolding Closed Within
  closed_cut t d j l m h y p a =
      let both = sym (and_holds t (full n) j) ∙ h in
      let low : j ≤ n = leb-true j n (sym (full-holds n j l) ∙ and_r (holds t j) (holds (full n) j) both) in
      and_holds t (full n) y
      ∙ and_i (holds t y) (holds (full n) y) (d j l low (and_l (holds t j) (holds (full n) j) both) y p a)
      (full-holds n y p ∙ le-leb y n (junction_le n (out j) y (ranged j l low) a))

  within_cut : (t : ℕ) → Within start t → Closed n out t → Within r (bit_and t (full n))
  unfolding Within
  within_cut t c d =
      reach.least (bit_and t (full n))
      (λ y p a. and_holds t (full n) y ∙ and_i (holds t y) (holds (full n) y) (c y p a) (full-holds n y p ∙ le-leb y n (junction_le n start y few a)))
      (closed_cut t d)

  pub reach_narrow_lt : r < 2 ^ n
  unfolding Within Closed
  reach_narrow_lt =
      within_full_lt n r
      (λ y p a. and_r (holds (full n) y) (holds (full n) y)
      (sym (and_holds (full n) (full n) y)
      ∙ within_cut (full n) (within_full n start few)
      (λ j l m h z q b. full-holds n z q ∙ le-leb z n (junction_le n (out j) z (ranged j l m) b)) y p a))

  pub reach_narrow : Reach n out start r
  unfolding Within Closed
  reach_narrow = record {
    contains = reach.contains;
    closed = λ j l m. reach.closed j l (omega arith);
    least = λ t c d y p a. and_l (holds t y) (holds (full n) y) (sym (and_holds t (full n) y) ∙ within_cut t c d y p a);
  }

-- what is reached among the first n junctions is reached among more
pub reach_widen : (n m : ℕ) (out : ℕ → ℕ) (start r : ℕ) → n ≤ m → r < 2 ^ n → Reach n out start r → Reach m out start r
unfolding Closed
reach_widen n m out start r le small g =
    record {
      contains = g.contains;
      closed = λ j l k t. g.closed j l (junction_le n r j small t) t;
      least = λ t c d. g.least t c (λ j l k. d j l (omega arith));
    }

-- The tight neighbourhood of v in a hall whose rows F join: the junctions that are robust from v. Assumes nothing.
use mathlib.Core.Path.{◌≡◌, sym, ap, ap₂, ◌∙◌}
use mathlib.Core.Bool.{Bool, true, false, ◌&&◌, not}
use mathlib.Core.Logic.{⊎_elim}
use Prim.Native.Nat.{ℕ, suc, ◌-◌, ◌^◌, ◌≤◌, ◌<◌}
use native.Mathlib.Omega.{arith}
use lib.Dec.{eqb, leb}
use borrow.Author.Tests.{eqb-true, leb-true, le-leb}
use Rattle.laws.specs.Finite.{any_below, count_below}
use Rattle.laws.proofs.Booleans.{by_bool, clash, and_l, and_r, and_i, or_cases, or_l, not_true_false, bool_ext}
use Rattle.laws.proofs.Finite.{any_intro}
use Rattle.junctions.specs.Sets.{holds, Within}
use Rattle.junctions.proofs.Sets.{sets_ext, within_full}
use Rattle.junctions.proofs.Bounds.{junction_le, within_full_lt}
use Rattle.junctions.proofs.Members.{full_in}
use Rattle.junctions.proofs.Single.{one_lt}
use Rattle.digraph.specs.Reach.{Reach}
use Rattle.digraph.specs.Closure.{closure}
use Rattle.digraph.proofs.Closure.{closure_reach, closure_lt, reach_narrow, reach_widen}
use Rattle.digraph.proofs.Same.{reach_alike}
use Rattle.growth.specs.Robust.{arcs_without, Robust, RobustSet}
use Rattle.growth.proofs.Cut.{cut_holds, cut_lt}
use Rattle.hall.specs.Hall.{Hall, row, count}
use Rattle.dicuts.specs.Shores.{Ranged, once, Joining, around}
use Rattle.dicuts.specs.Arcs.{arc, arcs}
use Rattle.dicuts.proofs.Shores.{around_lt}
use Rattle.joining.proofs.Sealed.{arcs_lt, arcs-arc}
use Rattle.joining.proofs.Joining.{joining_reach}
use Rattle.neighbours.specs.Removal.{without, Spared, Chosen}
use Rattle.neighbours.proofs.Removal.{around-reached, reached-around}
use Rattle.tight.specs.Solid.{forward, backward, solid}
use Rattle.tight.proofs.Dropped.{arc_rows, dropped-solid, dropped_frail}

-- a frail arc is the way back of a chosen row
frail_row :
    (h : Hall) (F : ℕ → Bool) (x y : ℕ) → arc h F x y ≡ true → solid h F x y ≡ false →
    (f : ℕ) × Chosen h F f × ((row h f).to ≡ x) × ((row h f).from ≡ y)
unfolding solid
frail_row h F x y a e =
    let w = arc_rows h F x y a in
    let k = w.0 in
    ⊎_elim
    (λ (p : forward h x y k ≡ true).
    clash
    (or_l (any_below (count h) (forward h x y)) (leb 2 (count_below (count h) (backward h F x y)))
    (any_intro (count h) (forward h x y) k w.1 p)) e)
    (λ (p : backward h F x y k ≡ true).
    let to = eqb (row h (suc k)).to x in
    let from = eqb (row h (suc k)).from y in
    let ends = and_r (F (suc k)) (to && from) p in (
      suc k,
      record { low = omega arith; high = omega (arith, w.1); in_it = and_l (F (suc k)) (to && from) p },
      eqb-true (row h (suc k)).to x (and_l to from ends),
      eqb-true (row h (suc k)).from y (and_r to from ends),
    ))
    (or_cases (forward h x y k) (backward h F x y k) w.2)

module _ (h : Hall) (ranged : Ranged h) (F : ℕ → Bool) (joins : Joining h (once F)) (small : h.n ≤ 64)
    (out solids : ℕ → ℕ) (out_is : (x : ℕ) → 1 ≤ x → x ≤ h.n → out x ≡ arcs h F x)
    (solid_is : (x y : ℕ) → 1 ≤ x → x ≤ h.n → 1 ≤ y → y ≤ h.n → holds (solids x) y ≡ solid h F x y)
    (v : ℕ) (v_low : 1 ≤ v) (v_high : v ≤ h.n) where
  abbrev n : ℕ
  n = h.n

  abbrev start : ℕ
  start = 2 ^ (v - 1)

  out_lt : (x : ℕ) → 1 ≤ x → x ≤ n → out x < 2 ^ n
  out_lt x l m = rw (out_is x l m) (arcs_lt h F x)

  -- over the adjacency all is reached
  all_reached : (s : ℕ) → Reach n out start s → (u : ℕ) → 1 ≤ u → u ≤ n → holds s u ≡ true
  unfolding Within
  all_reached s g u l m =
      let same : Reach n (arcs h F) start s =
      reach_alike n out (arcs h F) (λ j i p q k. ap (λ (w : ℕ). holds w i) (out_is j p q)) start s g in
      (joining_reach h F ranged joins v v_low v_high).least s same.contains same.closed u l (full_in n u l m)

  narrow : (s : ℕ) → Reach 64 out start s → Reach n out start s
  narrow s g = reach_narrow n out start s small (one_lt n v v_low v_high) out_lt g

  -- without an arc that is not there, or not among the junctions
  cut_none : (x y : ℕ) → 1 ≤ y → ((x ≤ n) → holds (out x) y ≡ false) → (j i : ℕ) → 1 ≤ j → j ≤ n → 1 ≤ i → holds (arcs_without out x y j) i ≡ holds (out j) i
  cut_none x y ly none j i l m k =
      let here = eqb j x && eqb i y in
      cut_holds out x y j i ly k
      ∙ bool_ext (holds (out j) i && not here) (holds (out j) i) (and_l (holds (out j) i) (not here))
      (λ t.
      and_i (holds (out j) i) (not here) t
      (ap not
      (not_true_false here
      (λ q.
      let at : j ≡ x = eqb-true j x (and_l (eqb j x) (eqb i y) q) in
      let to : i ≡ y = eqb-true i y (and_r (eqb j x) (eqb i y) q) in
      clash (sym (ap₂ (λ (a b : ℕ). holds (out a) b) at to) ∙ t) (none (omega arith))))))

  cut_narrow : (x y s : ℕ) → Reach 64 (arcs_without out x y) start s → Reach n (arcs_without out x y) start s
  cut_narrow x y s g =
      reach_narrow n (arcs_without out x y) start s small (one_lt n v v_low v_high) (λ j l m. cut_lt out x y j n (out_lt j l m)) g

  -- without the way back of a chosen row whose arc is frail
  cut-dropped : (f : ℕ) → Chosen h F f → solid h F (row h f).to (row h f).from ≡ false →
      (j i : ℕ) → 1 ≤ j → j ≤ n → 1 ≤ i → holds (arcs_without out (row h f).to (row h f).from j) i ≡ holds (arcs h (without F f) j) i
  cut-dropped f c e j i l m k =
      let x = (row h f).to in
      let y = (row h f).from in
      let ly = ranged.from_low f c.low c.high in
      cut_holds out x y j i ly k ∙ ap (λ (w : ℕ). holds w i && not (eqb j x && eqb i y)) (out_is j l m)
      ∙ sym (cut_holds (arcs h F) x y j i ly k) ∙ dropped_frail h F f c ly e j i k

  pub around_robust : (u : ℕ) → 1 ≤ u → u ≤ n → holds (around h (once F) v) u ≡ true → Robust out solids v u
  around_robust u l m e =
      record {
        reached = λ s g. all_reached s (narrow s g) u l m;
        still = λ x y lx mx ly loose s g.
            let among : Reach n (arcs_without out x y) start s = cut_narrow x y s g in
            by_bool (leb x n && holds (out x) y)
            (λ t.
            let hx : x ≤ n = leb-true x n (and_l (leb x n) (holds (out x) y) t) in
            let a : holds (arcs h F x) y ≡ true = sym (ap (λ (w : ℕ). holds w y) (out_is x lx hx)) ∙ and_r (leb x n) (holds (out x) y) t in
            let hy : y ≤ n = junction_le n (arcs h F x) y (arcs_lt h F x) a in
            let frail : solid h F x y ≡ false = sym (solid_is x y lx hx ly hy) ∙ loose in
            let w = frail_row h F x y (arcs-arc h F x y ly a) frail in
            let f = w.0 in
            let own : solid h F (row h f).to (row h f).from ≡ false = ap₂ (solid h F) w.2 w.3 ∙ frail in
            let spared : Spared h F f v s =
            reach_alike n (arcs_without out x y) (arcs h (without F f))
            (λ j i p q k. ap₂ (λ (a b : ℕ). holds (arcs_without out a b j) i) (sym w.2) (sym w.3) ∙ cut-dropped f w.1 own j i p q k) start s among in
            around-reached h ranged F joins v v_low v_high u l m e f w.1.low w.1.high s spared)
            (λ t.
            let none : x ≤ n → holds (out x) y ≡ false =
            λ hx. not_true_false (holds (out x) y) (λ q. clash (and_i (leb x n) (holds (out x) y) (le-leb x n hx) q) t) in
            all_reached s (reach_alike n (arcs_without out x y) out (cut_none x y ly none) start s among) u l m);
      }

  pub robust_around : (u : ℕ) → 1 ≤ u → u ≤ n → Robust out solids v u → holds (around h (once F) v) u ≡ true
  robust_around u l m r =
      reached-around h F v v_low u l m
      (λ f c.
      let x = (row h f).to in
      let y = (row h f).from in
      let few : start < 2 ^ n = one_lt n v v_low v_high in
      let spare = arcs h (without F f) in
      let s = closure n spare start in
      let reach : Reach n spare start s = closure_reach n spare start few (λ j p q. arcs_lt h (without F f) j) in
      let lx = ranged.to_low f c.low c.high in
      let hx = ranged.to_high f c.low c.high in
      let ly = ranged.from_low f c.low c.high in
      let hy = ranged.from_high f c.low c.high in (
        s,
        reach,
        by_bool (solid h F x y)
            (λ e.
            r.reached s
            (reach_widen n 64 out start s small (closure_lt n spare start few)
            (reach_alike n spare out
            (λ j i p q k. sym (dropped-solid h F f c e j i k) ∙ sym (ap (λ (w : ℕ). holds w i) (out_is j p q))) start s reach)))
            (λ e.
            r.still x y lx (omega arith) ly (solid_is x y lx hx ly hy ∙ e) s
            (reach_widen n 64 (arcs_without out x y) start s small (closure_lt n spare start few)
            (reach_alike n spare (arcs_without out x y) (λ j i p q k. sym (cut-dropped f c e j i p q k)) start s reach))),
      ))

  -- all that is robust is among the junctions
  robust_low : (set : ℕ) → RobustSet out solids v set → set < 2 ^ n
  unfolding Within
  robust_low set r =
      let few : start < 2 ^ n = one_lt n v v_low v_high in
      let all = closure n out start in
      let all_lt : all < 2 ^ n = closure_lt n out start few in
      let reach : Reach 64 out start all = reach_widen n 64 out start all small all_lt (closure_reach n out start few out_lt) in
      within_full_lt n set (λ u l t. within_full n all all_lt u l ((r.holds_robust u l t).reached all reach))

  -- the robust set is the tight neighbourhood
  pub robust_set-around : (set : ℕ) → RobustSet out solids v set → set ≡ around h (once F) v
  robust_set-around set r =
      sets_ext n set (around h (once F) v) (robust_low set r) (around_lt h (once F) v)
      (λ u l m.
      bool_ext (holds set u) (holds (around h (once F) v) u) (λ e. robust_around u l m (r.holds_robust u l e))
      (λ e. r.robust_holds u l (omega arith) (around_robust u l m e)))

-- The turns of the start: a row whose tail is reached from its head over arcs of the other rows may be dropped. Assumes nothing.
use mathlib.Core.Bool.{Bool, true, false, ◌&&◌, not}
use mathlib.Core.List.{List, [], ◌∷◌}
use mathlib.Core.Logic.{◌⊎◌, inl, inr, ⊎_elim}
use mathlib.Core.Path.{◌≡◌, refl, sym, ap, subst, ◌∙◌}
use Prim.Native.Nat.{ℕ, zero, suc, ◌-◌, ◌^◌, ◌≤◌, ◌<◌}
use native.Mathlib.Omega.{arith}
use lib.Dec.{eqb}
use lib.ListN.{length, get_or, set, replicate, get_or-replicate}
use lib.Seq.{get_or-set_same, get_or-set_other}
use borrow.Author.Tests.{eqb-true, eqb-false}
use Rattle.laws.specs.Lists.{at}
use Rattle.laws.proofs.Booleans.{by_bool, clash, and_l, and_r, and_i, or_l, or_r, or_cases}
use Rattle.laws.proofs.Finite.{any_found, any_intro}
use Rattle.junctions.specs.Sets.{holds, Within}
use Rattle.junctions.proofs.Bounds.{junction_le}
use Rattle.junctions.proofs.Sets.{gather_lt, gather-holds}
use Rattle.junctions.proofs.Single.{one_lt, one_self}
use Rattle.digraph.specs.Reach.{Closed}
use Rattle.digraph.specs.Closure.{closure}
use Rattle.digraph.proofs.Closure.{closure_lt, closure_reach}
use Rattle.hall.specs.Hall.{Hall, row, count}
use Rattle.dicuts.specs.Arcs.{arc, arcs}
use Rattle.dicuts.specs.Shores.{Ranged, once, Joining}
use Rattle.joining.proofs.Joining.{joining_mono}
use Rattle.neighbours.specs.Removal.{without, Spared}
use Rattle.neighbours.proofs.Removal.{drop-joins}
use Rattle.columns.specs.Columns.{flagged, Ends, Arcs}
use Rattle.columns.specs.Lanes.{LanesOf}
use Rattle.columns.specs.declared.Lanes.{Lanes}
use Rattle.columns.proofs.Places.{lane_tail, lane_head}
use Rattle.adjacency.proofs.Arcs.{arcs_ext}
use Rattle.pruning.specs.Backed.{Backed, ArcsAmong, Forward}
use Rattle.pruning.specs.Start.{Among}

set_false : (fs : List Bool) (k : ℕ) → get_or (set fs k false) k false ≡ false
set_false [] k = refl
set_false (f ∷ fs) zero = refl
set_false (f ∷ fs) (suc k) = set_false fs k

-- flags without one of them are among what they were among
pub among_without : (fs gs : List Bool) (k : ℕ) → Among fs gs → Among (set fs k false) gs
among_without fs gs k inside i e =
    by_bool (eqb i k)
    (λ q. let here : i ≡ k = eqb-true i k q in clash e (rw here (set_false fs k)))
    (λ q. inside i (sym (get_or-set_other fs k i false false (eqb-false i k q)) ∙ e))

-- more rows make more arcs
arc_mono : (h : Hall) (E F : ℕ → Bool) → ((i : ℕ) → 1 ≤ i → i ≤ count h → E i ≡ true → F i ≡ true) → (x y : ℕ) → arc h E x y ≡ true → arc h F x y ≡ true
unfolding arc
arc_mono h E F more x y e =
    let w = any_found (count h) _ e in
    let i : ℕ = w.0 in
    let forward : Bool = eqb (row h (suc i)).from x && eqb (row h (suc i)).to y in
    let back : Bool = eqb (row h (suc i)).to x && eqb (row h (suc i)).from y in
    any_intro (count h) _ i w.1
    (⊎_elim (or_l forward (F (suc i) && back))
    (λ p. or_r forward (F (suc i) && back) (and_i (F (suc i)) back (more (suc i) (omega arith) (omega (arith, w.1)) (and_l (E (suc i)) back p)) (and_r (E (suc i)) back p)))
    (or_cases forward (E (suc i) && back) w.2))

-- the junctions that arcs lead to
module _ (h : Hall) (E : ℕ → Bool) (x y : ℕ) (l : 1 ≤ y) where
  out_arc : holds (arcs h E x) y ≡ true → (y ≤ h.n) × (arc h E x y ≡ true)
  unfolding arcs
  out_arc e =
      let high : y ≤ h.n = junction_le h.n (arcs h E x) y (gather_lt h.n (arc h E x)) e in
      (high, sym (gather-holds h.n (arc h E x) y l high) ∙ e)

  in_arcs : y ≤ h.n → arc h E x y ≡ true → holds (arcs h E x) y ≡ true
  unfolding arcs
  in_arcs u e = gather-holds h.n (arc h E x) y l u ∙ e

-- the flags with one taken out are the rows without it
module _ (fs : List Bool) (k : ℕ) where
  taken_out : (i : ℕ) → 1 ≤ i → flagged (set fs k false) i ≡ without (flagged fs) (suc k) i
  unfolding without
  taken_out i l =
      by_bool (eqb i (suc k))
      (λ e.
      let here : i - 1 ≡ k = omega (arith, eqb-true i (suc k) e) in
      rw (e, here) (set_false fs k ∙ none (get_or fs k false)))
      (λ e.
      let there : i - 1 ≡ k → ⊥ = λ q. eqb-false i (suc k) e (omega arith) in
      rw e (get_or-set_other fs k (i - 1) false false there ∙ same (get_or fs (i - 1) false)))
    where
      none : (b : Bool) → false ≡ (b && false)
      none true = refl
      none false = refl

      same : (b : Bool) → b ≡ (b && true)
      same true = refl
      same false = refl

  module _ (h : Hall) (rg : Ranged h) (ls : Lanes) (lanes : LanesOf h ls) (less : k < ls.count) where
    abbrev from : ℕ
    from = (row h (suc k)).from

    abbrev to : ℕ
    to = (row h (suc k)).to

    abbrev F : ℕ → Bool
    F = flagged fs

    abbrev G : ℕ → Bool
    G = flagged (set fs k false)

    k_high : suc k ≤ count h
    k_high = omega (arith, lanes.rows)

    -- an arc is there without row k, or it is the row's own
    arc-without : (x y : ℕ) → arc h F x y ≡ true → (arc h G x y ≡ true) ⊎ ((x ≡ to) × (y ≡ from))
    unfolding arc without
    arc-without x y e =
        let w = any_found (count h) _ e in
        let i : ℕ = w.0 in
        let forward : Bool = eqb (row h (suc i)).from x && eqb (row h (suc i)).to y in
        let back : Bool = eqb (row h (suc i)).to x && eqb (row h (suc i)).from y in
        ⊎_elim
        (λ (p : forward ≡ true). inl (any_intro (count h) _ i w.1 (or_l forward (G (suc i) && back) p)))
        (λ (p : (F (suc i) && back) ≡ true).
        by_bool (eqb (suc i) (suc k))
        (λ q.
        let same : i ≡ k = omega (arith, eqb-true (suc i) (suc k) q) in
        let ends : back ≡ true = and_r (F (suc i)) back p in
        let a : (row h (suc i)).to ≡ x = eqb-true (row h (suc i)).to x (and_l (eqb (row h (suc i)).to x) (eqb (row h (suc i)).from y) ends) in
        let b : (row h (suc i)).from ≡ y = eqb-true (row h (suc i)).from y (and_r (eqb (row h (suc i)).to x) (eqb (row h (suc i)).from y) ends) in
        inr (sym a ∙ ap (λ (z : ℕ). (row h (suc z)).to) same, sym b ∙ ap (λ (z : ℕ). (row h (suc z)).from) same))
        (λ q.
        inl (any_intro (count h) _ i w.1
        (or_r forward (G (suc i) && back)
        (and_i (G (suc i)) back (taken_out (suc i) (omega arith) ∙ and_i (F (suc i)) (not (eqb (suc i) (suc k))) (and_l (F (suc i)) back p) (ap not q)) (and_r (F (suc i)) back p))))))
        (or_cases forward (F (suc i) && back) w.2)

    -- without the row's own arc, or with it where it is backed, the sets stay under the rows that are left
    pub under_drop :
        (sets : List ℕ) (p r : ℕ) → length sets ≡ 64 → p < 64 → suc p ≡ to → ArcsAmong h F sets →
        ((y : ℕ) → 1 ≤ y → holds r y ≡ true → (holds (get_or sets p 0) y ≡ true) × (y ≡ from → Backed h G (suc k))) → ArcsAmong h G (set sets p r)
    unfolding ArcsAmong Within Backed
    under_drop sets p r size small place under spare x l u y m e =
        by_bool (eqb (x - 1) p)
        (λ q.
        let here : x - 1 ≡ p = eqb-true (x - 1) p q in
        let new : holds r y ≡ true = ap (λ (z : ℕ). holds z y) (sym (ap (λ (z : ℕ). get_or (set sets p r) z 0) here ∙ get_or-set_same sets p r 0 (omega (arith, size)))) ∙ e in
        let old : holds (at sets x) y ≡ true = ap (λ (z : ℕ). holds (get_or sets z 0) y) here ∙ (spare y m new).0 in
        let known = out_arc h F x y m (under x l u y m old) in
        in_arcs h G x y m known.0
        (⊎_elim (λ a. a) (λ own. rw (own.0, own.1) ((spare y m new).1 own.1)) (arc-without x y known.1)))
        (λ q.
        let there : x - 1 ≡ p → ⊥ = eqb-false (x - 1) p q in
        let old : holds (at sets x) y ≡ true = ap (λ (z : ℕ). holds z y) (sym (get_or-set_other sets p (x - 1) r 0 there)) ∙ e in
        let known = out_arc h F x y m (under x l u y m old) in
        in_arcs h G x y m known.0 (⊎_elim (λ a. a) (λ own. absurd (there (omega (arith, place)))) (arc-without x y known.1)))

    -- what the row's head reaches without the row
    spared : ℕ
    spared = closure h.n (arcs h (without F (suc k))) (2 ^ (to - 1))

    to_low : 1 ≤ to
    to_low = rg.to_low (suc k) (omega arith) k_high

    to_high : to ≤ h.n
    to_high = rg.to_high (suc k) (omega arith) k_high

    spared_is : Spared h F (suc k) to spared
    unfolding spared arcs
    spared_is = closure_reach h.n (arcs h (without F (suc k))) (2 ^ (to - 1)) (one_lt h.n to to_low to_high) (λ j l u. gather_lt h.n (arc h (without F (suc k)) j))

    -- it is closed for sets under the rows that are left
    spared_closed : (sets : List ℕ) → ArcsAmong h G sets → Closed 64 (at sets) spared
    unfolding ArcsAmong Closed Within spared
    spared_closed sets under j l u e y m has =
        let high : j ≤ h.n = junction_le h.n spared j (closure_lt h.n (arcs h (without F (suc k))) (2 ^ (to - 1)) (one_lt h.n to to_low to_high)) e in
        spared_is.closed j l high e y m
        (ap (λ (z : ℕ). holds z y) (sym (arcs_ext h G (without F (suc k)) (λ i p q. taken_out i p) j)) ∙ under j l high y m has)

    pub dropped-joins :
        (sets : List ℕ) → ArcsAmong h G sets → ((t : ℕ) → holds t to ≡ true → Closed 64 (at sets) t → holds t from ≡ true) →
        Joining h (once F) → Joining h (once G)
    unfolding without Within
    dropped-joins sets under leads joining =
        let back : holds spared from ≡ true = leads spared (spared_is.contains to to_low (one_self to to_low)) (spared_closed sets under) in
        let rest : Joining h (once (without F (suc k))) =
        by_bool (F (suc k))
        (λ e.
        drop-joins h F (suc k) (record { low = omega arith; high = k_high; in_it = e }) spared to_low
        (rg.from_low (suc k) (omega arith) k_high) spared_is back joining)
        (λ e.
        joining_mono h F (without F (suc k))
        (λ i l u t.
        and_i (F i) (not (eqb i (suc k))) t
        (by_bool (eqb i (suc k)) (λ q. clash t (ap F (eqb-true i (suc k) q) ∙ e)) (λ q. ap not q))) joining) in
        joining_mono h (without F (suc k)) G (λ i l u t. taken_out i l ∙ t) rest

-- one of the rows makes the arc
pub backed_by :
    (fs : List Bool) (k : ℕ) (h : Hall) (ls : Lanes) → LanesOf h ls → k < ls.count → (i : ℕ) → i < ls.count →
    (get_or fs i false && (eqb (get_or ls.heads i 0) (get_or ls.heads k 0) && eqb (get_or ls.tails i 0) (get_or ls.tails k 0))) ≡ true →
    Backed h (flagged fs) (suc k)
unfolding Backed arc
backed_by fs k h ls lanes less i l e =
    let place : suc i - 1 ≡ i = omega arith in
    any_intro (count h) _ i (omega (arith, lanes.rows))
    (or_r (eqb (row h (suc i)).from (row h (suc k)).to && eqb (row h (suc i)).to (row h (suc k)).from) _
    (rw (place, sym (lane_tail h ls lanes i l), sym (lane_head h ls lanes i l), sym (lane_tail h ls lanes k less), sym (lane_head h ls lanes k less)) e))

-- arcs with no row flagged are there whatever rows are flagged
pub forward_all : (ls : Lanes) → Ends ls.n ls.count ls.tails ls.heads → (sets : List ℕ) →
    ((h : Hall) → LanesOf h ls → Arcs h (flagged (replicate 256 false)) sets) → Forward ls sets
unfolding Arcs
forward_all ls ends sets are h F lanes x y l u m e =
    let none : ℕ → Bool = flagged (replicate 256 false) in
    let led : holds (arcs h none x) y ≡ true = ap (λ (z : ℕ). holds z y) (sym (are h lanes x l u)) ∙ e in
    arc_mono h none F (λ i p q t. clash t (get_or-replicate 256 (i - 1) false false (omega (arith, lanes.rows, ends.few)))) x y (out_arc h none x y m led).1

-- rows that join, and sets under them
abbrev pub Thinned : Hall → (fs : List Bool) → (sets : List ℕ) → Type 0
Thinned h fs sets = Joining h (once (flagged fs)) × ArcsAmong h (flagged fs) sets

pub thinned_start : (h : Hall) (fs : List Bool) (sets : List ℕ) → Joining h (once (flagged fs)) → Arcs h (flagged fs) sets → Thinned h fs sets
unfolding Arcs ArcsAmong Within
thinned_start h fs sets joins is = (joins, λ x l u. subst (λ (z : ℕ). Within (at sets x) z) (is x l u) (λ y m e. e))

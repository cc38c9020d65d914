-- Raising a potential on a set: what bounds the raise, that a closed set of the zero graph can be raised by 1, and that P1 and P3 stay. Assumes nothing.
use mathlib.Core.Path.{◌≡◌, refl, sym, ◌∙◌}
use mathlib.Core.Bool.{Bool, true, false}
use Prim.Native.Nat.{ℕ, ◌+◌, ◌≤◌, ◌<◌}
use native.Mathlib.Omega.{arith}
use lib.Dec.{eqb, ltb}
use borrow.Author.Tests.{eqb-true, not-true, not-false}
use Rattle.laws.proofs.Booleans.{tests, by_bool, clash, cond_true, cond_false}
use Rattle.junctions.specs.Sets.{holds, Within}
use Rattle.digraph.specs.Reach.{Closed}
use Rattle.hall.specs.Hall.{Hall, row, count}
use Rattle.dicuts.specs.Shores.{Ranged, Sep, sep, around, once}
use Rattle.dicuts.proofs.Shores.{sep_true, true_sep, around-holds}
use Rattle.potentials.specs.Potential.{Under, Parted}
use Rattle.potentials.specs.ZeroGraph.{every_row, Opens, zero_arcs, UnderOn, raised, Raisable}
use Rattle.potentials.proofs.Arcs.{open_arc, close_arc, swap_arc}

-- a raise adds e on the set and nothing elsewhere
pub raised_in : (z e : ℕ) (p : ℕ → ℕ) (j : ℕ) → holds z j ≡ true → raised z e p j ≡ p j + e
unfolding raised
raised_in z e p j t = cond_true (holds z j) (p j + e) (p j) t

pub raised_out : (z e : ℕ) (p : ℕ → ℕ) (j : ℕ) → holds z j ≡ false → raised z e p j ≡ p j
unfolding raised
raised_out z e p j t = cond_false (holds z j) (p j + e) (p j) t

pub raised_least : (z e : ℕ) (p : ℕ → ℕ) (j : ℕ) → p j ≤ raised z e p j
raised_least z e p j = by_bool (holds z j) (λ t. omega (arith, raised_in z e p j t)) (λ t. omega (arith, raised_out z e p j t))

pub raised_most : (z e : ℕ) (p : ℕ → ℕ) (j : ℕ) → raised z e p j ≤ p j + e
raised_most z e p j = by_bool (holds z j) (λ t. omega (arith, raised_in z e p j t)) (λ t. omega (arith, raised_out z e p j t))

-- where the one is in the set if the other is, the raise keeps their distance
raised_follow : (z e : ℕ) (p : ℕ → ℕ) (i j : ℕ) → (holds z i ≡ true → holds z j ≡ true) → raised z e p i + p j ≤ p i + raised z e p j
raised_follow z e p i j f =
    by_bool (holds z i)
    (λ t. omega (arith, raised_in z e p i t, raised_in z e p j (f t)))
    (λ t. omega (arith, raised_out z e p i t, raised_least z e p j))

-- P1 on all rows is P1 on movable rows where all are
pub under_all : (h : Hall) (c p : ℕ → ℕ) → Under h c p → UnderOn h every_row c p
unfolding Under UnderOn
under_all h c p under i l u t = under i l u

pub all_under : (h : Hall) (c p : ℕ → ℕ) → UnderOn h every_row c p → Under h c p
unfolding Under UnderOn
all_under h c p under i l u = under i l u refl

-- a junction outside the neighbourhood is separated, one inside is not
pub far_sep : (h : Hall) (x : ℕ → ℕ) (v u : ℕ) → 1 ≤ u → u ≤ h.n → holds (around h x v) u ≡ false → Sep h x v u
far_sep h x v u l k e = sep_true h x v u (not-false (sep h x v u) (sym (around-holds h x v u l k) ∙ e))

pub near-sep : (h : Hall) (x : ℕ → ℕ) (v u : ℕ) → 1 ≤ u → u ≤ h.n → holds (around h x v) u ≡ true → Sep h x v u → ⊥
near-sep h x v u l k e s = clash (true_sep h x v u s) (not-true (sep h x v u) (sym (around-holds h x v u l k) ∙ e))

-- the potential does not fall towards a neighbour
pub near_rises :
    (h : Hall) (x p : ℕ → ℕ) → Parted h x p → (v u : ℕ) → 1 ≤ v → v ≤ h.n → 1 ≤ u → u ≤ h.n → holds (around h x v) u ≡ true → p v ≤ p u
unfolding Parted
near_rises h x p parted v u lv kv lu ku e =
    by_bool (ltb (p u) (p v)) (λ t. absurd (near-sep h x v u lu ku e (parted v u lv kv lu ku (omega tests)))) (λ t. omega tests)

module _ (h : Hall) (rg : Ranged h) (m : ℕ → Bool) (c p : ℕ → ℕ) (F : ℕ → Bool) where
  module _ (z e : ℕ) (able : Raisable h m c p F z e) where
    pub raised_under : UnderOn h m c p → UnderOn h m c (raised z e p)
    unfolding UnderOn
    raised_under under i l u t =
        by_bool (holds z (row h i).to)
        (λ to_in.
        by_bool (holds z (row h i).from)
        (λ from_in. omega (arith, under i l u t, raised_in z e p (row h i).to to_in, raised_in z e p (row h i).from from_in))
        (λ from_out.
        omega (arith, able.rows i l u t from_out to_in, raised_in z e p (row h i).to to_in, raised_out z e p (row h i).from from_out)))
        (λ to_out. omega (arith, under i l u t, raised_out z e p (row h i).to to_out, raised_least z e p (row h i).from))

    pub raised_parted : Parted h (once F) p → Parted h (once F) (raised z e p)
    unfolding Parted
    raised_parted parted v u lv kv lu ku less =
        by_bool (holds z v)
        (λ v_in.
        by_bool (holds z u)
        (λ u_in. parted v u lv kv lu ku (omega (arith, raised_in z e p v v_in, raised_in z e p u u_in)))
        (λ u_out.
        by_bool (holds (around h (once F) v) u)
        (λ near. absurd (omega (arith, able.near v u lv kv lu ku v_in u_out near, raised_in z e p v v_in, raised_out z e p u u_out)))
        (far_sep h (once F) v u lu ku)))
        (λ v_out. parted v u lv kv lu ku (omega (arith, raised_out z e p v v_out, raised_least z e p u)))

  module _ (z : ℕ) (closed : Closed h.n (zero_arcs h m c p F) z) where
    -- the arcs of a closed set stay in it
    arc_stays : (x y : ℕ) → 1 ≤ x → x ≤ h.n → 1 ≤ y → holds z x ≡ true → holds (zero_arcs h m c p F x) y ≡ true → holds z y ≡ true
    unfolding Closed Within
    arc_stays x y lx kx ly x_in arc = closed x lx kx x_in y ly arc

    -- each bound of a raise is at least 1
    pub row_bound :
        UnderOn h m c p → (i : ℕ) → 1 ≤ i → i ≤ count h → m i ≡ true → holds z (row h i).from ≡ false → holds z (row h i).to ≡ true →
        p (row h i).to < p (row h i).from + c i
    unfolding UnderOn
    row_bound under i l u t from_out to_in =
        let a : ℕ = (row h i).from in
        let b : ℕ = (row h i).to in
        by_bool (eqb (p b) (p a + c i))
        (λ q.
        let arc : Opens h m c p b a i = record { low = l; high = u; free = t; rise = eqb-true (p b) (p a + c i) q; from_is = refl; to_is = refl } in
        clash
        (arc_stays b a (rg.to_low i l u) (rg.to_high i l u) (rg.from_low i l u) to_in
        (open_arc h m c p F b a i (rg.from_low i l u) (rg.from_high i l u) arc)) from_out)
        (λ q. omega (tests, under i l u t))

    pub near_bound :
        Parted h (once F) p → (v u : ℕ) → 1 ≤ v → v ≤ h.n → 1 ≤ u → u ≤ h.n → holds z v ≡ true → holds z u ≡ false → holds (around h (once F) v) u ≡ true →
        p v < p u
    near_bound parted v u lv kv lu ku v_in u_out near =
        by_bool (eqb (p v) (p u))
        (λ q.
        clash (arc_stays v u lv kv lu v_in (swap_arc h m c p F v u lu ku (record { near = near; level = eqb-true (p v) (p u) q }))) u_out)
        (λ q. omega (tests, near_rises h (once F) p parted v u lv kv lu ku near))

    -- so a closed set can be raised by 1
    pub closed_raisable : UnderOn h m c p → Parted h (once F) p → Raisable h m c p F z 1
    closed_raisable under parted =
        record {
          rows = λ i l u t a b. omega (arith, row_bound under i l u t a b);
          near = λ v u lv kv lu ku a b n. omega (arith, near_bound parted v u lv kv lu ku a b n);
        }

    -- a chosen movable row that starts in a closed set ends in it
    pub chosen_stays :
        (i : ℕ) → 1 ≤ i → i ≤ count h → m i ≡ true → F i ≡ true → holds z (row h i).from ≡ true → holds z (row h i).to ≡ true
    chosen_stays i l u t f from_in =
        arc_stays (row h i).from (row h i).to (rg.from_low i l u) (rg.from_high i l u) (rg.to_low i l u) from_in
        (close_arc h m c p F (row h i).from (row h i).to i (rg.to_low i l u) (rg.to_high i l u)
        (record { low = l; high = u; free = t; chosen = f; from_is = refl; to_is = refl }))

    -- so the rise along it never falls
    pub raised_keeps_rise :
        (e i : ℕ) → 1 ≤ i → i ≤ count h → m i ≡ true → F i ≡ true →
        raised z e p (row h i).from + p (row h i).to ≤ p (row h i).from + raised z e p (row h i).to
    raised_keeps_rise e i l u t f = raised_follow z e p (row h i).from (row h i).to (chosen_stays i l u t f)

-- The most that is allowed, bound by bound: rows that enter a set, and junctions of a set taken one by one. Assumes nothing.
use mathlib.Core.Path.{◌≡◌, refl, sym, ap, ◌∙◌}
use mathlib.Core.Bool.{Bool, true, false, ◌&&◌, not, cond}
use mathlib.Core.List.{List, []}
use mathlib.Core.Logic.{⊎_elim}
use Prim.Native.Nat.{ℕ, suc, ◌+◌, ◌-◌, ◌≤◌, ◌<◌, min}
use native.Mathlib.Numerals.{add-one}
use native.Mathlib.Omega.{arith}
use lib.Dec.{eqb}
use lib.ListN.{get_or}
use borrow.Author.Tests.{eqb-true, not-true}
use Rattle.laws.specs.Lists.{at}
use Rattle.laws.proofs.Lists.{at-suc}
use Rattle.laws.proofs.Booleans.{by_bool, clash, and_l, and_r, and_i}
use Rattle.laws.proofs.Finite.{last_or_below}
use Rattle.junctions.specs.Sets.{holds}
use Rattle.junctions.proofs.Sets.{none_holds}
use Rattle.hall.specs.Hall.{Hall, row}
use Rattle.columns.specs.Columns.{flagged, Columns}
use Rattle.potentials.specs.Potential.{gap}
use Rattle.raise.specs.Rooms.{Most, RowsAllow, OverSet}
use Rattle.junctions.specs.Taking.{Taken}
use Rattle.junctions.proofs.Taking.{taken_in, taken_left}
use Rattle.zerograph.proofs.Rows.{from_here, to_here, free_here, gap_here}

-- one more bound
pub most_both :
    (A B C : ℕ → Type 0) (r s : ℕ) → ((e f : ℕ) → e ≤ f → A f → A e) → ((e : ℕ) → A e → B e → C e) → ((e : ℕ) → C e → A e) → ((e : ℕ) → C e → B e) →
    Most A r → Most (λ e. (e ≤ r) × B e) s → Most C s
most_both A B C r s down join first second before more =
    record {
      fits = join s (down s r more.fits.0 before.fits) more.fits.1;
      most = λ e a. more.most e (before.most e (first e a), second e a);
    }

-- what `narrow` makes of a room
pub most_narrow : (r d : ℕ) (counts : Bool) → Most (λ e. (e ≤ r) × (counts ≡ true → e ≤ d)) (cond counts (min r d) r)
most_narrow r d true = record { fits = (omega arith, λ t. omega arith); most = λ e a. omega (arith, a.0, a.1 refl) }
most_narrow r d false = record { fits = (omega arith, λ t. clash t refl); most = λ e a. a.0 }

-- rows
module _ (h : Hall) (n m : ℕ) (tails heads costs : List ℕ) (movable : List Bool) (potential : List ℕ)
    (cols : Columns h n m tails heads) (z start : ℕ) where
  abbrev pub rows_room : (k e : ℕ) → Type 0
  rows_room k e = (e ≤ start) × RowsAllow h (flagged movable) (at costs) (at potential) z k e

  pub rows_room_none : Most (rows_room 0) start
  unfolding RowsAllow
  rows_room_none = record { fits = (omega arith, λ i l u. absurd (omega arith)); most = λ e a. a.0 }

  pub rows_room_more :
      (k a b r s : ℕ) → k < m → suc a ≡ get_or tails k 0 → suc b ≡ get_or heads k 0 →
      s ≡ cond ((get_or movable k false && not (holds z (suc a))) && holds z (suc b)) (min r (get_or potential a 0 + get_or costs k 0 - get_or potential b 0)) r →
      Most (rows_room k) r → Most (rows_room (k + 1)) s
  unfolding RowsAllow
  rows_room_more k a b r s less tail_is head_is narrowed before =
      rw (add-one k, narrowed)
      (most_both (rows_room k) (λ e. counts ≡ true → e ≤ d) (rows_room (suc k)) r (cond counts (min r d) r)
      (λ e f le x. (omega (arith, x.0), λ i l u t o v. omega (arith, x.1 i l u t o v)))
      (λ e x y. (x.0, λ i l u. ⊎_elim (λ (q : i ≡ suc k). at_row e y i q) (λ (q : i < suc k). x.1 i l (omega arith)) (last_or_below i (suc k) (omega arith))))
      (λ e x. (x.0, λ i l u. x.1 i l (omega arith)))
      (λ e x t. omega (arith, row-gap, x.1 (suc k) (omega arith) (omega arith) (free t) (out t) (into t)))
      before (most_narrow r d counts))
    where
      may : Bool
      may = get_or movable k false && not (holds z (suc a))

      counts : Bool
      counts = (get_or movable k false && not (holds z (suc a))) && holds z (suc b)

      d : ℕ
      d = get_or potential a 0 + get_or costs k 0 - get_or potential b 0

      from_is : (row h (suc k)).from ≡ suc a
      from_is = from_here h n m tails heads costs movable [] potential cols k a b less tail_is head_is

      to_is : (row h (suc k)).to ≡ suc b
      to_is = to_here h n m tails heads costs movable [] potential cols k a b less tail_is head_is

      free_is : flagged movable (suc k) ≡ get_or movable k false
      free_is = free_here h n m tails heads costs movable [] potential cols k a b less tail_is head_is

      row-gap : d ≡ gap h (at costs) (at potential) (suc k)
      row-gap = gap_here h n m tails heads costs movable [] potential cols k a b less tail_is head_is

      free : counts ≡ true → flagged movable (suc k) ≡ true
      free t = free_is ∙ and_l (get_or movable k false) (not (holds z (suc a))) (and_l may (holds z (suc b)) t)

      out : counts ≡ true → holds z (row h (suc k)).from ≡ false
      out t =
          ap (holds z) from_is
          ∙ not-true (holds z (suc a)) (and_r (get_or movable k false) (not (holds z (suc a))) (and_l may (holds z (suc b)) t))

      into : counts ≡ true → holds z (row h (suc k)).to ≡ true
      into t =
          ap (holds z) to_is ∙ and_r may (holds z (suc b)) t

      at_row :
          (e : ℕ) → (counts ≡ true → e ≤ d) → (i : ℕ) → i ≡ suc k → flagged movable i ≡ true → holds z (row h i).from ≡ false → holds z (row h i).to ≡ true →
          e ≤ gap h (at costs) (at potential) i
      at_row e y i q t o v =
          let le : e ≤ d =
          y
          (and_i may (holds z (suc b))
          (and_i (get_or movable k false) (not (holds z (suc a))) (sym free_is ∙ sym (ap (flagged movable) q) ∙ t)
          (ap not (sym (ap (holds z) (ap (λ (j : ℕ). (row h j).from) q ∙ from_is)) ∙ o)))
          (sym (ap (holds z) (ap (λ (j : ℕ). (row h j).to) q ∙ to_is)) ∙ v)) in
          rw q (omega (arith, le, row-gap))

-- what all junctions of a set allow, up to a room: those that are left of it, once the room is narrowed by one that is taken
module _ (Q : (v e : ℕ) → Type 0) where
  abbrev pub members_room : (set room e : ℕ) → Type 0
  members_room set room e = (e ≤ room) × ((v : ℕ) → 1 ≤ v → holds set v ≡ true → Q v e)

  pub members_room_more :
      {left low rest : ℕ} → Taken left low rest → ((v e f : ℕ) → e ≤ f → Q v f → Q v e) → (room next : ℕ) → Most (λ e. (e ≤ room) × Q (suc low) e) next →
      (r : ℕ) → Most (members_room rest next) r → Most (members_room left room) r
  members_room_more {left} {low} {rest} t down room next narrowed r most =
      record {
        fits = (
          omega (arith, most.fits.0, narrowed.fits.0),
          λ v l here.
              by_bool (eqb v (suc low)) (λ q. rw (eqb-true v (suc low) q) (down (suc low) r next most.fits.0 narrowed.fits.1))
              (λ q. most.fits.1 v l (taken_left t v l ∙ rw (here, q) refl)),
        );
        most = λ e a.
            most.most e (
              narrowed.most e (a.0, a.1 (suc low) (omega arith) (taken_in t)),
              λ v l here. a.1 v l (and_l (holds left v) (not (eqb v (suc low))) (sym (taken_left t v l) ∙ here)),
            );
      }

  pub members_room_none : (left room : ℕ) → left ≡ 0 → Most (members_room left room) room
  members_room_none left room none = record { fits = (omega arith, λ v l here. clash here (ap (λ (s : ℕ). holds s v) none ∙ none_holds v)); most = λ e a. a.0 }

-- the room that potentials over low leave
module _ (potential : List ℕ) (low : ℕ) where
  abbrev pub over : (u e : ℕ) → Type 0
  over u e = e ≤ at potential u - low

  pub over_down : (u e f : ℕ) → e ≤ f → over u f → over u e
  over_down u e f le x = omega arith

  pub over_narrow : (j r s : ℕ) → s ≡ min r (get_or potential j 0 - low) → Most (λ e. (e ≤ r) × over (suc j) e) s
  over_narrow j r s narrowed =
      rw (at-suc potential j, narrowed) (record { fits = (omega arith, omega arith); most = λ e x. omega (arith, x.0, x.1) })

-- the room that the junctions of a neighbourhood outside the set leave
module _ (near : List ℕ) (potential : List ℕ) (z : ℕ) where
  abbrev pub beyond : (v e : ℕ) → Type 0
  beyond v e = (u : ℕ) → 1 ≤ u → holds z u ≡ false → holds (at near v) u ≡ true → e ≤ at potential u - at potential v

  pub beyond_down : (v e f : ℕ) → e ≤ f → beyond v f → beyond v e
  beyond_down v e f le x u l o t = omega (arith, x u l o t)

  pub beyond_narrow :
      (j r s w : ℕ) → ((u : ℕ) → holds w u ≡ (holds (get_or near j 0) u && not (holds z u))) → Most (λ e. (e ≤ r) × OverSet (at potential) (get_or potential j 0) w e) s →
      Most (λ e. (e ≤ r) × beyond (suc j) e) s
  unfolding OverSet
  beyond_narrow j r s w is_in most =
      rw (at-suc near j, at-suc potential j)
      (record {
        fits = (most.fits.0, λ u l o t. most.fits.1 u l (is_in u ∙ and_i (holds (get_or near j 0) u) (not (holds z u)) t (ap not o)));
        most = λ e x.
            most.most e (
              x.0,
              λ u l t.
                  let both : (holds (get_or near j 0) u && not (holds z u)) ≡ true = sym (is_in u) ∙ t in
                  x.1 u l (not-true (holds z u) (and_r (holds (get_or near j 0) u) (not (holds z u)) both)) (and_l (holds (get_or near j 0) u) (not (holds z u)) both),
            );
      })

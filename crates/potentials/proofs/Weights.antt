-- How a leg changes how often shores are entered, and that a set of rows joins and is tight where the multiplicities it supports are. Assumes nothing.
use mathlib.Core.Path.{◌≡◌, refl, ap, ◌∙◌}
use mathlib.Core.Bool.{Bool, true, false, ◌&&◌, not, cond}
use Prim.Native.Nat.{ℕ, zero, suc, ◌+◌, ◌≤◌}
use native.Mathlib.Omega.{arith}
use lib.Dec.{eqb}
use borrow.Author.Tests.{eqb-true, eq-eqb, ne_eqb}
use Rattle.laws.specs.Finite.{sum_below, one_if}
use Rattle.laws.proofs.Booleans.{by_bool, clash, cond_true, cond_false}
use Rattle.laws.proofs.Connectives.{one_true, one_false}
use Rattle.laws.proofs.Finite.{sum_le}
use Rattle.laws.proofs.Places.{sum_change, sum_some}
use Rattle.junctions.specs.Sets.{holds}
use Rattle.hall.specs.Hall.{Hall, row, count, enters}
use Rattle.dicuts.specs.Shores.{Shore, cover, once, Joining, Sep}
use Rattle.potentials.specs.Potential.{Parted}
use Rattle.potentials.specs.ZeroGraph.{Opens, Closes}
use Rattle.potentials.specs.Flip.{by_open, by_close, put, weigh, Supports}

-- row i, and any other
pub put_same : {A : Type 0} (i : ℕ) (b : A) (F : ℕ → A) → put i b F i ≡ b
unfolding put
put_same i b F = cond_true (eqb i i) b (F i) (eq-eqb i i refl)

pub put_other : {A : Type 0} (i : ℕ) (b : A) (F : ℕ → A) (k : ℕ) → (k ≡ i → ⊥) → put i b F k ≡ F k
unfolding put
put_other i b F k d = cond_false (eqb k i) b (F k) (ne_eqb k i d)

-- with row i put in, a set has all its rows
pub put_more : (i : ℕ) (F : ℕ → Bool) (k : ℕ) → F k ≡ true → put i true F k ≡ true
unfolding put
put_more i F k t = by_bool (eqb k i) (λ e. cond_true (eqb k i) true (F k) e) (λ e. cond_false (eqb k i) true (F k) e ∙ t)

-- a row enters a shore where the shore holds its end and not its start
enters_parts : (a b : Bool) → (a ≡ true → b ≡ true) → one_if (not a && b) + one_if a ≡ one_if b
unfolding one_if
enters_parts true true f = refl
enters_parts true false f = clash (f refl) refl
enters_parts false true f = refl
enters_parts false false f = refl

pub enters-ends :
    (h : Hall) (s : ℕ) → Shore h s → (i : ℕ) → 1 ≤ i → i ≤ count h →
    one_if (enters s (row h i)) + one_if (holds s (row h i).from) ≡ one_if (holds s (row h i).to)
unfolding enters
enters-ends h s shore i l u = enters_parts (holds s (row h i).from) (holds s (row h i).to) (shore.kept i l u)

cond_add : (b : Bool) (x y a : ℕ) → x + a ≡ y → cond b x 0 + cond b a 0 ≡ cond b y 0
cond_add true x y a e = e
cond_add false x y a e = refl

-- multiplicities that differ by 1 at one row enter a shore as often, but for that row
pub cover_step :
    (h : Hall) (x y : ℕ → ℕ) (i : ℕ) → 1 ≤ i → i ≤ count h → ((k : ℕ) → (k ≡ i → ⊥) → x k ≡ y k) → x i + 1 ≡ y i → (s : ℕ) →
    cover h x s + one_if (enters s (row h i)) ≡ cover h y s
unfolding cover one_if
cover_step h x y zero l u same at s = absurd (omega arith)
cover_step h x y (suc i) l u same at s =
    let b : Bool = enters s (row h (suc i)) in
    let sums : sum_below (count h) (λ k. cond (enters s (row h (suc k))) (x (suc k)) 0) + cond b 1 0 ≡ sum_below (count h) (λ k. cond (enters s (row h (suc k))) (y (suc k)) 0) + 0 =
    sum_change (count h) (λ k. cond (enters s (row h (suc k))) (x (suc k)) 0) (λ k. cond (enters s (row h (suc k))) (y (suc k)) 0) i (cond b 1 0) 0 (omega arith)
    (λ k lk d. ap (λ (z : ℕ). cond (enters s (row h (suc k))) z 0) (same (suc k) (λ q. d (omega arith))))
    (omega (arith, cond_add b (x (suc i)) (y (suc i)) 1 at)) in
    omega arith

-- the rows of a supporting set enter no shore more often, and enter each that is entered
module _ (h : Hall) (G : ℕ → Bool) (x : ℕ → ℕ) (support : Supports G x) where
  once_le : (k : ℕ) → once G k ≤ x k
  unfolding once
  once_le k = by_bool (G k) (λ t. omega (arith, one_true (G k) t, support.chosen k t)) (λ t. omega (arith, one_false (G k) t))

  once_some : (k : ℕ) → 1 ≤ x k → 1 ≤ once G k
  unfolding once
  once_some k l = by_bool (G k) (λ t. omega (arith, one_true (G k) t)) (λ t. absurd (omega (arith, support.others k t)))

  pub support_le : (s : ℕ) → cover h (once G) s ≤ cover h x s
  unfolding cover
  support_le s =
      sum_le (count h) (λ k. cond (enters s (row h (suc k))) (once G (suc k)) 0) (λ k. cond (enters s (row h (suc k))) (x (suc k)) 0)
      (λ k l. by_bool (enters s (row h (suc k))) (λ t. rw t (once_le (suc k))) (λ t. rw t (omega arith)))

  pub support_some : (s : ℕ) → 1 ≤ cover h x s → 1 ≤ cover h (once G) s
  unfolding cover
  support_some s =
      sum_some (count h) (λ k. cond (enters s (row h (suc k))) (x (suc k)) 0) (λ k. cond (enters s (row h (suc k))) (once G (suc k)) 0)
      (λ k l. by_bool (enters s (row h (suc k))) (λ t. rw t (once_some (suc k))) (λ t. rw t (λ w. w)))

  pub support_joining : Joining h x → Joining h (once G)
  unfolding Joining
  support_joining joining s shore = support_some s (joining s shore)

  pub support_sep : (v u : ℕ) → Sep h x v u → Sep h (once G) v u
  support_sep v u e =
      let now : 1 ≤ cover h (once G) e.set = support_some e.set (omega (arith, e.tight.one)) in
      record {
        set = e.set;
        tight = record { shore = e.tight.shore; one = omega (arith, now, support_le e.set, e.tight.one) };
        has = e.has;
        lacks = e.lacks;
      }

  pub support_parted : (p : ℕ → ℕ) → Parted h x p → Parted h (once G) p
  unfolding Parted
  support_parted p parted v u lv kv lu ku less = support_sep v u (parted v u lv kv lu ku less)

-- a set of rows supports itself, and goes on to support what legs leave
pub supports_once : (F : ℕ → Bool) → Supports F (once F)
unfolding once
supports_once F = record { chosen = λ k t. omega (arith, one_true (F k) t); others = λ k t. one_false (F k) t }

module _ (G : ℕ → Bool) (x : ℕ → ℕ) (support : Supports G x) (i w : ℕ) where
  pub supports_open : Supports (put i true G) (weigh (by_open i w) x)
  unfolding put weigh one_if
  supports_open =
      record {
        chosen = λ k.
            by_bool (eqb k i) (λ e t. omega (arith, one_true (eqb k i) e)) (λ e. rw e (λ t. omega (arith, support.chosen k t)));
        others = λ k.
            by_bool (eqb k i) (λ e. rw e (λ t. clash refl t)) (λ e. rw e (λ t. omega (arith, support.others k t)));
      }

  pub supports_close : x i ≡ 1 → Supports (put i false G) (weigh (by_close i w) x)
  unfolding put weigh one_if
  supports_close one =
      record {
        chosen = λ k.
            by_bool (eqb k i) (λ e. rw e (λ t. clash t refl)) (λ e. rw e (λ t. omega (arith, support.chosen k t)));
        others = λ k.
            by_bool (eqb k i) (λ e t. omega (arith, one_true (eqb k i) e, one, ap x (eqb-true k i e))) (λ e. rw e (λ t. omega (arith, support.others k t)));
      }

-- a row that is opened or closed on the way from a to w moves one unit of every shore from a to w
module _ (h : Hall) (m : ℕ → Bool) (c p : ℕ → ℕ) (F : ℕ → Bool) (x : ℕ → ℕ) (a w i : ℕ) (s : ℕ) (shore : Shore h s) where
  pub open_cover : Opens h m c p a w i → cover h (weigh (by_open i w) x) s + one_if (holds s w) ≡ cover h x s + one_if (holds s a)
  unfolding weigh
  open_cover o =
      omega (
        arith,
        cover_step h x (weigh (by_open i w) x) i o.low o.high (λ k d. omega (arith, one_false (eqb k i) (ne_eqb k i d)))
            (omega (arith, one_true (eqb i i) (eq-eqb i i refl))) s,
        enters-ends h s shore i o.low o.high,
        ap (λ (z : ℕ). one_if (holds s z)) o.from_is,
        ap (λ (z : ℕ). one_if (holds s z)) o.to_is,
      )

  pub close_cover : Closes h m F a w i → 1 ≤ x i → cover h (weigh (by_close i w) x) s + one_if (holds s w) ≡ cover h x s + one_if (holds s a)
  unfolding weigh
  close_cover o some =
      omega (
        arith,
        cover_step h (weigh (by_close i w) x) x i o.low o.high (λ k d. omega (arith, one_false (eqb k i) (ne_eqb k i d)))
            (omega (arith, one_true (eqb i i) (eq-eqb i i refl))) s,
        enters-ends h s shore i o.low o.high,
        ap (λ (z : ℕ). one_if (holds s z)) o.from_is,
        ap (λ (z : ℕ). one_if (holds s z)) o.to_is,
      )

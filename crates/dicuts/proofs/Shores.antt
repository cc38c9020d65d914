-- The tests of the definitions say what the records say: directed cuts are shores, `sep` is `Sep`. Assumes nothing.
use mathlib.Core.Path.{◌≡◌, refl, ap}
use mathlib.Core.Bool.{Bool, true, false, ◌&&◌, not}
use mathlib.Core.List.{List, [], ◌∷◌}
use Prim.Native.Nat.{ℕ, zero, suc, ◌-◌, ◌^◌, ◌<◌, ◌≤◌}
use native.Mathlib.Omega.{arith}
use lib.Dec.{eqb, ltb}
use lib.ListN.{length, get_or}
use borrow.Author.Tests.{ltb-true, lt-ltb, eqb-true, eq-eqb, not-true}
use Rattle.laws.proofs.Booleans.{by_bool, clash, and_l, and_r, and_i, or_false_l, or_false_r, not_true_false}
use Rattle.laws.proofs.Finite.{any_found, any_intro}
use Rattle.junctions.specs.Sets.{holds, full}
use Rattle.junctions.proofs.Sets.{full_lt, gather-holds, gather_lt}
use Rattle.hall.specs.Hall.{Hall, Row, row, row_of, count, leaves, any_leaves, is_cut}
use Rattle.dicuts.specs.Shores.{Shore, Sep, cover, sep, around}

pub not_leaves : (s : ℕ) (r : Row) → leaves s r ≡ false → holds s r.from ≡ true → holds s r.to ≡ true
unfolding leaves
not_leaves s r e t = by_bool (holds s r.to) (λ y. y) (λ n. clash (and_i (holds s r.from) (not (holds s r.to)) t (ap not n)) e)

pub leaves_not : (s : ℕ) (r : Row) → (holds s r.from ≡ true → holds s r.to ≡ true) → leaves s r ≡ false
unfolding leaves
leaves_not s r f =
    not_true_false (leaves s r)
    (λ e. clash (f (and_l (holds s r.from) (not (holds s r.to)) e)) (not-true (holds s r.to) (and_r (holds s r.from) (not (holds s r.to)) e)))

none_leaves : (s : ℕ) (d : Row) (rs : List Row) → any_leaves s rs ≡ false → (k : ℕ) → k < length rs → leaves s (get_or rs k d) ≡ false
unfolding any_leaves
none_leaves s d [] e k h = absurd (omega arith)
none_leaves s d (r ∷ rs) e zero h = or_false_l (leaves s r) (any_leaves s rs) e
none_leaves s d (r ∷ rs) e (suc k) h = none_leaves s d rs (or_false_r (leaves s r) (any_leaves s rs) e) k (omega arith)

leaves_none : (s : ℕ) (d : Row) (rs : List Row) → ((k : ℕ) → k < length rs → leaves s (get_or rs k d) ≡ false) → any_leaves s rs ≡ false
unfolding any_leaves
leaves_none s d [] f = refl
leaves_none s d (r ∷ rs) f = rw (f 0 (omega arith)) (leaves_none s d rs (λ k h. f (suc k) (omega arith)))

-- a directed cut is a shore
pub cut_shore : (h : Hall) (s : ℕ) → is_cut h s ≡ true → Shore h s
unfolding is_cut full row count
cut_shore h s e =
    let bounds = and_l (ltb 0 s && ltb s (2 ^ h.n - 1)) (not (any_leaves s h.rows)) e in
    let none = not-true (any_leaves s h.rows) (and_r (ltb 0 s && ltb s (2 ^ h.n - 1)) (not (any_leaves s h.rows)) e) in
    record {
      some = ltb-true 0 s (and_l (ltb 0 s) (ltb s (2 ^ h.n - 1)) bounds);
      proper = ltb-true s (2 ^ h.n - 1) (and_r (ltb 0 s) (ltb s (2 ^ h.n - 1)) bounds);
      kept = λ i l m. not_leaves s (row h i) (none_leaves s (row_of 0 0 0) h.rows none (i - 1) (omega arith));
    }

pub shore_cut : (h : Hall) (s : ℕ) → Shore h s → is_cut h s ≡ true
unfolding is_cut full row count
shore_cut h s g =
    and_i (ltb 0 s && ltb s (2 ^ h.n - 1)) (not (any_leaves s h.rows))
    (and_i (ltb 0 s) (ltb s (2 ^ h.n - 1)) (lt-ltb 0 s g.some) (lt-ltb s (2 ^ h.n - 1) g.proper))
    (ap not (leaves_none s (row_of 0 0 0) h.rows (λ k l.
    let e : suc k - 1 ≡ k = omega arith in
    rw e at (leaves_not s (row h (suc k)) (g.kept (suc k) (omega arith) (omega arith))))))

pub shore_lt : (h : Hall) (s : ℕ) → Shore h s → s < 2 ^ h.n
shore_lt h s g = omega (arith, full_lt h.n, g.proper)

-- the test `sep` says `Sep`
module _ (h : Hall) (x : ℕ → ℕ) (v u : ℕ) where
  passes : ℕ → Bool
  passes s = (is_cut h s && eqb (cover h x s) 1) && (holds s v && not (holds s u))

  pub sep_true : sep h x v u ≡ true → Sep h x v u
  unfolding sep passes
  sep_true e =
      let w = any_found (2 ^ h.n) passes e in
      let s = w.0 in
      let a = and_l (is_cut h s && eqb (cover h x s) 1) (holds s v && not (holds s u)) w.2 in
      let b = and_r (is_cut h s && eqb (cover h x s) 1) (holds s v && not (holds s u)) w.2 in
      record {
        set = s;
        tight = record { shore = cut_shore h s (and_l (is_cut h s) (eqb (cover h x s) 1) a); one = eqb-true (cover h x s) 1 (and_r (is_cut h s) (eqb (cover h x s) 1) a) };
        has = and_l (holds s v) (not (holds s u)) b;
        lacks = not-true (holds s u) (and_r (holds s v) (not (holds s u)) b);
      }

  pub true_sep : Sep h x v u → sep h x v u ≡ true
  unfolding sep passes
  true_sep g =
      let s = g.set in
      any_intro (2 ^ h.n) passes s (shore_lt h s g.tight.shore)
      (and_i (is_cut h s && eqb (cover h x s) 1) (holds s v && not (holds s u))
      (and_i (is_cut h s) (eqb (cover h x s) 1) (shore_cut h s g.tight.shore) (eq-eqb (cover h x s) 1 g.tight.one))
      (and_i (holds s v) (not (holds s u)) g.has (ap not g.lacks)))

-- the neighbourhood holds what is not separated
pub around-holds : (h : Hall) (x : ℕ → ℕ) (v u : ℕ) → 1 ≤ u → u ≤ h.n → holds (around h x v) u ≡ not (sep h x v u)
unfolding around
around-holds h x v u l m = gather-holds h.n (λ w. not (sep h x v w)) u l m

pub around_lt : (h : Hall) (x : ℕ → ℕ) (v : ℕ) → around h x v < 2 ^ h.n
unfolding around
around_lt h x v = gather_lt h.n (λ w. not (sep h x v w))

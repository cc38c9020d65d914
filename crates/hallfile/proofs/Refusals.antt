-- The refusal of one row, and of the rows one after the other. Assumes nothing.
use mathlib.Core.Path.{◌≡◌, ap}
use mathlib.Core.Bool.{Bool, true, false, ◌&&◌, not}
use mathlib.Core.List.{List, ◌∷◌}
use Prim.Native.Nat.{ℕ, suc, ◌<◌, ◌≤◌}
use lib.Dec.{eqb, leb, ltb}
use borrow.Author.Tests.{lt-ltb, le-ltb, leb-true, ltb-true, ltb-false, not-true, not-false}
use Rattle.laws.proofs.Booleans.{by_bool, clash, and_l, and_r}
use Rattle.hall.specs.Hall.{Row}
use Rattle.hall.specs.File.{Refusal, refusal, row_number, rows_refusal}
use Rattle.hallfile.specs.Shape.{row_refusal}

-- both ends are among n junctions
abbrev pub ends_good : (n : ℕ) → Row → Bool
ends_good n r = (leb 1 r.from && leb r.from n) && (leb 1 r.to && leb r.to n)

pub fine_ends : (n : ℕ) (r : Row) → ends_good n r ≡ true → (1 ≤ r.from) × (r.from ≤ n) × (1 ≤ r.to) × (r.to ≤ n)
fine_ends n r t =
    let tail = and_l (leb 1 r.from && leb r.from n) (leb 1 r.to && leb r.to n) t in
    let head = and_r (leb 1 r.from && leb r.from n) (leb 1 r.to && leb r.to n) t in (
      leb-true 1 r.from (and_l (leb 1 r.from) (leb r.from n) tail),
      leb-true r.from n (and_r (leb 1 r.from) (leb r.from n) tail),
      leb-true 1 r.to (and_l (leb 1 r.to) (leb r.to n) head),
      leb-true r.to n (and_r (leb 1 r.to) (leb r.to n) head),
    )

module _ (i n : ℕ) (r : Row) where
  pub refuse_ends : not (ends_good n r) ≡ true → row_refusal i n r ≡ refusal 6 i
  unfolding row_refusal row_number
  refuse_ends t = rw (not-true (ends_good n r) t)

  pub refuse_price : not (ends_good n r) ≡ false → 1000000 < r.price → row_refusal i n r ≡ refusal 8 i
  unfolding row_refusal row_number
  refuse_price t p = rw (not-false (ends_good n r) t, lt-ltb 1000000 r.price p)

  pub refuse_none : not (ends_good n r) ≡ false → r.price ≤ 1000000 → row_refusal i n r ≡ refusal 0 0
  unfolding row_refusal row_number
  refuse_none t p = rw (not-false (ends_good n r) t, le-ltb 1000000 r.price p)

  refused_number : (b : Bool) → eqb (row_number n r) 0 ≡ b → eqb (row_refusal i n r).number 0 ≡ b
  unfolding row_refusal refusal
  refused_number true t = rw t
  refused_number false t = rw t t

  -- a row that is refused ends the pass, any other does not
  pub rows_refuse : (rs : List Row) → eqb (row_refusal i n r).number 0 ≡ false → rows_refusal i n (r ∷ rs) ≡ row_refusal i n r
  unfolding row_refusal rows_refusal
  rows_refuse rs t =
      by_bool (eqb (row_number n r) 0) (λ e. clash (refused_number true e) t) (λ e. rw e)

  pub rows_go_on : (rs : List Row) → eqb (row_refusal i n r).number 0 ≡ true → rows_refusal i n (r ∷ rs) ≡ rows_refusal (suc i) n rs
  unfolding row_refusal rows_refusal
  rows_go_on rs t =
      by_bool (eqb (row_number n r) 0) (λ e. rw e) (λ e. clash t (refused_number false e))

  -- a row that is not refused has its ends among the junctions, and a price within its limit
  pub fine_row : eqb (row_refusal i n r).number 0 ≡ true → (ends_good n r ≡ true) × (r.price ≤ 1000000)
  unfolding refusal
  fine_row t =
      by_bool (ends_good n r)
      (λ e.
      by_bool (ltb 1000000 r.price) (λ g. clash t (ap number_is (refuse_price (ap not e) (ltb-true 1000000 r.price g))))
      (λ g. (e, ltb-false 1000000 r.price g)))
      (λ e. clash t (ap number_is (refuse_ends (ap not e))))
    where
      number_is : Refusal → Bool
      number_is w = eqb w.number 0

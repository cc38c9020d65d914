-- A file is refused with none of 2 to 8 exactly if it is sound; then only 9 and 15 are left to ask. Assumes nothing.
use mathlib.Core.Path.{◌≡◌, refl, ap, ◌∙◌}
use mathlib.Core.Bool.{Bool, true, false, ◌&&◌, not, cond}
use mathlib.Core.List.{List, [], ◌∷◌}
use Prim.Native.Nat.{ℕ, zero, suc, ◌+◌, ◌*◌, ◌-◌, ◌≤◌, ◌<◌}
use native.Mathlib.Omega.{arith}
use lib.Dec.{eqb, leb, ltb}
use lib.ListN.{length, get_or}
use borrow.Author.Tests.{eqb-true, eq-eqb, leb-true, le-leb, ltb-false, le-ltb, not-false}
use Rattle.laws.proofs.Booleans.{by_bool, and_l, and_r, and_i, cond_true, cond_false}
use Rattle.hall.specs.Hall.{Row, hall, row, row_of, count}
use Rattle.hall.specs.File.{field, blocks, pairs_good, hall_in, Refusal, refusal, or_else, row_number, rows_refusal, connected, openable, hall_refusal}
use Rattle.dicuts.specs.Shores.{Ranged}
use Rattle.joining.specs.Sound.{RowEnds, Sound}

-- a refusal's number is none of 2 to 8
abbrev pub Other : ℕ → Type 0
Other k = 2 ≤ k → k ≤ 8 → ⊥

-- the two tests of a row
record Fit (n : ℕ) (r : Row) : Type 0 where
  ends : RowEnds n r
  price : r.price ≤ 1000000

abbrev outside : (n : ℕ) → Row → Bool
outside n r = not ((leb 1 r.from && leb r.from n) && (leb 1 r.to && leb r.to n))

numbered : (a b : Bool) → ℕ
numbered a b = cond a 6 (cond b 8 0)

numbered_zero : (a b : Bool) → Other (numbered a b) → (a ≡ false) × (b ≡ false)
unfolding numbered
numbered_zero true b f = absurd (f (omega arith) (omega arith))
numbered_zero false true f = absurd (f (omega arith) (omega arith))
numbered_zero false false f = (refl, refl)

other_fit : (n : ℕ) (r : Row) → Other (row_number n r) → Fit n r
unfolding row_number numbered
other_fit n r f =
    let w = numbered_zero (outside n r) (ltb 1000000 r.price) f in
    let inside = not-false ((leb 1 r.from && leb r.from n) && (leb 1 r.to && leb r.to n)) w.0 in
    let froms = and_l (leb 1 r.from && leb r.from n) (leb 1 r.to && leb r.to n) inside in
    let tos = and_r (leb 1 r.from && leb r.from n) (leb 1 r.to && leb r.to n) inside in
    record {
      ends = record {
        from_low = leb-true 1 r.from (and_l (leb 1 r.from) (leb r.from n) froms);
        from_high = leb-true r.from n (and_r (leb 1 r.from) (leb r.from n) froms);
        to_low = leb-true 1 r.to (and_l (leb 1 r.to) (leb r.to n) tos);
        to_high = leb-true r.to n (and_r (leb 1 r.to) (leb r.to n) tos);
      };
      price = ltb-false 1000000 r.price w.1;
    }

fit_zero : (n : ℕ) (r : Row) → Fit n r → row_number n r ≡ 0
unfolding row_number
fit_zero n r g =
    let e = g.ends in
    rw (le-leb 1 r.from e.from_low, le-leb r.from n e.from_high, le-leb 1 r.to e.to_low, le-leb r.to n e.to_high, le-ltb 1000000 r.price g.price)

-- row by row
head_fit : (i n : ℕ) (r : Row) (rs : List Row) → Other (rows_refusal i n (r ∷ rs)).number → Fit n r
unfolding rows_refusal refusal
head_fit i n r rs f =
    other_fit n r
    (by_bool (eqb (row_number n r) 0) (λ e a b. omega (arith, eqb-true (row_number n r) 0 e))
    (λ e a b.
    let here : (rows_refusal i n (r ∷ rs)).number ≡ row_number n r = ap (λ (x : Refusal). x.number) (cond_false (eqb (row_number n r) 0) (rows_refusal (suc i) n rs) (refusal (row_number n r) i) e) in
    f (omega (arith, here)) (omega (arith, here))))

fit_tail : (i n : ℕ) (r : Row) (rs : List Row) → Fit n r → rows_refusal i n (r ∷ rs) ≡ rows_refusal (suc i) n rs
unfolding rows_refusal
fit_tail i n r rs g =
    cond_true (eqb (row_number n r) 0) (rows_refusal (suc i) n rs) (refusal (row_number n r) i) (eq-eqb (row_number n r) 0 (fit_zero n r g))

rows_fit : (i n : ℕ) (rs : List Row) → Other (rows_refusal i n rs).number → (k : ℕ) → k < length rs → Fit n (get_or rs k (row_of 0 0 0))
rows_fit i n [] f k l = absurd (omega arith)
rows_fit i n (r ∷ rs) f zero l = head_fit i n r rs f
rows_fit i n (r ∷ rs) f (suc k) l =
    let e : (rows_refusal i n (r ∷ rs)).number ≡ (rows_refusal (suc i) n rs).number = ap (λ (x : Refusal). x.number) (fit_tail i n r rs (head_fit i n r rs f)) in
    rows_fit (suc i) n rs (λ a b. f (omega (arith, e)) (omega (arith, e))) k (omega arith)

fit_rows : (i n : ℕ) (rs : List Row) → ((k : ℕ) → k < length rs → Fit n (get_or rs k (row_of 0 0 0))) → rows_refusal i n rs ≡ refusal 0 0
unfolding rows_refusal
fit_rows i n [] f = refl
fit_rows i n (r ∷ rs) f = fit_tail i n r rs (f 0 (omega arith)) ∙ fit_rows (suc i) n rs (λ k l. f (suc k) (omega arith))

-- the tests of the whole file
staged : (a b c d : Bool) → Refusal → Refusal
staged a b c d r = cond a (refusal 2 0) (cond b (refusal 3 0) (cond c (refusal 4 0) (cond d (refusal 5 0) r)))

staged_passed : (a b c d : Bool) (r : Refusal) → Other (staged a b c d r).number → (a ≡ false) × (b ≡ false) × (c ≡ false) × (d ≡ false)
unfolding staged refusal
staged_passed true b c d r f = absurd (f (omega arith) (omega arith))
staged_passed false true c d r f = absurd (f (omega arith) (omega arith))
staged_passed false false true d r f = absurd (f (omega arith) (omega arith))
staged_passed false false false true r f = absurd (f (omega arith) (omega arith))
staged_passed false false false false r f = (refl, refl, refl, refl)

staged_rest : (a b c d : Bool) (r : Refusal) → a ≡ false → b ≡ false → c ≡ false → d ≡ false → staged a b c d r ≡ r
unfolding staged
staged_rest a b c d r p q s t = rw (p, q, s, t)

-- what is tried last is none of 2 to 8, so neither is what comes before
else_first : (a b : Refusal) → Other (or_else a b).number → Other a.number
unfolding or_else
else_first a b f =
    by_bool (eqb a.number 0) (λ e x y. omega (arith, eqb-true a.number 0 e))
    (λ e x y.
    let here : (or_else a b).number ≡ a.number = ap (λ (x : Refusal). x.number) (cond_false (eqb a.number 0) b a e) in
    f (omega (arith, here)) (omega (arith, here)))

module _ (bs : List ℕ) where
  abbrev length_wrong : Bool
  length_wrong = not (leb 4 (length bs) && leb (length bs) 65536)

  abbrev junctions_wrong : Bool
  junctions_wrong = not (leb 1 (field 0 2 bs) && leb (field 0 2 bs) 64)

  abbrev blocks_right : Bool
  blocks_right = leb (blocks bs) 16 && (leb (4 + 8 * blocks bs) (length bs) && pairs_good (blocks bs) 0 (4 + 8 * blocks bs) bs)

  abbrev rows_many : Bool
  rows_many = ltb 256 (count (hall_in bs))

  abbrev rows_first : Refusal
  rows_first = rows_refusal 1 (field 0 2 bs) (hall_in bs).rows

  -- 9, or 15, or none
  abbrev pub walked : Refusal
  walked = cond (connected (hall_in bs)) (cond (openable (hall_in bs)) (refusal 0 0) (refusal 15 0)) (refusal 9 0)

  in_stages : hall_refusal bs ≡ staged length_wrong junctions_wrong (not blocks_right) rows_many (or_else rows_first walked)
  unfolding hall_refusal staged
  in_stages = refl

  passed : Other (hall_refusal bs).number → (length_wrong ≡ false) × (junctions_wrong ≡ false) × (not blocks_right ≡ false) × (rows_many ≡ false)
  passed f =
      let e = ap (λ (x : Refusal). x.number) in_stages in
      staged_passed length_wrong junctions_wrong (not blocks_right) rows_many (or_else rows_first walked) (λ a b. f (omega (arith, e)) (omega (arith, e)))

  fits : Other (hall_refusal bs).number → (k : ℕ) → k < length (hall_in bs).rows → Fit (field 0 2 bs) (get_or (hall_in bs).rows k (row_of 0 0 0))
  fits f =
      let w = passed f in
      let e = ap (λ (x : Refusal). x.number)
      (in_stages ∙ staged_rest length_wrong junctions_wrong (not blocks_right) rows_many (or_else rows_first walked) w.0 w.1 w.2 w.3) in
      rows_fit 1 (field 0 2 bs) (hall_in bs).rows (else_first rows_first walked (λ a b. f (omega (arith, e)) (omega (arith, e))))

  -- a file that is refused with none of 2 to 8 is sound
  pub other_sound : Other (hall_refusal bs).number → Sound bs
  unfolding hall_in hall row count
  other_sound f =
      let w = passed f in
      let long = not-false (leb 4 (length bs) && leb (length bs) 65536) w.0 in
      let many = not-false (leb 1 (field 0 2 bs) && leb (field 0 2 bs) 64) w.1 in
      let good = not-false blocks_right w.2 in
      let rest = leb (4 + 8 * blocks bs) (length bs) && pairs_good (blocks bs) 0 (4 + 8 * blocks bs) bs in
      let inside = and_r (leb (blocks bs) 16) rest good in
      record {
        long_enough = leb-true 4 (length bs) (and_l (leb 4 (length bs)) (leb (length bs) 65536) long);
        not_too_long = leb-true (length bs) 65536 (and_r (leb 4 (length bs)) (leb (length bs) 65536) long);
        junctions_some = leb-true 1 (field 0 2 bs) (and_l (leb 1 (field 0 2 bs)) (leb (field 0 2 bs) 64) many);
        junctions_few = leb-true (field 0 2 bs) 64 (and_r (leb 1 (field 0 2 bs)) (leb (field 0 2 bs) 64) many);
        blocks_few = leb-true (blocks bs) 16 (and_l (leb (blocks bs) 16) rest good);
        blocks_fit = leb-true (4 + 8 * blocks bs) (length bs) (and_l (leb (4 + 8 * blocks bs) (length bs)) (pairs_good (blocks bs) 0 (4 + 8 * blocks bs) bs) inside);
        blocks_good = and_r (leb (4 + 8 * blocks bs) (length bs)) (pairs_good (blocks bs) 0 (4 + 8 * blocks bs) bs) inside;
        rows_few = ltb-false 256 (count (hall_in bs)) w.3;
        ends = λ i l m. (fits f (i - 1) (omega arith)).ends;
        price = λ i l m. (fits f (i - 1) (omega arith)).price;
      }

  sound_fits : Sound bs → (k : ℕ) → k < length (hall_in bs).rows → Fit (hall_in bs).n (get_or (hall_in bs).rows k (row_of 0 0 0))
  unfolding row count
  sound_fits g k l =
      let e : suc k - 1 ≡ k = omega arith in
      record {
        ends = rw e at (g.ends (suc k) (omega arith) (omega arith));
        price = rw e at (g.price (suc k) (omega arith) (omega arith));
      }

  -- of a sound file only 9 and 15 are left to ask
  pub sound_refusal : Sound bs → hall_refusal bs ≡ walked
  unfolding hall_in hall or_else refusal
  sound_refusal g =
      let rest = leb (4 + 8 * blocks bs) (length bs) && pairs_good (blocks bs) 0 (4 + 8 * blocks bs) bs in
      let rows_none : rows_first ≡ refusal 0 0 = fit_rows 1 (field 0 2 bs) (hall_in bs).rows (sound_fits g) in
      in_stages
      ∙ staged_rest length_wrong junctions_wrong (not blocks_right) rows_many (or_else rows_first walked)
      (ap not (and_i (leb 4 (length bs)) (leb (length bs) 65536) (le-leb 4 (length bs) g.long_enough) (le-leb (length bs) 65536 g.not_too_long)))
      (ap not (and_i (leb 1 (field 0 2 bs)) (leb (field 0 2 bs) 64) (le-leb 1 (field 0 2 bs) g.junctions_some) (le-leb (field 0 2 bs) 64 g.junctions_few)))
      (ap not (and_i (leb (blocks bs) 16) rest (le-leb (blocks bs) 16 g.blocks_few)
      (and_i (leb (4 + 8 * blocks bs) (length bs)) (pairs_good (blocks bs) 0 (4 + 8 * blocks bs) bs) (le-leb (4 + 8 * blocks bs) (length bs) g.blocks_fit) g.blocks_good)))
      (le-ltb 256 (count (hall_in bs)) g.rows_few)
      ∙ ap (λ (x : Refusal). or_else x walked) rows_none

  pub sound_ranged : Sound bs → Ranged (hall_in bs)
  sound_ranged g = record {
    some = g.junctions_some;
    from_low = λ i l m. (g.ends i l m).from_low;
    from_high = λ i l m. (g.ends i l m).from_high;
    to_low = λ i l m. (g.ends i l m).to_low;
    to_high = λ i l m. (g.ends i l m).to_high;
  }

  -- a sound file is refused with 9 where its hall is not connected, then with 15 where it is not openable, and else not refused
  pub sound_unconnected : Sound bs → connected (hall_in bs) ≡ false → hall_refusal bs ≡ refusal 9 0
  sound_unconnected g e = sound_refusal g ∙ rw e

  module _ (g : Sound bs) (joined : connected (hall_in bs) ≡ true) where
    pub sound_unopenable : openable (hall_in bs) ≡ false → hall_refusal bs ≡ refusal 15 0
    sound_unopenable e = sound_refusal g ∙ rw (joined, e)

    pub sound_openable : openable (hall_in bs) ≡ true → hall_refusal bs ≡ refusal 0 0
    sound_openable e = sound_refusal g ∙ rw (joined, e)

-- The fixed order of the refusals, test by test. Assumes nothing.
use mathlib.Core.Path.{◌≡◌, refl, sym, ap, ◌∙◌}
use mathlib.Core.Bool.{cond, Bool, true, false, ◌&&◌}
use mathlib.Core.List.{List}
use Prim.Native.Nat.{ℕ, ◌+◌, ◌*◌, ◌<◌, ◌≤◌}
use native.Mathlib.Omega.{arith}
use lib.Dec.{eqb, leb, ltb}
use lib.ListN.{length}
use borrow.Author.Tests.{lt-ltb, le-ltb, leb-true}
use Rattle.laws.proofs.Booleans.{by_bool, and_l, and_r, cond_true, cond_false}
use Rattle.hall.specs.Hall.{hall, count}
use Rattle.hall.specs.File.{Refusal, refusal, or_else, field, blocks, pairs_good, all_rows, hall_in, rows_refusal, connected, openable, hall_refusal}
use Rattle.dicuts.specs.Shores.{Linked}
use Rattle.joining.specs.Sound.{Sound}
use Rattle.joining.proofs.Sound.{walked, other_sound, sound_refusal, sound_ranged}
use Rattle.joining.proofs.Connected.{connected_linked}
use Rattle.filerows.specs.Places.{Table}
use Rattle.hallfile.specs.Shape.{shape_refusal}

abbrev pub length_good : List ℕ → Bool
length_good bs = leb 4 (length bs) && leb (length bs) 65536

abbrev pub junctions_good : (n : ℕ) → Bool
junctions_good n = leb 1 n && leb n 64

abbrev pub table_good : (blocks : ℕ) → List ℕ → Bool
table_good b bs = leb b 16 && (leb (4 + 8 * b) (length bs) && pairs_good b 0 (4 + 8 * b) bs)

pub junctions_high : (n : ℕ) → junctions_good n ≡ true → n ≤ 64
junctions_high n t = leb-true n 64 (and_r (leb 1 n) (leb n 64) t)

pub table_of : (b : ℕ) (bs : List ℕ) → table_good b bs ≡ true → Table bs b
table_of b bs t =
    let rest = leb (4 + 8 * b) (length bs) && pairs_good b 0 (4 + 8 * b) bs in
    record {
      few = leb-true b 16 (and_l (leb b 16) rest t);
      fits = leb-true (4 + 8 * b) (length bs) (and_l (leb (4 + 8 * b) (length bs)) (pairs_good b 0 (4 + 8 * b) bs) (and_r (leb b 16) rest t));
      good = and_r (leb (4 + 8 * b) (length bs)) (pairs_good b 0 (4 + 8 * b) bs) (and_r (leb b 16) rest t);
    }

module _ (bs : List ℕ) where
  pub refuse_length : length_good bs ≡ false → shape_refusal bs ≡ refusal 2 0
  unfolding shape_refusal
  refuse_length t = rw t

  module _ (n : ℕ) (is_n : n ≡ field 0 2 bs) (long : length_good bs ≡ true) where
    pub refuse_junctions : junctions_good n ≡ false → shape_refusal bs ≡ refusal 3 0
    unfolding shape_refusal
    refuse_junctions t = rw (long, rw is_n at t)

    module _ (b : ℕ) (is_b : b ≡ field 2 2 bs) (some : junctions_good n ≡ true) where
      pub refuse_table : table_good b bs ≡ false → shape_refusal bs ≡ refusal 4 0
      unfolding shape_refusal blocks
      refuse_table t = rw (long, rw is_n at some, rw is_b at t)

      module _ (k : ℕ) (is_k : k ≡ length (all_rows b 0 bs)) (table : table_good b bs ≡ true) where
        pub refuse_count : 256 < k → shape_refusal bs ≡ refusal 5 0
        unfolding shape_refusal blocks hall_in hall count
        refuse_count t = rw (long, rw is_n at some, rw is_b at table, lt-ltb 256 (length (all_rows (field 2 2 bs) 0 bs)) (rw (is_k, is_b) at t))

        pub refuse_rows : k ≤ 256 → shape_refusal bs ≡ rows_refusal 1 n (all_rows (blocks bs) 0 bs)
        unfolding shape_refusal blocks hall_in hall count
        refuse_rows t = rw (long, rw is_n at some, rw is_b at table, le-ltb 256 (length (all_rows (field 2 2 bs) 0 bs)) (rw (is_k, is_b) at t), is_n)

  pub blocks_is : (b : ℕ) → b ≡ field 2 2 bs → blocks bs ≡ b
  unfolding blocks
  blocks_is b e = sym e

  pub hall_is : (n : ℕ) → n ≡ field 0 2 bs → hall n (all_rows (blocks bs) 0 bs) ≡ hall_in bs
  unfolding hall_in
  hall_is n e = rw e

-- 9 and 15 come after all others
pub refuse_last : (bs : List ℕ) → hall_refusal bs ≡ or_else (shape_refusal bs) (walked bs)
unfolding shape_refusal hall_refusal or_else refusal blocks
refuse_last bs =
    by_bool (length_good bs)
    (λ a. by_bool (junctions_good (field 0 2 bs))
    (λ b. by_bool (table_good (field 2 2 bs) bs)
    (λ d. by_bool (ltb 256 (count (hall_in bs))) (λ e. rw (a, b, d, e)) (λ e. rw (a, b, d, e)))
    (λ d. rw (a, b, d)))
    (λ b. rw (a, b)))
    (λ a. rw a)

module _ (bs : List ℕ) where
  pub shape_refused : eqb (shape_refusal bs).number 0 ≡ false → hall_refusal bs ≡ shape_refusal bs
  unfolding or_else
  shape_refused t = refuse_last bs ∙ cond_false (eqb (shape_refusal bs).number 0) _ (shape_refusal bs) t

  pub shape_passed : eqb (shape_refusal bs).number 0 ≡ true → hall_refusal bs ≡ walked bs
  unfolding or_else
  shape_passed t = refuse_last bs ∙ cond_true (eqb (shape_refusal bs).number 0) (walked bs) _ t

  -- neither 9 nor 15 is one of 2 to 8
  pub shape_sound : eqb (shape_refusal bs).number 0 ≡ true → Sound bs
  unfolding refusal
  shape_sound t =
      let number : (hall_refusal bs).number ≡ (walked bs).number = ap (λ (w : Refusal). w.number) (shape_passed t) in
      other_sound bs
      (by_bool (connected (hall_in bs))
      (λ e. by_bool (openable (hall_in bs)) (λ o. let q = rw (e, o) at number in λ l h. omega (arith, q)) (λ o. let q = rw (e, o) at number in λ l h. omega (arith, q)))
      (λ e. let q = rw e at number in λ l h. omega (arith, q)))

  -- of a sound file the walk tells the refusal
  pub sound_walked : Sound bs → (joined opens : Bool) → joined ≡ connected (hall_in bs) → (Linked (hall_in bs) → opens ≡ openable (hall_in bs))
      → cond joined (cond opens (refusal 0 0) (refusal 15 0)) (refusal 9 0) ≡ hall_refusal bs
  sound_walked g joined opens j o =
      by_bool (connected (hall_in bs)) (λ e. rw (sound_refusal bs g, j, e, o (connected_linked (hall_in bs) (sound_ranged bs g) e)) refl)
      (λ e. rw (sound_refusal bs g, j, e) refl)

-- Tight shores that share a junction and both miss one have a tight meet and join; a tight shore does not fall apart, and neither
-- does what it leaves out. Assumes nothing.
use mathlib.Core.Path.{◌≡◌, refl, sym, ap, ◌∙◌}
use mathlib.Core.Bool.{Bool, true, false, ◌&&◌, ◌||◌, not, cond}
use mathlib.Core.Logic.{◌⊎◌, inl, inr, ⊎_elim}
use Prim.Native.Nat.{ℕ, suc, ◌^◌, ◌≤◌, ◌<◌}
use native.Mathlib.Omega.{arith}
use lib.Bits.{bit_and, bit_or, bit_xor, and_lt, or_lt, xor_lt}
use lib.Pow.{pow_pos}
use borrow.Author.Tests.{not-true}
use Rattle.laws.proofs.Booleans.{by_bool, and_l, and_r, and_i, or_cases, or_l, or_r}
use Rattle.laws.proofs.Connectives.{and_false_r, or_false_i}
use Rattle.laws.proofs.Finite.{sum-zero}
use Rattle.junctions.specs.Sets.{holds, full, Within}
use Rattle.junctions.proofs.Sets.{and_holds, or_holds, less_holds, none_holds, full_lt, sets_ext, within_both, some_junction}
use Rattle.junctions.proofs.Bounds.{junction_le}
use Rattle.junctions.proofs.Members.{holds_some, full_in, lacks_proper, within_le}
use Rattle.hall.specs.Hall.{Hall, row, count, enters}
use Rattle.dicuts.specs.Shores.{Ranged, Shore, cover, Joining, Tight}
use Rattle.dicuts.specs.Crossing.{Crossed, Inside}
use Rattle.dicuts.specs.Parts.{Kept, Part}
use Rattle.dicuts.proofs.Shores.{shore_lt}
use Rattle.dicuts.proofs.Exchange.{meet_one, join_one}
use Rattle.dicuts.proofs.Uncross.{inter_shore, union_shore, cover_modular, shores-cross, joining_count}

module _ (h : Hall) (x : ℕ → ℕ) (joins : Joining h x) (s t : ℕ) (s_tight : Tight h x s) (t_tight : Tight h x t) (c : Crossed holds (Inside h) s t) where
  pub tight_inter : Tight h x (bit_and s t)
  unfolding shores-cross
  tight_inter =
      record {
        shore = inter_shore h s t s_tight.shore t_tight.shore c;
        one = meet_one (shores-cross h) (cover h x) (joining_count h x joins) s t s_tight.shore t_tight.shore c s_tight.one t_tight.one;
      }

  pub tight_union : Tight h x (bit_or s t)
  unfolding shores-cross
  tight_union =
      record {
        shore = union_shore h s t s_tight.shore t_tight.shore c;
        one = join_one (shores-cross h) (cover h x) (joining_count h x joins) s t s_tight.shore t_tight.shore c s_tight.one t_tight.one;
      }

-- nothing enters the empty set, nor the whole hall
pub cover_none : (h : Hall) (x : ℕ → ℕ) → cover h x 0 ≡ 0
unfolding cover enters
cover_none h x =
    sum-zero (count h) (λ k. cond (enters 0 (row h (suc k))) (x (suc k)) 0)
    (λ k l. rw (none_holds (row h (suc k)).to, none_holds (row h (suc k)).from))

pub cover-full : (h : Hall) (x : ℕ → ℕ) → Ranged h → cover h x (full h.n) ≡ 0
unfolding cover enters
cover-full h x ranged =
    sum-zero (count h) (λ k. cond (enters (full h.n) (row h (suc k))) (x (suc k)) 0)
    (λ k l. rw (full_in h.n (row h (suc k)).from (ranged.from_low (suc k) (omega arith) (omega arith)) (ranged.from_high (suc k) (omega arith) (omega arith))))

-- a set without a part
abbrev rest : (s a : ℕ) → ℕ
rest s a = bit_xor s (bit_and s a)

rest_lt : (n s a : ℕ) → s < 2 ^ n → a < 2 ^ n → rest s a < 2 ^ n
rest_lt n s a p q = xor_lt n s (bit_and s a) p (and_lt n s a p q)

rest_has : (s a j : ℕ) → holds s j ≡ true → holds a j ≡ false → holds (rest s a) j ≡ true
rest_has s a j p q = less_holds s a j ∙ and_i (holds s j) (not (holds a j)) p (ap not q)

rest_from : (s a j : ℕ) → holds (rest s a) j ≡ true → (holds s j ≡ true) × (holds a j ≡ false)
rest_from s a j e =
    let both : (holds s j && not (holds a j)) ≡ true = sym (less_holds s a j) ∙ e in
    (and_l (holds s j) (not (holds a j)) both, not-true (holds a j) (and_r (holds s j) (not (holds a j)) both))

-- a part that is not all of a set leaves out one of its junctions
part_or_rest :
    (n a s : ℕ) → a < 2 ^ n → s < 2 ^ n → Within a s → (((j : ℕ) → 1 ≤ j → j ≤ n → holds s j ≡ true → holds a j ≡ false → ⊥)) → a ≡ s
unfolding Within
part_or_rest n a s la ls w none =
    within_both n a s la ls w
    (λ j l t. by_bool (holds a j) (λ e. e) (λ e. absurd (none j l (junction_le n s j ls t) t e)))

meet_rest : (a s : Bool) → (a && (s && not a)) ≡ false
meet_rest true true = refl
meet_rest true false = refl
meet_rest false s = refl

join_rest : (a s : Bool) → (a ≡ true → s ≡ true) → (a || (s && not a)) ≡ s
join_rest true s f = sym (f refl)
join_rest false true f = refl
join_rest false false f = refl

-- a tight shore does not fall apart
module _ (h : Hall) (ranged : Ranged h) (x : ℕ → ℕ) (joins : Joining h x) (s : ℕ) (tight : Tight h x s) (a : ℕ) (part : Part h s a) where
  s_lt : s < 2 ^ h.n
  s_lt = shore_lt h s tight.shore

  a_lt : a < 2 ^ h.n
  a_lt = omega (arith, s_lt, within_le a s part.within)

  part_kept : Kept h a
  unfolding Within
  part_kept i l m e =
      let from : holds s (row h i).from ≡ true = part.within (row h i).from (ranged.from_low i l m) e in
      sym (part.alone i l m from (tight.shore.kept i l m from)) ∙ e

  rest_kept : Kept h (rest s a)
  rest_kept i l m e =
      let from = rest_from s a (row h i).from e in
      let to : holds s (row h i).to ≡ true = tight.shore.kept i l m from.0 in
      rest_has s a (row h i).to to (sym (part.alone i l m from.0 to) ∙ from.1)

  part_shore : Shore h a
  part_shore = record { some = part.some; proper = omega (arith, within_le a s part.within, tight.shore.proper); kept = part_kept }

  rest_shore : (j : ℕ) → holds s j ≡ true → holds a j ≡ false → Shore h (rest s a)
  unfolding Within
  rest_shore j p q =
      record {
        some = holds_some (rest s a) j (rest_has s a j p q);
        proper = omega (arith, within_le (rest s a) s (λ i l e. (rest_from s a i e).0), tight.shore.proper);
        kept = rest_kept;
      }

  meet_is : bit_and a (rest s a) ≡ 0
  meet_is =
      sets_ext h.n (bit_and a (rest s a)) 0 (and_lt h.n a (rest s a) a_lt (rest_lt h.n s a s_lt a_lt)) (pow_pos h.n)
      (λ j l m. and_holds a (rest s a) j ∙ ap (λ (b : Bool). holds a j && b) (less_holds s a j) ∙ meet_rest (holds a j) (holds s j) ∙ sym (none_holds j))

  join_is : bit_or a (rest s a) ≡ s
  unfolding Within
  join_is =
      sets_ext h.n (bit_or a (rest s a)) s (or_lt h.n a (rest s a) a_lt (rest_lt h.n s a s_lt a_lt)) s_lt
      (λ j l m. or_holds a (rest s a) j ∙ ap (λ (b : Bool). holds a j || b) (less_holds s a j) ∙ join_rest (holds a j) (holds s j) (part.within j l))

  pub tight-connected : a ≡ s
  unfolding Joining
  tight-connected =
      part_or_rest h.n a s a_lt s_lt part.within
      (λ j l m p q.
      omega (
        arith,
        cover_modular h x a (rest s a) part_kept rest_kept,
        ap (cover h x) meet_is,
        ap (cover h x) join_is,
        cover_none h x,
        tight.one,
        joins a part_shore,
        joins (rest s a) (rest_shore j p q),
      ))

outer_meet : (s a c : Bool) → ((s || a) && (s || (c && not a))) ≡ s
outer_meet true a c = refl
outer_meet false a c = meet_rest a c

outer_join : (s a c : Bool) → c ≡ not s → ((s || a) || (s || (c && not a))) ≡ true
outer_join true a c e = refl
outer_join false true c e = refl
outer_join false false true e = refl
outer_join false false false e = e

-- what a tight shore leaves out does not fall apart
module _ (h : Hall) (ranged : Ranged h) (x : ℕ → ℕ) (joins : Joining h x) (s : ℕ) (tight : Tight h x s)
    (c : ℕ) (c_lt : c < 2 ^ h.n) (c_is : (j : ℕ) → 1 ≤ j → j ≤ h.n → holds c j ≡ not (holds s j)) (a : ℕ) (part : Part h c a) where
  abbrev beyond : ℕ
  beyond = rest c a

  inner_lt : s < 2 ^ h.n
  inner_lt = shore_lt h s tight.shore

  outer_lt : a < 2 ^ h.n
  outer_lt = omega (arith, c_lt, within_le a c part.within)

  beyond_lt : beyond < 2 ^ h.n
  beyond_lt = rest_lt h.n c a c_lt outer_lt

  -- a row from outside the shore leads into it, or to a junction on the same side of the part
  row_splits :
      (i : ℕ) → 1 ≤ i → i ≤ count h → holds c (row h i).from ≡ true →
      (holds s (row h i).to ≡ true) ⊎ ((holds c (row h i).to ≡ true) × (holds a (row h i).to ≡ holds a (row h i).from))
  row_splits i l m from =
      by_bool (holds s (row h i).to) (λ e. inl e)
      (λ e.
      let to : holds c (row h i).to ≡ true = c_is (row h i).to (ranged.to_low i l m) (ranged.to_high i l m) ∙ ap not e in
      inr (to, sym (part.alone i l m from to)))

  with_part_kept : Kept h (bit_or s a)
  unfolding Within
  with_part_kept i l m e =
      or_holds s a (row h i).to
      ∙ ⊎_elim
      (λ (p : holds s (row h i).from ≡ true). or_l (holds s (row h i).to) (holds a (row h i).to) (tight.shore.kept i l m p))
      (λ (p : holds a (row h i).from ≡ true).
      ⊎_elim
      (λ (q : holds s (row h i).to ≡ true). or_l (holds s (row h i).to) (holds a (row h i).to) q)
      (λ (q : (holds c (row h i).to ≡ true) × (holds a (row h i).to ≡ holds a (row h i).from)).
      or_r (holds s (row h i).to) (holds a (row h i).to) (q.1 ∙ p))
      (row_splits i l m (part.within (row h i).from (ranged.from_low i l m) p)))
      (or_cases (holds s (row h i).from) (holds a (row h i).from) (sym (or_holds s a (row h i).from) ∙ e))

  with_beyond_kept : Kept h (bit_or s beyond)
  with_beyond_kept i l m e =
      or_holds s beyond (row h i).to
      ∙ ⊎_elim
      (λ (p : holds s (row h i).from ≡ true). or_l (holds s (row h i).to) (holds beyond (row h i).to) (tight.shore.kept i l m p))
      (λ (p : holds beyond (row h i).from ≡ true).
      ⊎_elim
      (λ (q : holds s (row h i).to ≡ true). or_l (holds s (row h i).to) (holds beyond (row h i).to) q)
      (λ (q : (holds c (row h i).to ≡ true) × (holds a (row h i).to ≡ holds a (row h i).from)).
      or_r (holds s (row h i).to) (holds beyond (row h i).to) (rest_has c a (row h i).to q.0 (q.1 ∙ (rest_from c a (row h i).from p).1)))
      (row_splits i l m (rest_from c a (row h i).from p).0))
      (or_cases (holds s (row h i).from) (holds beyond (row h i).from) (sym (or_holds s beyond (row h i).from) ∙ e))

  -- what is outside the shore
  outside : (j : ℕ) → 1 ≤ j → j ≤ h.n → holds c j ≡ true → holds s j ≡ false
  outside j l m e = not-true (holds s j) (sym (c_is j l m) ∙ e)

  with_part_shore : (j : ℕ) → 1 ≤ j → j ≤ h.n → holds c j ≡ true → holds a j ≡ false → Shore h (bit_or s a)
  with_part_shore j l m p q =
      let w = some_junction h.n a part.some outer_lt in
      record {
        some = holds_some (bit_or s a) w.0 (or_holds s a w.0 ∙ or_r (holds s w.0) (holds a w.0) w.3);
        proper =
            lacks_proper h.n (bit_or s a) j (or_lt h.n s a inner_lt outer_lt) l m
            (or_holds s a j ∙ or_false_i (holds s j) (holds a j) (outside j l m p) q);
        kept = with_part_kept;
      }

  with_beyond_shore : (j : ℕ) → holds c j ≡ true → holds a j ≡ false → Shore h (bit_or s beyond)
  unfolding Within
  with_beyond_shore j p q =
      let w = some_junction h.n a part.some outer_lt in
      record {
        some = holds_some (bit_or s beyond) j (or_holds s beyond j ∙ or_r (holds s j) (holds beyond j) (rest_has c a j p q));
        proper =
            lacks_proper h.n (bit_or s beyond) w.0 (or_lt h.n s beyond inner_lt beyond_lt) w.1 w.2
            (or_holds s beyond w.0
            ∙ or_false_i (holds s w.0) (holds beyond w.0) (outside w.0 w.1 w.2 (part.within w.0 w.1 w.3))
            (less_holds c a w.0 ∙ and_false_r (holds c w.0) (not (holds a w.0)) (ap not w.3)));
        kept = with_beyond_kept;
      }

  outer_meet_is : bit_and (bit_or s a) (bit_or s beyond) ≡ s
  outer_meet_is =
      sets_ext h.n (bit_and (bit_or s a) (bit_or s beyond)) s
      (and_lt h.n (bit_or s a) (bit_or s beyond) (or_lt h.n s a inner_lt outer_lt) (or_lt h.n s beyond inner_lt beyond_lt)) inner_lt
      (λ j l m. rw (and_holds (bit_or s a) (bit_or s beyond) j, or_holds s a j, or_holds s beyond j, less_holds c a j) (outer_meet (holds s j) (holds a j) (holds c j)))

  outer_join_is : bit_or (bit_or s a) (bit_or s beyond) ≡ full h.n
  outer_join_is =
      sets_ext h.n (bit_or (bit_or s a) (bit_or s beyond)) (full h.n)
      (or_lt h.n (bit_or s a) (bit_or s beyond) (or_lt h.n s a inner_lt outer_lt) (or_lt h.n s beyond inner_lt beyond_lt)) (full_lt h.n)
      (λ j l m.
      rw (or_holds (bit_or s a) (bit_or s beyond) j, or_holds s a j, or_holds s beyond j, less_holds c a j, full_in h.n j l m)
      (outer_join (holds s j) (holds a j) (holds c j) (c_is j l m)))

  pub tight-outside-connected : a ≡ c
  unfolding Joining
  tight-outside-connected =
      part_or_rest h.n a c outer_lt c_lt part.within
      (λ j l m p q.
      omega (
        arith,
        cover_modular h x (bit_or s a) (bit_or s beyond) with_part_kept with_beyond_kept,
        ap (cover h x) outer_meet_is,
        ap (cover h x) outer_join_is,
        cover-full h x ranged,
        tight.one,
        joins (bit_or s a) (with_part_shore j l m p q),
        joins (bit_or s beyond) (with_beyond_shore j p q),
      ))

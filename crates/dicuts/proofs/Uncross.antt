-- Uncrossing: two shores that share a junction and both miss one have a meet and a join that are shores, and rows enter the two
-- as often as those. So shores are a crossing family, and a joining multiplicity is a count on it. Assumes nothing.
use mathlib.Core.Path.{◌≡◌, refl, sym, ◌∙◌}
use mathlib.Core.Bool.{Bool, true, false, ◌&&◌, ◌||◌, not, cond}
use mathlib.Core.List.{List}
use Prim.Native.Nat.{ℕ, suc, ◌+◌}
use native.Mathlib.Omega.{arith}
use mathlib.Core.Logic.{⊎_elim}
use lib.Bits.{bit_and, bit_or, and_le_l, or_lt}
use Rattle.laws.specs.Finite.{sum_below}
use Rattle.laws.proofs.Booleans.{clash, and_l, and_r, and_i, or_l, or_r, or_cases}
use Rattle.laws.proofs.Connectives.{or_false_i}
use Rattle.laws.proofs.Finite.{sum_add, sum_ext}
use Rattle.junctions.specs.Sets.{holds}
use Rattle.junctions.proofs.Sets.{and_holds, or_holds}
use Rattle.junctions.proofs.Members.{holds_some, lacks_proper}
use Rattle.hall.specs.Hall.{Hall, row, count, enters}
use Rattle.dicuts.specs.Shores.{Shore, cover, Joining, Sep}
use Rattle.dicuts.specs.Crossing.{Crossed, CrossingFamily, Count, Separated, Swap, taken, added, Swaps, Rising, Inside}
use Rattle.dicuts.specs.Parts.{Kept}
use Rattle.dicuts.proofs.Shores.{shore_lt}
use Rattle.dicuts.proofs.Swapping.{swaps_leave, swaps-map}

module _ (h : Hall) (s t : ℕ) (s_shore : Shore h s) (t_shore : Shore h t) (x : Crossed holds (Inside h) s t) where
  pub inter_shore : Shore h (bit_and s t)
  inter_shore =
      record {
        some = holds_some (bit_and s t) x.shared (and_holds s t x.shared ∙ and_i (holds s x.shared) (holds t x.shared) x.left_has x.right_has);
        proper = omega (arith, and_le_l s t, s_shore.proper);
        kept = λ i l m e.
            let both : (holds s (row h i).from && holds t (row h i).from) ≡ true = sym (and_holds s t (row h i).from) ∙ e in
            and_holds s t (row h i).to
            ∙ and_i (holds s (row h i).to) (holds t (row h i).to)
            (s_shore.kept i l m (and_l (holds s (row h i).from) (holds t (row h i).from) both))
            (t_shore.kept i l m (and_r (holds s (row h i).from) (holds t (row h i).from) both));
      }

  pub union_shore : Shore h (bit_or s t)
  union_shore =
      record {
        some = holds_some (bit_or s t) x.shared (or_holds s t x.shared ∙ or_l (holds s x.shared) (holds t x.shared) x.left_has);
        proper =
            lacks_proper h.n (bit_or s t) x.missed (or_lt h.n s t (shore_lt h s s_shore) (shore_lt h t t_shore)) x.missed_in.0 x.missed_in.1
            (or_holds s t x.missed ∙ or_false_i (holds s x.missed) (holds t x.missed) x.left_lacks x.right_lacks);
        kept = λ i l m e.
            or_holds s t (row h i).to
            ∙ ⊎_elim
            (λ (p : holds s (row h i).from ≡ true). or_l (holds s (row h i).to) (holds t (row h i).to) (s_shore.kept i l m p))
            (λ (p : holds t (row h i).from ≡ true). or_r (holds s (row h i).to) (holds t (row h i).to) (t_shore.kept i l m p))
            (or_cases (holds s (row h i).from) (holds t (row h i).from) (sym (or_holds s t (row h i).from) ∙ e));
      }

-- one row that leaves neither set enters the two as often as their meet and join
row_modular :
    (a b c d : Bool) (k : ℕ) → (a ≡ true → b ≡ true) → (c ≡ true → d ≡ true) →
    cond (not a && b) k 0 + cond (not c && d) k 0 ≡ cond (not (a && c) && (b && d)) k 0 + cond (not (a || c) && (b || d)) k 0
row_modular true false c d k f g = clash (f refl) refl
row_modular true true true true k f g = refl
row_modular true true true false k f g = clash (g refl) refl
row_modular true true false true k f g = omega arith
row_modular true true false false k f g = refl
row_modular false true true true k f g = omega arith
row_modular false true true false k f g = clash (g refl) refl
row_modular false true false true k f g = refl
row_modular false true false false k f g = omega arith
row_modular false false true true k f g = refl
row_modular false false true false k f g = clash (g refl) refl
row_modular false false false true k f g = refl
row_modular false false false false k f g = refl

pub cover_modular :
    (h : Hall) (x : ℕ → ℕ) (s t : ℕ) → Kept h s → Kept h t → cover h x s + cover h x t ≡ cover h x (bit_and s t) + cover h x (bit_or s t)
unfolding cover enters
cover_modular h x s t a b =
    let at : ℕ → ℕ → ℕ = λ z k. cond (enters z (row h (suc k))) (x (suc k)) 0 in
    let rows : sum_below (count h) (λ k. at s k + at t k) ≡ sum_below (count h) (λ k. at (bit_and s t) k + at (bit_or s t) k) =
    sum_ext (count h) (λ k. at s k + at t k) (λ k. at (bit_and s t) k + at (bit_or s t) k)
    (λ k l. rw (and_holds s t (row h (suc k)).from, and_holds s t (row h (suc k)).to, or_holds s t (row h (suc k)).from, or_holds s t (row h (suc k)).to)
    (row_modular (holds s (row h (suc k)).from) (holds s (row h (suc k)).to) (holds t (row h (suc k)).from) (holds t (row h (suc k)).to) (x (suc k))
    (a (suc k) (omega arith) (omega arith)) (b (suc k) (omega arith) (omega arith)))) in
    sym (sum_add (count h) (at s) (at t)) ∙ rows ∙ sum_add (count h) (at (bit_and s t)) (at (bit_or s t))

-- shores are a crossing family
unfoldable pub shores-cross : (h : Hall) → CrossingFamily holds (Inside h) (Shore h)
shores-cross h =
    record {
      meet = bit_and;
      join = bit_or;
      meet_has = and_holds;
      join_has = or_holds;
      meet_in = inter_shore h;
      join_in = union_shore h;
    }

module _ (h : Hall) (x : ℕ → ℕ) where
  pub joining_count : Joining h x → Count (shores-cross h) (cover h x)
  unfolding Joining shores-cross
  joining_count j = record { least = j; modular = λ s t a b c. cover_modular h x s t a.kept b.kept }

  pub count_joining : Count (shores-cross h) (cover h x) → Joining h x
  unfolding Joining
  count_joining c = c.least

  pub sep_separated : (v u : ℕ) → Sep h x v u → Separated holds (Shore h) (cover h x) v u
  sep_separated v u s = record { set = s.set; member = s.tight.shore; one = s.tight.one; has_it = s.has; lacks_it = s.lacks }

  pub separated_sep : (v u : ℕ) → Separated holds (Shore h) (cover h x) v u → Sep h x v u
  separated_sep v u s = record { set = s.set; tight = record { shore = s.member; one = s.one }; has = s.has_it; lacks = s.lacks_it }

-- swaps made one after another turn a joining multiplicity into one that joins, under the same potential
pub swaps_join :
    (h : Hall) (p x y : ℕ → ℕ) (ss : List Swap) → Joining h x → Rising (Inside h) (Sep h x) p → Swaps (Inside h) (Sep h x) p ss →
    ((s : ℕ) → Shore h s → cover h y s + taken ss (holds s) ≡ cover h x s + added ss (holds s)) → Joining h y × Rising (Inside h) (Sep h y) p
unfolding Rising
swaps_join h p x y ss joins rising good change =
    let left =
    swaps_leave (shores-cross h) p ss (cover h x) (cover h y) (joining_count h x joins)
    (λ v u v_in u_in less. sep_separated h x v u (rising v u v_in u_in less))
    (swaps-map (Inside h) p (Sep h x) (Separated holds (Shore h) (cover h x)) (sep_separated h x) (separated_sep h x) ss good) change in
    (count_joining h y left.0, λ v u v_in u_in less. separated_sep h y v u (left.1 v u v_in u_in less))

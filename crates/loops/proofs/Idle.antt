-- A loop enters no shore and leaves none; what a choice reaches, and which shores are tight for it, is the same without it. Assumes nothing.
use mathlib.Core.Path.{◌≡◌, refl}
use mathlib.Core.Bool.{Bool, true, false, ◌&&◌, cond}
use mathlib.Core.List.{List, [], ◌∷◌}
use Prim.Native.Nat.{ℕ, zero, suc, ◌+◌, ◌-◌, ◌≤◌, ◌<◌}
use native.Mathlib.Omega.{arith}
use lib.Dec.{eqb}
use lib.ListN.{length, get_or}
use borrow.Author.Tests.{eqb-true}
use Rattle.laws.proofs.Booleans.{by_bool}
use Rattle.junctions.specs.Sets.{holds, with_junction}
use Rattle.hall.specs.Hall.{Row, Hall, row_of, row, enters, leaves, entering, member, over_rows, spread, reached, first_short, missed, tight, tight_from, tight_around}
use Rattle.dicuts.proofs.Shores.{leaves_not}
use Rattle.loops.specs.Loops.{left_out}
use Rattle.loops.proofs.LeftOut.{left_out-member}

module _ (r : Row) (loop : r.from ≡ r.to) where
  pub loop_enters : (s : ℕ) → enters s r ≡ false
  unfolding enters
  loop_enters s = by_bool (holds s r.to) (λ e. rw (loop, e)) (λ e. rw (loop, e))

  pub loop_leaves : (s : ℕ) → leaves s r ≡ false
  loop_leaves s = leaves_not s r (λ t. rw loop at t)

  -- run backward, it leads nowhere new
  loop_back : (chosen : Bool) (s : ℕ) → cond (chosen && holds s r.to) (with_junction r.from s) s ≡ s
  unfolding with_junction
  loop_back true s = by_bool (holds s r.to) (λ e. rw (loop, e)) (λ e. rw e)
  loop_back false s = refl

module _ (h : Hall) (i : ℕ) (low : 1 ≤ i) (loop : (row h i).from ≡ (row h i).to) (c : List ℕ) where
  entering-without : (s : ℕ) (d : List ℕ) → entering h s d ≡ entering h s (left_out i d)
  unfolding entering left_out
  entering-without s [] = refl
  entering-without s (x ∷ xs) =
      by_bool (eqb x i) (λ e. rw (e, eqb-true x i e, loop_enters (row h i) loop s) (omega (arith, entering-without s xs)))
      (λ e. rw (e, entering-without s xs))

  tight_from-without : (left s j x : ℕ) → tight_from left s h c j x ≡ tight_from left s h (left_out i c) j x
  unfolding tight_from tight
  tight_from-without zero s j x = refl
  tight_from-without (suc k) s j x = rw (entering-without s c) (tight_from-without k (suc s) j _)

  pub tight-without : (j : ℕ) → tight_around h c j ≡ tight_around h (left_out i c) j
  unfolding tight_around
  tight-without j = tight_from-without _ 0 j _

  -- of the rows from row k on, row i is a loop
  abbrev LoopIn : (k : ℕ) → List Row → Type 0
  LoopIn k rs = (m : ℕ) → m < length rs → k + m ≡ i → (get_or rs m (row_of 0 0 0)).from ≡ (get_or rs m (row_of 0 0 0)).to

  -- one pass over them
  over_without : (k : ℕ) (rs : List Row) (s : ℕ) → LoopIn k rs → over_rows k rs c s ≡ over_rows k rs (left_out i c) s
  unfolding over_rows
  over_without k [] s f = refl
  over_without k (r ∷ rs) s f =
      by_bool (eqb k i)
      (λ e.
      let here = loop_back r (f 0 (omega arith) (omega (arith, eqb-true k i e))) in
      rw (here (member k c), here (member k (left_out i c))) (over_without (suc k) rs _ later))
      (λ e. rw (left_out-member i k c, e) (over_without (suc k) rs _ later))
    where
      later : LoopIn (suc k) rs
      later m l q = f (suc m) (omega arith) (omega arith)

  spread-without : (fuel s : ℕ) → spread fuel h c s ≡ spread fuel h (left_out i c) s
  unfolding spread row
  spread-without zero s = refl
  spread-without (suc k) s =
      rw (over_without 1 h.rows s (λ m l q. let e : i - 1 ≡ m = omega arith in rw e at loop)) (spread-without k _)

  reached-without : (j : ℕ) → reached h c j ≡ reached h (left_out i c) j
  unfolding reached
  reached-without j = spread-without h.n _

  short_without : (left j : ℕ) → first_short left j h c ≡ first_short left j h (left_out i c)
  unfolding first_short
  short_without zero j = refl
  short_without (suc k) j = rw (reached-without j, short_without k (suc j))

  pub missed-without : missed h c ≡ missed h (left_out i c)
  unfolding missed
  missed-without = short_without h.n 1

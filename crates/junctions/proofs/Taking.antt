-- A set taken member by member, the lowest first: what is found among those taken and what is left make up what the whole set has. Assumes nothing.
use mathlib.Core.Path.{◌≡◌, refl, sym, ap, ap₂, ◌∙◌}
use mathlib.Core.Bool.{Bool, true, false, ◌&&◌, ◌||◌, not, or-false, and-false}
use Prim.Native.Nat.{ℕ, suc, ◌+◌, ◌≤◌}
use native.Mathlib.Omega.{arith}
use lib.Bits.{bit_or}
use lib.Count.{count_trailing_zeros}
use lib.Dec.{eqb}
use lib.Pow.{pow_mono}
use borrow.Author.Tests.{eqb-true}
use Rattle.laws.proofs.Booleans.{by_bool}
use Rattle.laws.proofs.Growth.{lt_two_pow}
use Rattle.junctions.specs.Sets.{holds}
use Rattle.junctions.specs.Taking.{Taken}
use Rattle.junctions.proofs.Sets.{sets_ext, lowest_is, or_holds, none_holds}
use Rattle.junctions.proofs.Words.{clear_holds}

-- sets that hold the same are the same
pub sets_same : (s t : ℕ) → ((j : ℕ) → 1 ≤ j → holds s j ≡ holds t j) → s ≡ t
sets_same s t same =
    sets_ext (s + t) s t (omega (arith, lt_two_pow s, pow_mono {i = s} {j = s + t} (omega arith))) (omega (arith, lt_two_pow t, pow_mono {i = t} {j = s + t} (omega arith)))
    (λ j l m. same j l)

-- the place that an iterator takes is that of a member, and the others are left
module _ {s low left : ℕ} (t : Taken s low left) where
  low_place : suc low ≡ count_trailing_zeros 64 s + 1
  low_place = omega (arith, t.lowest)

  pub taken_in : holds s (suc low) ≡ true
  taken_in = ap (holds s) low_place ∙ (lowest_is s t.some t.fits).in_it

  pub taken_left : (i : ℕ) → 1 ≤ i → holds left i ≡ (holds s i && not (eqb i (suc low)))
  taken_left i l =
      ap (λ (k : ℕ). holds k i) t.rest ∙ clear_holds s i t.some t.fits l ∙ ap (λ (k : ℕ). holds s i && not (eqb i k)) (sym low_place)

-- one member apart
one_apart : (found left test here : Bool) → (here ≡ true → left ≡ true) → ((found || (test && here)) || ((left && not here) && test)) ≡ (found || (left && test))
one_apart true left test here f = refl
one_apart false left true true f = rw (f refl)
one_apart false left false true f = rw (f refl)
one_apart false true true false f = refl
one_apart false true false false f = refl
one_apart false false true false f = refl
one_apart false false false false f = refl

-- of what is left, with what is found, as of the whole set
pub record Found (test : ℕ → Bool) (set found left : ℕ) : Type 0 where
  pub all : (y : ℕ) → 1 ≤ y → (holds found y || (holds left y && test y)) ≡ (holds set y && test y)

pub found_none : (test : ℕ → Bool) (set : ℕ) → Found test set 0 set
found_none test set = record { all = λ y l. rw (none_holds y) }

pub found_more :
    (test : ℕ → Bool) (set found left here low others : ℕ) → Taken left low others →
    ((i : ℕ) → 1 ≤ i → holds here i ≡ (test (suc low) && eqb i (suc low))) → Found test set found left →
    Found test set (bit_or found here) others
found_more test set found left here low others t is before =
    record {
      all = λ y l.
          ap₂ ◌||◌ (or_holds found here y ∙ ap (λ (b : Bool). holds found y || b) (is y l ∙ same_test y))
          (ap (λ (b : Bool). b && test y) (taken_left t y l))
          ∙ one_apart (holds found y) (holds left y) (test y) (eqb y (suc low)) (λ e. ap (holds left) (eqb-true y (suc low) e) ∙ taken_in t)
          ∙ before.all y l;
    }
  where
    same_test : (y : ℕ) → (test (suc low) && eqb y (suc low)) ≡ (test y && eqb y (suc low))
    same_test y =
        by_bool (eqb y (suc low))
        (λ e. ap (λ (i : ℕ). test i && eqb y (suc low)) (sym (eqb-true y (suc low) e)))
        (λ e. rw e (and-false (test (suc low)) ∙ sym (and-false (test y))))

pub found_all : (test : ℕ → Bool) (set found left : ℕ) → left ≡ 0 → Found test set found left → (y : ℕ) → 1 ≤ y → holds found y ≡ (holds set y && test y)
found_all test set found left none before y l =
    sym (or-false (holds found y)) ∙ ap (λ (b : Bool). holds found y || (b && test y)) (sym (ap (λ (s : ℕ). holds s y) none ∙ none_holds y)) ∙ before.all y l

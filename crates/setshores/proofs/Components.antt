-- The loop over the components of the hall without a class, and the one over the classes of a set. Assumes nothing.
use mathlib.Core.Path.{◌≡◌, refl, sym, ap, subst, ◌∙◌}
use mathlib.Core.List.{List}
use Prim.Native.Nat.{ℕ, ◌^◌, ◌≤◌, ◌<◌}
use lib.Bits.{bit_and, bit_xor}
use lib.Count.{count_trailing_zeros}
use Rattle.junctions.specs.Sets.{full}
use Rattle.digraph.specs.Reach.{Reach}
use Rattle.certificates.specs.Pieces.{Mutual, inside}
use Rattle.certificates.specs.Cuts.{outside}
use Rattle.certificates.proofs.Components.{outside_lt}
use Rattle.shorelist.specs.Listed.{place_of, Listed, Fits, Added, alone}
use Rattle.setshores.specs.Shores.{components_weigh, classes_weigh, Components, Classes}
use Rattle.setshores.proofs.Rest.{outside_word}
use Rattle.setshores.proofs.Taking.{taking_all, taking_none, taking_fits, taking_more, taking_less}

module _ (class weight : ℕ) {n : ℕ} {links : ℕ → ℕ} {count : ℕ} {shores weights : List ℕ} {all : ℕ} (all_is : all ≡ full n) (small : n ≤ 64) where
  pub components_start : Listed count (place_of shores) (place_of weights) → Components n links class weight count shores weights (bit_xor all (bit_and all class)) count shores weights
  components_start listed = taking_all small (outside_lt n class) (outside_word n class all all_is) listed

  module _ {left now_count : ℕ} {now_shores now_weights : List ℕ} (t : Components n links class weight count shores weights left now_count now_shores now_weights) where
    pub components_end : left ≡ 0 → Added count shores weights (components_weigh n links class weight) now_count now_shores now_weights
    unfolding components_weigh
    components_end e = taking_none t e

    module _ {to : ℕ → ℕ} {found : ℕ} (arcs : Mutual n links) (some : 0 < left) (same : (j : ℕ) → 1 ≤ j → j ≤ 64 → to j ≡ inside (bit_xor all (bit_and all class)) links j)
        (reach : Reach 64 to (2 ^ count_trailing_zeros 64 left) found) where
      inside_is : (j : ℕ) → 1 ≤ j → j ≤ 64 → to j ≡ inside (outside n class) links j
      inside_is j l m = same j l m ∙ ap (λ (w : ℕ). inside w links j) (outside_word n class all all_is)

      pub components_fits : Fits count shores weights (components_weigh n links class weight) → Fits now_count now_shores now_weights (alone (bit_xor all (bit_and all found)) weight)
      unfolding components_weigh
      components_fits fits =
          subst (λ (x : ℕ). Fits now_count now_shores now_weights (alone x weight)) (sym (outside_word n found all all_is))
          (taking_fits t arcs small (outside_lt n class) some inside_is reach fits)

      pub components_more : {count₂ : ℕ} {shores₂ weights₂ : List ℕ} → Added now_count now_shores now_weights (alone (bit_xor all (bit_and all found)) weight) count₂ shores₂ weights₂
          → Components n links class weight count shores weights (bit_xor left (bit_and left found)) count₂ shores₂ weights₂
      components_more {count₂} {shores₂} {weights₂} added =
          taking_more t arcs small (outside_lt n class) some inside_is reach
          (subst (λ (x : ℕ). Added now_count now_shores now_weights (alone x weight) count₂ shores₂ weights₂) (outside_word n found all all_is) added)

      pub components_less : bit_xor left (bit_and left found) < left
      components_less = taking_less t arcs small (outside_lt n class) some inside_is reach

module _ (links : ℕ → ℕ) (weight : ℕ) {n : ℕ} {mates : ℕ → ℕ} {set count : ℕ} {shores weights : List ℕ} (small : n ≤ 64) (low : set < 2 ^ n) where
  pub classes_start : Listed count (place_of shores) (place_of weights) → Classes n links mates set weight count shores weights set count shores weights
  classes_start listed = taking_all small low refl listed

  module _ {left now_count : ℕ} {now_shores now_weights : List ℕ} (t : Classes n links mates set weight count shores weights left now_count now_shores now_weights) where
    pub classes_end : left ≡ 0 → Added count shores weights (classes_weigh n links mates set weight) now_count now_shores now_weights
    unfolding classes_weigh
    classes_end e = taking_none t e

    module _ {to : ℕ → ℕ} {found : ℕ} (arcs : Mutual n mates) (some : 0 < left) (same : (j : ℕ) → 1 ≤ j → j ≤ 64 → to j ≡ inside set mates j)
        (reach : Reach 64 to (2 ^ count_trailing_zeros 64 left) found) where
      pub classes_fits : Fits count shores weights (classes_weigh n links mates set weight) → Fits now_count now_shores now_weights (components_weigh n links found weight)
      unfolding classes_weigh
      classes_fits fits = taking_fits t arcs small low some same reach fits

      pub classes_more : {count₂ : ℕ} {shores₂ weights₂ : List ℕ} → Added now_count now_shores now_weights (components_weigh n links found weight) count₂ shores₂ weights₂
          → Classes n links mates set weight count shores weights (bit_xor left (bit_and left found)) count₂ shores₂ weights₂
      classes_more added = taking_more t arcs small low some same reach added

      pub classes_less : bit_xor left (bit_and left found) < left
      classes_less = taking_less t arcs small low some same reach

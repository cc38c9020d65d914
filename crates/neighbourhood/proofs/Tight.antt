-- What the code finds is what `TightSays` asks. Assumes nothing.
use mathlib.Core.Path.{◌≡◌, refl, sym, ap, ◌∙◌}
use mathlib.Core.Bool.{Bool, true, false, ◌||◌}
use mathlib.Core.List.{List}
use mathlib.Core.Option.{none, some}
use Prim.Native.Nat.{ℕ, ◌≤◌, ◌<◌}
use native.Mathlib.Omega.{arith}
use lib.Dec.{eqb, ltb}
use borrow.Author.Tests.{eqb-false, ne_eqb, le-ltb, lt-ltb}
use Rattle.laws.proofs.Booleans.{by_bool}
use Rattle.junctions.specs.declared.Junctions.{Junctions}
use Rattle.hall.specs.Hall.{Hall, count, is_choice, member, missed, is_none, joins, tight_around}
use Rattle.dicuts.specs.Shores.{Ranged, Joining, once, around}
use Rattle.joining.proofs.Joining.{joining_mono}
use Rattle.joining.proofs.Joins.{joins_joining}
use Rattle.neighbours.proofs.Around.{around_agree, tight_around_is}
use Rattle.columns.specs.Columns.{flagged}
use Rattle.hall.specs.File.{hall_in}
use Rattle.answers.specs.declared.Finding.TheVariants.{Misses, Around}
use Rattle.neighbourhood.specs.Tight.{around_or_missed, tight_finding}

module _ (bs c : List ℕ) (j : ℕ) where
  -- the junction is none of 1 to n
  abbrev outside : (n : ℕ) → Bool
  outside n = eqb j 0 || ltb n j

  module _ (n : ℕ) (same : n ≡ (hall_in bs).n) where
    pub found_outside : (1 ≤ j → n < j) → Around (record { 0 = 0 }) ≡ tight_finding (outside (hall_in bs).n) bs c j
    unfolding tight_finding
    found_outside over =
        rw (← same)
        (by_bool (eqb j 0) (λ e. rw e refl) (λ e. rw (e, lt-ltb n j (over (omega (arith, eqb-false j 0 e)))) refl))

    module _ (least : 1 ≤ j) (most : j ≤ n) where
      inside : outside n ≡ false
      inside = rw (ne_eqb j 0 (λ e. omega arith), le-ltb n j most) refl

      pub found_missed : (s : Junctions) → some s.0 ≡ missed (hall_in bs) c → Misses s ≡ tight_finding (outside (hall_in bs).n) bs c j
      unfolding tight_finding around_or_missed
      found_missed s e = rw (← same) (rw (inside, ← e) refl)

      pub found_around : none ≡ missed (hall_in bs) c → (set : ℕ) → set ≡ tight_around (hall_in bs) c j → Around (record { 0 = set }) ≡ tight_finding (outside (hall_in bs).n) bs c j
      unfolding tight_finding around_or_missed
      found_around e set is = rw (← same) (rw (inside, ← e, is) refl)

-- the neighbourhood that the code finds is the one of document 03
pub around_found :
    (h : Hall) → Ranged h → (c : List ℕ) → is_choice h c ≡ true → none ≡ missed h c → (chosen : List Bool) →
    ((i : ℕ) → 1 ≤ i → i ≤ count h → flagged chosen i ≡ member i c) → (v r : ℕ) → (Joining h (once (flagged chosen)) → r ≡ around h (once (flagged chosen)) v) →
    r ≡ tight_around h c v
unfolding joins is_none
around_found h rg c choice met chosen same v r found =
    found (joining_mono h (λ i. member i c) (flagged chosen) (λ i l m t. same i l m ∙ t) (joins_joining h rg c (ap is_none (sym met))))
    ∙ around_agree h (flagged chosen) (λ i. member i c) same v ∙ sym (tight_around_is h c v choice)

-- The test `openable` says that the rows that are not fixed join: no directed cut has fixed rows only. Assumes nothing.
use mathlib.Core.Path.{◌≡◌, refl, sym, ap, ◌∙◌}
use mathlib.Core.Bool.{true, false, not}
use mathlib.Core.Option.{Option, none, some}
use Prim.Native.Nat.{ℕ}
use native.Mathlib.Omega.{arith}
use Rattle.laws.proofs.Booleans.{by_bool, clash, and_i, and_l, and_r}
use borrow.Author.Tests.{not-true}
use Rattle.junctions.specs.Sets.{holds}
use Rattle.hall.specs.Hall.{Hall, row, enters, unfixed, member, missed, is_none, joins}
use Rattle.hall.specs.File.{openable}
use Rattle.dicuts.specs.Shores.{Ranged, Shore, once, unfixed_row, cover, Joining}
use Rattle.dicuts.proofs.Shores.{cut_shore, shore_cut}
use Rattle.dicuts.proofs.Same.{cover_same}
use Rattle.dicuts.proofs.Unfixed.{unfixed-member, unfixed_choice}
use Rattle.joining.specs.Fixed.{FixedCut}
use Rattle.joining.proofs.Joining.{joining_mono, sealed_cover, cover_sealed}
use Rattle.joining.proofs.Joins.{meets_joining, joining_meets, joins_meets, missed_uncovered}

module _ (h : Hall) where
  pub openable_joining : openable h ≡ true → Joining h (once (unfixed_row h))
  unfolding openable
  openable_joining e =
      joining_mono h (λ i. member i (unfixed h)) (unfixed_row h) (λ i l m t. sym (unfixed-member h i l m) ∙ t) (meets_joining h (unfixed h) (unfixed_choice h) e)

  pub joining_openable : Joining h (once (unfixed_row h)) → openable h ≡ true
  unfolding openable
  joining_openable joining =
      joining_meets h (unfixed h) (unfixed_choice h)
      (joining_mono h (unfixed_row h) (λ i. member i (unfixed h)) (λ i l m t. unfixed-member h i l m ∙ t) joining)

  -- a shore that no unfixed row enters is a cut of fixed rows, and no unfixed row enters such a cut
  uncovered_fixed : (s : ℕ) → Shore h s → cover h (once (unfixed_row h)) s ≡ 0 → FixedCut h s
  unfolding enters
  uncovered_fixed s shore unmet =
      let sealed = cover_sealed h (unfixed_row h) s shore unmet in
      record {
        cut = shore_cut h s shore;
        fixed = λ i l m e.
            by_bool (row h i).fixed (λ t. t)
            (λ t.
            clash (sealed.shut i l m (ap not t) (and_r (not (holds s (row h i).from)) (holds s (row h i).to) e))
            (not-true (holds s (row h i).from) (and_l (not (holds s (row h i).from)) (holds s (row h i).to) e)));
      }

  fixed_uncovered : (s : ℕ) → FixedCut h s → cover h (once (unfixed_row h)) s ≡ 0
  unfolding enters
  fixed_uncovered s w =
      sealed_cover h (unfixed_row h) s
      record {
        kept = (cut_shore h s w.cut).kept;
        shut = λ i l m f t.
            by_bool (holds s (row h i).from) (λ e. e)
            (λ e. clash (w.fixed i l m (and_i (not (holds s (row h i).from)) (holds s (row h i).to) (ap not e) t)) (not-true (row h i).fixed f));
      }

  pub fixed_unopenable : (s : ℕ) → FixedCut h s → openable h ≡ false
  unfolding Joining
  fixed_unopenable s w =
      by_bool (openable h) (λ e. absurd (omega (arith, fixed_uncovered s w, openable_joining e s (cut_shore h s w.cut)))) (λ e. e)

  -- a cut of fixed rows is what the unfixed rows miss
  module _ (rg : Ranged h) (shut : openable h ≡ false) where
    missed-fixed : (o : Option ℕ) → missed h (unfixed h) ≡ o → (s : ℕ) × FixedCut h s
    unfolding joins is_none openable
    missed-fixed none e = clash (sym (joins_meets h rg (unfixed h) (unfixed_choice h)) ∙ ap is_none e) shut
    missed-fixed (some s) e =
        let w = missed_uncovered h rg (unfixed h) s e in
        (s, uncovered_fixed s w.0 (sym (cover_same h (λ i. member i (unfixed h)) (unfixed_row h) (unfixed-member h) s) ∙ w.1))

    pub unopenable_fixed : (s : ℕ) × FixedCut h s
    unopenable_fixed = missed-fixed (missed h (unfixed h)) refl

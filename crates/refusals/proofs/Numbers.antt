-- That no kind's number is 0 or 7, and what a result's refusal says of the result. Assumes nothing.
use mathlib.Core.Path.{◌≡◌, refl, sym, ap, ◌∙◌}
use mathlib.Core.Bool.{true, false}
use lib.Dec.{eqb}
use borrow.Author.Tests.{eqb-false}
use Rattle.std.specs.Prelude.{Ok}
use Rattle.hall.specs.File.{Refusal, refusal}
use Rattle.refusals.specs.declared.Kind.{Kind}
use Rattle.refusals.specs.declared.Kind.TheVariants.{ListShort, FileLength, JunctionCount, Blocks, RowCount, RowEnds, RowPrice, Unjoined, Choice, RouteEnd, Site, HallCount, KitStock, FixedCut, LoadWidth, SitePlace, Bridge, FixedRow, LoneRow}
use Rattle.refusals.specs.Kinds.{refusal_of, answered, SevenUnused}

-- every kind has a number over 0, and none has 7
pub kind_number : (k : Kind) → (eqb (refusal_of k).number 0 ≡ false) × (eqb (refusal_of k).number 7 ≡ false)
unfolding refusal_of refusal
kind_number ListShort = (refl, refl)
kind_number FileLength = (refl, refl)
kind_number JunctionCount = (refl, refl)
kind_number Blocks = (refl, refl)
kind_number RowCount = (refl, refl)
kind_number (RowEnds i) = (refl, refl)
kind_number (RowPrice i) = (refl, refl)
kind_number Unjoined = (refl, refl)
kind_number Choice = (refl, refl)
kind_number RouteEnd = (refl, refl)
kind_number Site = (refl, refl)
kind_number HallCount = (refl, refl)
kind_number KitStock = (refl, refl)
kind_number FixedCut = (refl, refl)
kind_number LoadWidth = (refl, refl)
kind_number SitePlace = (refl, refl)
kind_number Bridge = (refl, refl)
kind_number FixedRow = (refl, refl)
kind_number LoneRow = (refl, refl)

pub seven_unused : SevenUnused
unfolding SevenUnused
seven_unused k = eqb-false (refusal_of k).number 7 (kind_number k).1

-- a refusal that some kind is has a number over 0
pub kind_refused : (k : Kind) (w : Refusal) → refusal_of k ≡ w → eqb w.number 0 ≡ false
kind_refused k w e = ap (λ (v : Refusal). eqb v.number 0) (sym e) ∙ (kind_number k).0

-- where a result is a value, its refusal is none
pub answer_fine : {A : Type 0} (a : A) (w : Refusal) → answered {A = A} (Ok a) ≡ w → eqb w.number 0 ≡ true
unfolding answered refusal
answer_fine a w e = ap (λ (v : Refusal). eqb v.number 0) (sym e)

pub answer_none : {A : Type 0} (a : A) (w : Refusal) → answered {A = A} (Ok a) ≡ w → w ≡ refusal 0 0
unfolding answered
answer_none a w e = sym e

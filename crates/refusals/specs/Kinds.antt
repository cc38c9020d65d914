-- Which refusal of documents 01 and 02 each kind is, that none is 7, and what a result says of refusals. Assumes nothing: these are definitions.
use Rattle.std.specs.Prelude.{◌≡◌, ℕ, Result, Ok, Err}
use Rattle.hall.specs.File.{Refusal, refusal}
use Rattle.refusals.specs.declared.Kind.{Kind}
use Rattle.refusals.specs.declared.Kind.TheVariants.{ListShort, FileLength, JunctionCount, Blocks, RowCount, RowEnds, RowPrice, Unjoined, Choice, RouteEnd, Site, HallCount, KitStock, FixedCut, LoadWidth, SitePlace, Bridge, FixedRow, LoneRow}

-- the number of a kind, and the row that it carries, or 0
unfoldable pub refusal_of : Kind → Refusal
refusal_of ListShort = refusal 1 0
refusal_of FileLength = refusal 2 0
refusal_of JunctionCount = refusal 3 0
refusal_of Blocks = refusal 4 0
refusal_of RowCount = refusal 5 0
refusal_of (RowEnds i) = refusal 6 i
refusal_of (RowPrice i) = refusal 8 i
refusal_of Unjoined = refusal 9 0
refusal_of Choice = refusal 10 0
refusal_of RouteEnd = refusal 11 0
refusal_of Site = refusal 12 0
refusal_of HallCount = refusal 13 0
refusal_of KitStock = refusal 14 0
refusal_of FixedCut = refusal 15 0
refusal_of LoadWidth = refusal 16 0
refusal_of SitePlace = refusal 17 0
refusal_of Bridge = refusal 18 0
refusal_of FixedRow = refusal 19 0
refusal_of LoneRow = refusal 20 0

-- the refusal of a result: none for a value
unfoldable pub answered : {A : Type 0} → Result A Kind → Refusal
answered (Ok a) = refusal 0 0
answered (Err k) = refusal_of k

-- a figure of an answer, 0 after a refusal
unfoldable pub figure : {A : Type 0} → (A → ℕ) → Result A Kind → ℕ
figure f (Ok a) = f a
figure f (Err k) = 0

-- 7, which turned back a row from a junction to itself, is no kind's number any more; proofs/Numbers.antt proves it
unfoldable pub SevenUnused : Type 0
SevenUnused = (k : Kind) → (refusal_of k).number ≡ 7 → ⊥

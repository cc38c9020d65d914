-- A hall as columns of 256 places. Assumes nothing: these are definitions.
use Rattle.std.specs.Prelude.{◌≡◌, false, List, [], ◌∷◌, map, ℕ, zero, suc, Result, IfOk}
use Rattle.hall.specs.Hall.{Row, Hall, count}
use Rattle.hall.specs.File.{Refusal}
use Rattle.hallfile.specs.declared.record.HallRecord.{HallRecord}
use Rattle.refusals.specs.declared.Kind.{Kind}
use Rattle.refusals.specs.Kinds.{answered}

-- the values, cut or filled up to `size` places
unfoldable pub padded : {A : Type 0} → (filler : A) → (size : ℕ) → List A → List A
padded d zero xs = []
padded d (suc k) [] = d ∷ padded d k []
padded d (suc k) (x ∷ xs) = x ∷ padded d k xs

-- one column of the rows
unfoldable pub column : {A : Type 0} → (filler : A) → (Row → A) → List Row → List A
column d f rs = padded d 256 (map f rs)

-- THE RECORD OF A HALL: every place of it
pub record RecordOf (h : Hall) (r : HallRecord) : Type 0 where
  pub junctions : r.lanes.n ≡ h.n
  pub rows : r.lanes.count ≡ count h
  pub tails : r.lanes.tails ≡ column 0 (λ x. x.from) h.rows
  pub heads : r.lanes.heads ≡ column 0 (λ x. x.to) h.rows
  pub prices : r.prices ≡ column 0 (λ x. x.price) h.rows
  pub marks : r.fixed ≡ column false (λ x. x.fixed) h.rows

-- A READER'S REPLY: the refusal, or the hall's record where there is none
pub record Replies (why : Refusal) (h : Hall) (r : Result HallRecord Kind) : Type 0 where
  pub refusal : answered r ≡ why
  pub hall : IfOk r (λ x. RecordOf h x)

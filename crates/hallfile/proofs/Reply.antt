-- Replies of a reader: a refusal, or the hall's record. Assumes nothing.
use mathlib.Core.Path.{◌≡◌, sym}
use Rattle.std.specs.Prelude.{Result, Ok, Err}
use Rattle.hall.specs.Hall.{Hall}
use Rattle.hall.specs.File.{Refusal, refusal}
use Rattle.refusals.specs.declared.Kind.{Kind}
use Rattle.refusals.specs.Kinds.{refusal_of, answered}
use Rattle.hallfile.specs.declared.record.HallRecord.{HallRecord}
use Rattle.hallfile.specs.Record.{RecordOf, Replies}

module _ (w : Refusal) (h : Hall) where
  pub reply_refused : (k : Kind) → refusal_of k ≡ w → Replies w h (Err k)
  unfolding answered
  reply_refused k e = record { refusal = e; hall = tt }

  -- of a reply that is passed on
  pub reply_passed : (r : Result HallRecord Kind) (k : Kind) → r ≡ Err k → refusal_of k ≡ w → Replies w h r
  reply_passed r k is e = rw is (reply_refused k e)

  pub reply_hall : (x : HallRecord) → w ≡ refusal 0 0 → RecordOf h x → Replies w h (Ok x)
  unfolding answered
  reply_hall x e is = record { refusal = sym e; hall = is }

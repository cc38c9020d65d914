-- The record of a file that is not refused holds an accepted hall. Assumes nothing.
use mathlib.Core.Path.{◌≡◌}
use mathlib.Core.Bool.{true}
use mathlib.Core.List.{List}
use Prim.Native.Nat.{ℕ}
use lib.Dec.{eqb}
use Rattle.hall.specs.File.{hall_in, hall_refusal}
use Rattle.hallfile.specs.declared.record.HallRecord.{HallRecord}
use Rattle.hallfile.specs.Record.{RecordOf}
use Rattle.hallfile.proofs.Records.{record_lanes, record_prices, record_marks}
use Rattle.hallfile.proofs.Accepted as accepted
use Rattle.plan.specs.Ready.{Accepted}

pub ready : (bs : List ℕ) (fine : eqb (hall_refusal bs).number 0 ≡ true) (x : HallRecord) (is : RecordOf (hall_in bs) x) → Accepted (hall_in bs) x
ready bs fine x is =
    let sound = accepted.sound bs fine in
    record {
      columns = record_lanes (hall_in bs) x is;
      ranged = accepted.ranged bs fine;
      linked = accepted.linked bs fine;
      able = record { few = sound.rows_few; low = sound.price; joining = accepted.unfixed_joining bs fine };
      price = record_prices (hall_in bs) x is;
      marks = record_marks (hall_in bs) x is;
    }

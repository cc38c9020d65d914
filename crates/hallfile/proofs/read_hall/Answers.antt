-- `hallfile::read_hall` gives the hall, or the first of the refusals 2 to 9 and 15: 9 and 15 are asked where none of 2 to 8 is met. Assumes nothing.
use mathlib.Core.Bool.{cond}
use mathlib.Core.List.{List}
use mathlib.Core.Path.{◌≡◌, sym, ◌∙◌}
use Prim.Native.Nat.{ℕ}
use native.Mathlib.Omega.{arith}
use Rattle.std.proofs.Common.{rules, Err, Ok}
use Rattle.hall.specs.File.{refusal, hall_in, hall_refusal}
use Rattle.joining.specs.Sound.{Sound}
use Rattle.joining.proofs.Sound.{sound_ranged}
use Rattle.columns.specs.Lanes.{LanesOf}
use Rattle.refusals.specs.Kinds.{answered}
use Rattle.refusals.proofs.Numbers.{kind_refused, answer_fine}
use Rattle.hallfile.specs.Record.{Replies}
use Rattle.hallfile.specs.Shape.{shape_refusal}
use Rattle.hallfile.proofs.Order.{shape_refused, shape_sound, sound_walked}
use Rattle.hallfile.proofs.Records.{record_lanes, record_marks}
use Rattle.hallfile.proofs.Reply.{reply_passed, reply_hall}
use Rattle.hallfile.proofs.read_hall.Goals as goal
use Rattle.hallfile.proofs.read_hall.Goals.{In-Ok, After-walk_refusal}

-- where none of 2 to 8 is met
module _ (c : In-Ok) where
  abbrev file : List ℕ
  file = c.args.file.now

  read : Replies (shape_refusal file) (hall_in file) (Ok c.in-Ok.hall)
  read = rw c.in-Ok.is at c.read_shape-read.ensures

  sound : Sound file
  sound = shape_sound file (answer_fine c.in-Ok.hall _ read.refusal)

  lanes : LanesOf (hall_in file) c.in-Ok.hall.lanes
  lanes = record_lanes (hall_in file) c.in-Ok.hall read.hall

-- where the walk through the hall is done
module _ (c : After-walk_refusal) where
  walk-told :
      cond c.is_connected-joined.result (cond c.is_openable-opens.result (refusal 0 0) (refusal 15 0)) (refusal 9 0) ≡ hall_refusal c.args.file.now
  walk-told =
      let ok = (goal.at.After-walk_refusal c).In-Ok in
      let h = hall_in c.args.file.now in
      sound_walked c.args.file.now (sound ok) c.is_connected-joined.result c.is_openable-opens.result (c.is_connected-joined.ensures h (lanes ok))
      (λ linked. c.is_openable-opens.ensures h (lanes ok) (sound_ranged c.args.file.now (sound ok)) linked (record_marks h ok.in-Ok.hall (read ok).hall))

pub is_connected-joined-requires : goal.is_connected-joined-requires
is_connected-joined-requires c = let ok = (goal.at.is_connected-joined-requires c).In-Ok in omega (arith, (lanes ok).junctions, (sound ok).junctions_some)

pub is_openable-opens-requires : goal.is_openable-opens-requires
is_openable-opens-requires c = (hall_in c.args.file.now, lanes (goal.at.is_openable-opens-requires c).In-Ok)

pub returns-in_err-walk_refusal : goal.returns-in_err-walk_refusal
unfolding answered
returns-in_err-walk_refusal c =
    let k = c.in_err-walk_refusal.field-0.0 in
    let passed : c.from_residual.result ≡ Err k = search (rules, c.from_residual.ensures) in
    reply_passed _ _ c.from_residual.result k passed (c.in_err-walk_refusal.ensures ∙ walk-told (goal.at.returns-in_err-walk_refusal c).After-walk_refusal)

pub returns-in_ok-walk_refusal : goal.returns-in_ok-walk_refusal
unfolding answered
returns-in_ok-walk_refusal c =
    let at = goal.at.returns-in_ok-walk_refusal c in
    rw c.in-Ok.is (reply_hall _ _ c.in-Ok.hall (sym (c.in_ok-walk_refusal.ensures ∙ walk-told at.After-walk_refusal)) (read at.In-Ok).hall)

-- where one of 2 to 8 is met
pub returns-in_default : goal.returns-in_default
unfolding answered
returns-in_default c =
    let k = c.in_default.field-0 in
    let told : Replies (shape_refusal c.args.file.now) (hall_in c.args.file.now) (Err k) = rw c.in_default.is at c.read_shape-read.ensures in
    reply_passed _ _ c.read_shape-read.result k c.in_default.is (told.refusal ∙ sym (shape_refused c.args.file.now (kind_refused k _ told.refusal)))

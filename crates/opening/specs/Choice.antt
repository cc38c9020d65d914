-- When a hall and a choice are turned back, and when a lent list is too short. Assumes nothing: these are definitions.
use Rattle.std.specs.Prelude.{cond, List, ℕ, ltb}
use Rattle.hall.specs.Hall.{is_choice}
use Rattle.hall.specs.File.{hall_in, hall_refusal, Refusal, refusal, or_else}

-- the hall's refusal, or 10 for a list that is no choice
unfoldable pub choice_refusal : (bs c : List ℕ) → Refusal
choice_refusal bs c = or_else (hall_refusal bs) (cond (is_choice (hall_in bs) c) (refusal 0 0) (refusal 10 0))

-- 1 where a lent list is too short, or what comes after it
unfoldable pub room_for : (least places : ℕ) → Refusal → Refusal
room_for m k f = cond (ltb k m) (refusal 1 0) f

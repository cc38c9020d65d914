-- What a call answers of a choice: the number and the set of what it found. Assumes nothing: these are definitions.
use Rattle.std.specs.Prelude.{◌≡◌, ℕ, Result, IfOk}
use Rattle.std.proofs.Math.Option.{Option, none, some}
use Rattle.hall.specs.File.{Refusal}
use Rattle.refusals.specs.declared.Kind.{Kind}
use Rattle.refusals.specs.Kinds.{answered}
use Rattle.answers.specs.declared.Finding.{Finding}
use Rattle.answers.specs.declared.Finding.TheVariants.{Joins, Misses, Around}

-- 1 joins, 2 misses with a shore, 3 a neighbourhood
unfoldable pub outcome_of : Finding → ℕ
outcome_of Joins = 1
outcome_of (Misses s) = 2
outcome_of (Around s) = 3

-- the shore or the neighbourhood, else 0
unfoldable pub set_of : Finding → ℕ
set_of Joins = 0
set_of (Misses s) = s.0
set_of (Around s) = s.0

-- joins where no shore is missed
unfoldable pub missing : Option ℕ → Finding
missing none = Joins
missing (some s) = Misses (record { 0 = s })

-- the reply has this refusal, and where it is none this finding
abbrev pub told : Refusal → Finding → Result Finding Kind → Type 0
told f found r = (answered r ≡ f) × IfOk r (λ x. x ≡ found)

-- What the lowest junction that does not reach all reaches. Assumes nothing: these are definitions.
use Rattle.std.specs.Prelude.{cond, Option as Reply, Some, None, ℕ, zero, suc, ◌^◌, ◌≤◌, ◌<◌, eqb}
use Rattle.std.proofs.Math.Option.{Option, none, some}
use Rattle.junctions.specs.declared.Junctions.{Junctions}

-- arcs lead from the junctions 1 to n to these only
unfoldable pub ArcsInside : (n : ℕ) → (out : ℕ → ℕ) → Type 0
ArcsInside n out = (j : ℕ) → 1 ≤ j → j ≤ n → out j < 2 ^ n

-- of the next `left` junctions from j on, what the first that does not reach all reaches; none where each reaches all
unfoldable pub short_from : (left j : ℕ) → (all : ℕ) → (reach : ℕ → ℕ) → Option ℕ
short_from zero j all reach = none
short_from (suc k) j all reach = cond (eqb (reach j) all) (short_from k (suc j) all reach) (some (reach j))

-- the shore in a reply
abbrev pub shore_of : Reply Junctions → Option ℕ
shore_of None = none
shore_of (Some s) = some s.0

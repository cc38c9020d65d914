-- `Text::push_set` appends the junctions of a set, lowest first. The invariant: what is appended so far, and the junctions that are left, make the whole. Assumes nothing.
use Rattle.std.proofs.Common.{◌≡◌, ◌++◌, ◌+◌, ◌-◌}
use Rattle.lines.specs.Lines.{set_text}
use Rattle.lines.proofs.Text.push_set.Given as goal

abbrev pub invariant-loop-k : goal.invariant-loop-k
invariant-loop-k g l = l.self ++ set_text (l.n - l.k) (l.k + 1) l.set ≡ l.fn.self ++ set_text l.n 1 l.set

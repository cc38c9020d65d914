-- `screening::screen` reads rows until their prices have passed the figure. The invariant: what is left of it and the prices so far are the figure. Assumes nothing.
use mathlib.Core.Path.{◌≡◌}
use mathlib.Core.Bool.{true}
use Prim.Native.Nat.{◌+◌}
use lib.ListN.{take}
use Rattle.hall.specs.Hall.{Hall, is_choice}
use Rattle.hall.specs.Plan.{total}
use Rattle.hallfile.specs.Record.{RecordOf}
use Rattle.screening.proofs.screen.Given as goal

abbrev pub invariant-loop-k : goal.invariant-loop-k
invariant-loop-k l = (h : Hall) → RecordOf h l.hall → is_choice h l.choice ≡ true → l.left + total h (take l.k l.choice) ≡ l.figure

-- `withwithout::list_figures` lists row after row. The invariant: those of the first k stand in the first places. Assumes nothing.
use Rattle.hall.specs.Hall.{Hall}
use Rattle.withwithout.specs.Least.{LeastPlanOf}
use Rattle.withwithout.proofs.Listed.{Listed}
use Rattle.withwithout.proofs.list_figures.Given as goal

abbrev pub invariant-loop-k : goal.invariant-loop-k
invariant-loop-k l = (h : Hall) → LeastPlanOf h l.plan → Listed h l.k l.fn.with l.with l.fn.without l.without

-- What the figures of a hall's rows start from, which figures the code's are, and which rows may not be chosen. Assumes nothing: these are definitions.
use Rattle.std.specs.Prelude.{◌≡◌, Bool, false, ◌&&◌, ◌||◌, List, ℕ, ◌≤◌, eqb, get_or}
use Rattle.laws.specs.Lists.{at}
use Rattle.hall.specs.Hall.{Hall, count}
use Rattle.hall.specs.Plan.{total}
use Rattle.dicuts.specs.Listed.{listed}
use Rattle.order.specs.Ranked.{charge}
use Rattle.columns.specs.Columns.{flagged}
use Rattle.plan.specs.Ready.{Accepted, Least}
use Rattle.forcing.specs.Figures.{Figures, is_fixed, totals}
use Rattle.withwithout.specs.declared.LeastPlan.{LeastPlan}
use Rattle.withwithout.specs.declared.Figures.{Figures as Own}
use Rattle.withwithout.specs.declared.Figures.TheVariants.{Fixed, Totals}

-- A CHOICE OF LEAST TOTAL of an accepted hall, with that total and what the rows are charged
pub record LeastPlanOf (h : Hall) (p : LeastPlan) : Type 0 where
  pub accepted : Accepted h p.hall.now
  pub charges : (i : ℕ) → 1 ≤ i → i ≤ count h → at p.charges.rows i ≡ charge h i
  pub least : Least h p.state
  pub total : p.total ≡ total h (listed h (flagged p.state.chosen))

-- the figures of a row, as the code has them
unfoldable pub figures_of : Own → Figures
figures_of Fixed = is_fixed
figures_of (Totals a b) = totals a b

-- the row at place i is chosen, and is fixed or stands at place k
abbrev pub barred : (chosen fixed : List Bool) → (k i : ℕ) → Bool
barred chosen fixed k i = get_or chosen i false && (get_or fixed i false || eqb i k)

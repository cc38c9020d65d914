-- `hallfile::openable::is_openable` tells whether the hall is openable: where no row is flagged all rows together join, else the unflagged rows miss a shore or not. Assumes nothing.
use mathlib.Core.Path.{◌≡◌, sym, ◌∙◌}
use mathlib.Core.Bool.{not}
use Prim.Native.Nat.{◌≤◌}
use native.Mathlib.Omega.{arith}
use Rattle.std.proofs.Common.{rules, is_some}
use Rattle.hall.specs.Hall.{count, unfixed}
use Rattle.dicuts.proofs.Unfixed.{unfixed-member}
use Rattle.choice.proofs.Marked.{none_any_unfixed, opposite_unfixed}
use Rattle.hallfile.proofs.Unfixed.{none_fixed-openable, missed-openable}
use Rattle.hallfile.proofs.openable.is_openable.Goals as goal

pub returns-then-not-any_flagged : goal.returns-then-not-any_flagged
returns-then-not-any_flagged c = λ h are rg linked marks.
    sym (none_fixed-openable h linked
    (none_any_unfixed h c.args.fixed.now marks (omega (arith, are.rows, c.args.lanes.now.ends.few)) (sym c.any_flagged.ensures ∙ c.if-not-any_flagged.true)))

pub returns : goal.returns
returns c = λ h are rg linked marks.
    let told : c.is_none.result ≡ not (is_some c.missed_shore.result) = search (rules, c.is_none.ensures) in
    told ∙ missed-openable h rg c.missed_shore.result
    (c.missed_shore.ensures h (unfixed h) are rg
    (λ i l m.
    let within : i ≤ count h = omega (arith, are.rows) in
    opposite_unfixed h c.args.fixed.now marks (omega (arith, are.rows, c.args.lanes.now.ends.few)) c.unflagged.result c.unflagged.ensures.1 i l within ∙ sym (unfixed-member h i l within)))

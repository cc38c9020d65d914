-- `Site::is_sound` tests the limits, and then the plans and the sum. Assumes nothing.
use mathlib.Core.Path.{◌≡◌, refl, sym, ◌∙◌}
use mathlib.Core.Bool.{◌&&◌}
use Prim.Native.Nat.{◌+◌}
use lib.Dec.{eqb}
use Rattle.std.proofs.Common.{rules, Some, None}
use Rattle.std.proofs.lemmas.Option.{cond_some, none-some}
use native.Mathlib.Omega.{arith}
use Rattle.laws.proofs.Booleans.{not_true_false, cond_true}
use Rattle.stock.specs.Site.{sound, all_plans, opened_rows}
use Rattle.stock.proofs.Plans.{sound_parts, sound_within}
use Rattle.site.specs.Site.{site_of}
use Rattle.site.proofs.Fields.{plans_count, stock_is, left_is}
use Rattle.site.proofs.Site.is_sound.Goals as goal
use Rattle.site.proofs.Site.is_sound.Goals.{then-self-gt-MOST_KITS-via-then-self-gt-MOST_KITS, then-self-gt-MOST_KITS-via-else-self-gt-MOST_KITS+then-self-gt-MOST_HALLS}

pub returns-then-self-gt-MOST_KITS : goal.returns-then-self-gt-MOST_KITS
returns-then-self-gt-MOST_KITS c =
    let s = c.args.self.now in
    sym (not_true_false (sound (site_of s))
    (λ e.
    let parts = sound_parts (site_of s) e in
    elim c.then-self-gt-MOST_KITS.branch [
      | then-self-gt-MOST_KITS-via-then-self-gt-MOST_KITS w ↦ omega (arith, parts.stock_few, stock_is s, w.if-self-gt-MOST_KITS.true)
      | then-self-gt-MOST_KITS-via-else-self-gt-MOST_KITS+then-self-gt-MOST_HALLS w ↦ omega (arith, parts.plans_few, plans_count s, w.if-self-gt-MOST_HALLS.true)
    ]))

pub returns-in-Some : goal.returns-in-Some
returns-in-Some c =
    let s = c.args.self.now in
    let t = site_of s in
    let counted = cond_some (all_plans t.plans) (opened_rows t.plans) c.in-Some.opened (sym c.opened.ensures ∙ c.in-Some.is) in
    let rest : eqb (s.left + c.in-Some.opened) s.stock ≡ (all_plans t.plans && eqb (t.left + opened_rows t.plans) t.stock) =
    rw (counted.0, counted.1, left_is s, stock_is s) refl in
    search (rules, rest, sound_within t (omega (arith, stock_is s, c.if-self-gt-MOST_KITS.false)) (omega (arith, plans_count s, c.if-self-gt-MOST_HALLS.false)))

pub returns-in-None : goal.returns-in-None
returns-in-None c =
    let t = site_of c.args.self.now in
    sym (not_true_false (sound t)
    (λ e. none-some (opened_rows t.plans) (sym c.in-None.is ∙ c.opened.ensures ∙ cond_true (all_plans t.plans) (Some (opened_rows t.plans)) None (sound_parts t e).plans_good)))

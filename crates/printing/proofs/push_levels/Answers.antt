-- Each turn appends the next level. Assumes nothing.
use mir.Syntax.{w32}
use mir.Val.{to_z, of_z}
use mir.ValLaws.{to_z-of_z}
use Rattle.std.proofs.Common.{ℕ, ◌≡◌, pos, ap, get_or, rules, length, length-append, arith}
use Rattle.std.proofs.lemmas.Grind.{common_steps}
use Rattle.lines.specs.Lines.{text}
use Rattle.printing.specs.Printed.{levels_line, levels_word}
use Rattle.printing.proofs.Each.{each_none, each_next, each_all}
use Rattle.printing.proofs.push_levels.Goals as goal

pub loop-level-init : goal.loop-level-init
loop-level-init c = each_none

pub push_level-requires : goal.push_level-requires
push_level-requires c = omega (arith, c.loop-level.invariant.short, ap length c.push_bytes.ensures, length-append {A = ℕ})

pub loop-level-preserved : goal.loop-level-preserved
loop-level-preserved c =
    let x = get_or c.args.levels.now c.loop-level.level-index (pos 0) in
    let same : to_z w32 (of_z w32 x) ≡ x = to_z-of_z w32 x (record { sfits = search rules }) in
    each_next (pos 0) c.loop-level-test.true c.loop-level.invariant (rw same at c.push_level.ensures.appended) (rw same at c.push_level.ensures.short)

pub returns : goal.returns
unfolding levels_line levels_word text
returns c = let e = each_all c.loop-level-test.false c.loop-level.invariant in let f = c.push_bytes.ensures in grind (arith, common_steps)

-- Each turn appends the line of the next cut. Assumes nothing.
use Prim.Native.Nat.{ℕ}
use Rattle.std.proofs.Common.{ap, length, length-append, ◌∷◌, [], ◌<◌, rules, arith}
use Rattle.std.proofs.lemmas.Grind.{common_steps}
use Rattle.cutlist.specs.Cuts.{lent_cut, cut_of, cuts_of}
use Rattle.cutlist.proofs.Lent.{cuts_of-length, cuts_of-at}
use Rattle.lines.specs.Lines.{text}
use Rattle.lines.proofs.Lines.{number_line_short}
use Rattle.printing.specs.Printed.{cut_lines, cuts_word}
use Rattle.printing.proofs.Each.{each_none, each_next, each_all}
use Rattle.printing.proofs.push_cuts.Goals as goal

pub push_number_line-requires : goal.push_number_line-requires
push_number_line-requires c = omega (arith, number_line_short (67 ∷ 85 ∷ 84 ∷ 83 ∷ 32 ∷ []) (length c.args.cuts.now) (omega arith))

pub loop-cut-init : goal.loop-cut-init
loop-cut-init c = each_none

pub push_cut_line-requires : goal.push_cut_line-requires
push_cut_line-requires c =
    (search rules, (c.requires.n_bound, omega (arith, c.loop-cut-test.true, c.requires.room, c.loop-cut.invariant.short, ap length c.push_number_line.ensures, number_line_short (67 ∷ 85 ∷ 84 ∷ 83 ∷ 32 ∷ []) (length c.args.cuts.now) (omega arith), length-append {A = ℕ})))

pub loop-cut-preserved : goal.loop-cut-preserved
loop-cut-preserved c =
    let ks = c.args.cuts.now in
    let less : c.loop-cut.cut-index < length (cuts_of ks) = omega (arith, c.loop-cut-test.true, cuts_of-length ks) in
    let line = cuts_of-at ks (lent_cut 0 0) c.loop-cut.cut-index in
    each_next (cut_of (lent_cut 0 0)) less c.loop-cut.invariant (rw line c.push_cut_line.ensures.appended) (rw line c.push_cut_line.ensures.short)

pub returns-clause-appended : goal.returns-clause-appended
unfolding cut_lines cuts_word text
returns-clause-appended c =
    let same = cuts_of-length c.args.cuts.now in
    let all = each_all (omega (arith, c.loop-cut-test.false, same)) c.loop-cut.invariant in
    let f = c.push_number_line.ensures in
    rw same (grind (arith, common_steps))

pub returns-clause-short : goal.returns-clause-short
returns-clause-short c =
    omega (arith, c.loop-cut-test.false, cuts_of-length c.args.cuts.now, c.loop-cut.invariant.short, ap length c.push_number_line.ensures, number_line_short (67 ∷ 85 ∷ 84 ∷ 83 ∷ 32 ∷ []) (length c.args.cuts.now) (omega arith), length-append {A = ℕ})

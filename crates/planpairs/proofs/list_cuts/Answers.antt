-- `planpairs::list_cuts` meets its contract: what is filled in stands beside the first choice. Assumes nothing.
use native.Mathlib.Omega.{arith}
use Rattle.columns.specs.Columns.{flagged}
use Rattle.cuts.specs.Beside.{highest}
use Rattle.planpairs.proofs.Pairs.{under, beside_rows, pairs_as}
use Rattle.planpairs.proofs.list_cuts.Goals as goal

pub fill-requires : goal.fill-requires
fill-requires c =
    let w = c.requires.3 in let x = c.args.hall.now in let size = x.lanes.ends.size in (
      size,
      c.requires.0,
      c.requires.1,
      omega (arith, size, c.requires.2),
      (w.0, flagged c.args.least.now.chosen, beside_rows w.0 x w.1 size c.args.least.now w.2 c.of_rows-links.result (c.of_rows-links.ensures w.0 w.1.columns)),
    )

pub returns : goal.returns
returns c =
    let w = c.requires.3 in let x = c.args.hall.now in let s = c.args.least.now in let size = x.lanes.ends.size in let links = c.of_rows-links in (
      (c.fill.ensures w.0 (flagged s.chosen) (beside_rows w.0 x w.1 size s w.2 links.result (links.ensures w.0 w.1.columns)) highest (under w.0 x w.1 size s w.2)).0.few,
      λ h rd least.
          let got = c.fill.ensures h (flagged s.chosen) (beside_rows h x rd size s least links.result (links.ensures h rd.columns)) highest (under h x rd size s least) in
          pairs_as h x rd size s least c.args.shores.now _ c.args.weights.now _ c.args.levels.now _ c.requires.0 c.requires.1 c.requires.2 c.fill.result got.0 got.1,
    )

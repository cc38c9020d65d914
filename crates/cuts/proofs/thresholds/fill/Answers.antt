-- `cuts::thresholds::fill` fills the first places with the cuts of the potential: what the columns of links and mates weigh is the weight of the potential. Assumes nothing.
use native.Mathlib.Omega.{arith}
use Rattle.cuts.specs.Beside.{highest}
use Rattle.cuts.proofs.Beside.{beside_links, beside_mates, beside_fits, beside_filled}
use Rattle.cuts.proofs.thresholds.fill.Goals as goal

pub add_thresholds-requires : goal.add_thresholds-requires
add_thresholds-requires c =
    let m = c.mates-mates in
    let b = c.requires.3.2 in (
      c.requires.0,
      beside_links m.result b m.ensures.1,
      beside_mates m.result b m.ensures.1,
      (highest, omega arith, b.low, beside_fits m.result b m.ensures.1 c.requires.0 c.requires.1 c.requires.2),
    )

pub returns : goal.returns
returns c =
    λ h F b. beside_filled c.mates-mates.result b c.mates-mates.ensures.1 c.requires.0 c.add_thresholds.ensures

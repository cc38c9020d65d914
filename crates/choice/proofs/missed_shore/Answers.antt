-- `choice::missed_shore` gives the shore that the choice misses: what the lowest junction that does not reach all reaches, over the rows with the chosen ones both ways. Assumes nothing.
use mathlib.Core.Path.{◌∙◌}
use Rattle.choice.proofs.Short.{arcs-inside, arcs-missed}
use Rattle.choice.proofs.missed_shore.Goals as goal

pub shortfall-requires : goal.shortfall-requires
shortfall-requires c = let got = c.of_rows-arcs in let l = c.args.lanes.now in let w = c.requires in
    (l.ends.size, arcs-inside w.0 l w.1 c.args.chosen.now got.result (got.ensures w.0 w.1))

pub returns : goal.returns
returns c = let got = c.of_rows-arcs in let a = c.args in
    λ h d lanes_of rg same. c.shortfall.ensures ∙ arcs-missed h a.lanes.now lanes_of a.chosen.now got.result (got.ensures h lanes_of) d rg same

-- `plan::least` meets its contract: what is cheapest at the charges is of least total. Assumes nothing.
use Rattle.plan.proofs.Prices.{unfixed_ready, charge_modest, charge_least}
use Rattle.plan.proofs.least.Goals as goal

pub charges-charged-requires : goal.charges-charged-requires
charges-charged-requires c = c.args.hall.now.lanes.ends.few

pub cheapest-requires : goal.cheapest-requires
cheapest-requires c =
    let h = c.requires.0 in let x = c.args.hall.now in let rd = c.requires.1 in
    record {
      modest = charge_modest h x rd c.charges-charged.result.rows c.charges-charged.ensures;
      ready = (h, unfixed_ready h x rd c.unflagged-unfixed.result c.unflagged-unfixed.ensures.1);
    }

pub returns : goal.returns
returns c =
    λ h rd.
    let x = c.args.hall.now in let rows = c.unflagged-unfixed in
    charge_least h x rd c.charges-charged.result.rows c.charges-charged.ensures rows.result rows.ensures.1 c.cheapest.result
    (c.cheapest.ensures h (unfixed_ready h x rd rows.result rows.ensures.1))

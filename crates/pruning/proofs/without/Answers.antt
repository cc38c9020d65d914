-- `pruning::without` takes one junction out. Assumes nothing.
use Rattle.std.proofs.Common.{◌≡◌, sym, ap, ◌∙◌, true, not, ◌&&◌, suc, ◌-◌, ◌^◌, arith}
use lib.Pow.{pow-lt}
use Rattle.laws.proofs.Booleans.{clash, and_l, and_r}
use Rattle.junctions.specs.Sets.{holds}
use Rattle.junctions.proofs.Bits.{one_shl}
use Rattle.junctions.proofs.Single.{one_self}
use Rattle.junctions.proofs.Without.{without}
use Rattle.pruning.proofs.without.Goals as goal

pub returns : goal.returns
returns c = λ y low e.
    let set = c.args.set in let place = c.args.place in let back : suc place - 1 ≡ place = omega arith in
    let own : holds (2 ^ place) (suc place) ≡ true = rw back at (one_self (suc place) (omega arith)) in
    let left : (holds set y && not (holds (2 ^ place) y)) ≡ true =
    sym (without set (2 ^ place) (omega arith) (pow-lt {i = place} {j = 64} c.requires) y) ∙ rw (one_shl place c.requires) at e in (
      and_l (holds set y) (not (holds (2 ^ place) y)) left,
      λ q. clash (and_r (holds set y) (not (holds (2 ^ place) y)) left) (ap not (ap (holds (2 ^ place)) q ∙ own)),
    )

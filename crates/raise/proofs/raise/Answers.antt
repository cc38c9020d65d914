-- Each turn lifts one junction more, whose level fits a word; once none is left all of the set are lifted. Assumes nothing.
use Rattle.std.proofs.Common.{sym, ◌∙◌, arith}
use Rattle.std.proofs.Math.ListN.{length-set}
use Prim.Native.Nat.{suc}
use Rattle.junctions.proofs.Taking.{taken_in}
use Rattle.raise.proofs.Lifts.{raised_fits, raised_here, raised_more, raised_none}
use Rattle.raise.proofs.raise.Goals as goal

pub overflow_add-next : goal.overflow_add-next
overflow_add-next c = let l = c.loop-j in let a = c.args in let j = c.in-Some.j in
    record {
      fits = omega (
        arith,
        raised_here l.j-iterator.left a.by l.next j (taken_in c.in-Some.ensures.steps),
        l.invariant.same (suc j) (omega arith),
        raised_fits a.set a.by a.potential.now (suc j) c.requires,
      );
    }

pub loop-j-preserved : goal.loop-j-preserved
loop-j-preserved c = let l = c.loop-j in
    record {
      size = length-set l.next c.in-Some.j _ ∙ l.invariant.size;
      same = λ j low. raised_more c.in-Some.ensures.steps c.args.by l.next l.invariant.size j low ∙ l.invariant.same j low;
    }

pub returns : goal.returns
returns c = λ j l u. sym (raised_none _ c.args.by c.loop-j.next j c.in-None.ensures.steps.0) ∙ c.loop-j.invariant.same j l

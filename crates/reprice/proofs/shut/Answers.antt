-- `reprice::shut`: past the last level there is nothing. Assumes nothing.
use Rattle.std.proofs.Common.{rules, arith, ◌≡◌, ◌∙◌, ℕ, ◌-◌, get_or}
use Rattle.laws.proofs.Booleans.{by_bool}
use lib.Dec.{ltb}
use lib.ListN.{set, length-set, get_or-eq_default}
use lib.Seq.{get_or-set_same, get_or-set_other}
use borrow.Author.Count.{below_more}
use borrow.Author.Tests.{ltb-true, ltb-false}
use Rattle.forcing.specs.Shut.{shut}
use Rattle.reprice.proofs.shut.Goals as goal

pub loop-k-init : goal.loop-k-init
loop-k-init c = (search rules, λ j less. absurd (omega arith))

pub loop-k-preserved : goal.loop-k-preserved
unfolding shut
loop-k-preserved c =
    let next = c.loop-k.next in let k = c.loop-k.k in let so_far = c.loop-k.invariant in
    let level = get_or c.args.potential.now k 0 - (c.saturating_sub.result - c.saturating_sub-in-loop-k.result) in (
      length-set next k level ∙ so_far.0,
      below_more
          (λ (j : ℕ). get_or (set next k level) j 0 ≡ shut c.args.low c.args.high (λ (i : ℕ). get_or c.args.potential.now i 0) j) k
          (λ j less. get_or-set_other next k j level 0 (λ q. omega arith) ∙ so_far.1 j less)
          (get_or-set_same next k level 0 (omega (arith, so_far.0, c.loop-k-test.true)) ∙ omega (arith, c.saturating_sub.ensures, c.saturating_sub-in-loop-k.ensures)),
    )

pub returns : goal.returns
unfolding shut
returns c = λ k. let next = c.loop-k.next in let so_far = c.loop-k.invariant in
    by_bool (ltb k 64) (λ t. so_far.1 k (omega (arith, ltb-true k 64 t, c.loop-k-test.false)))
    (λ t. omega (
      arith,
      get_or-eq_default c.args.potential.now 0 {n = k} (omega (arith, ltb-false k 64 t, c.told-potential)),
      get_or-eq_default next 0 {n = k} (omega (arith, ltb-false k 64 t, so_far.0)),
    ))

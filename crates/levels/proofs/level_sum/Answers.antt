-- Each turn adds what one cut more weighs; no sum overflows, since no weight does and the cuts are few. Assumes nothing.
use Prim.Native.Nat.{ℕ}
use Rattle.std.proofs.Common.{◌≡◌, refl, ap, ap₂, ◌∙◌, length, cond, rules, arith}
use Rattle.std.proofs.lemmas.List.{length_push}
use Rattle.std.proofs.lemmas.Slice.Zip.{zip_turn, zip_end}
use Rattle.laws.specs.Finite.{sum_below}
use Rattle.junctions.specs.Sets.{holds}
use Rattle.shorelist.specs.Listed.{place_of}
use Rattle.levels.proofs.Levelling.{sum_more, level_all}
use Rattle.levels.proofs.level_sum.Invariants.{share_of}
use Rattle.levels.proofs.level_sum.Goals as goal

pub loop-shore-init : goal.loop-shore-init
unfolding sum_below
loop-shore-init c = record { small = omega arith; sum_so_far = refl }

pub overflow_add-sum : goal.overflow_add-sum
overflow_add-sum c =
    let turn = zip_turn c.args.shores.now c.args.weights.now c.loop-shore.yielded _ c.loop-shore.shore-iterator c.next.new.self c.next.result (search rules) (search rules) c.loop-shore.yielded_by (c.in-Some.shore, c.in-Some.weight) c.in-Some.is c.next.ensures.steps in
    record { fits = omega (arith, turn.0, c.share-sum.ensures.1, c.loop-shore.invariant.small, c.requires.few) }

pub loop-shore-preserved : goal.loop-shore-preserved
loop-shore-preserved c =
    let turn = zip_turn c.args.shores.now c.args.weights.now c.loop-shore.yielded _ c.loop-shore.shore-iterator c.next.new.self c.next.result (search rules) (search rules) c.loop-shore.yielded_by (c.in-Some.shore, c.in-Some.weight) c.in-Some.is c.next.ensures.steps in
    let k = length c.loop-shore.yielded in
    let size = length_push c.loop-shore.yielded (c.in-Some.shore, c.in-Some.weight) in
    let here = c.share-sum.ensures.0 ∙ ap₂ (λ (s w : ℕ). cond (holds s c.args.j) w 0) (turn.2 0) (turn.3 0) in
    record {
      small = omega (arith, size, c.share-sum.ensures.1, c.loop-shore.invariant.small);
      sum_so_far = rw size (sum_more (share_of c.args.shores.now c.args.weights.now c.args.j) k c.loop-shore.sum c.share-sum.result c.loop-shore.invariant.sum_so_far here);
    }

pub returns : goal.returns
returns c =
    let end = zip_end c.args.shores.now c.args.weights.now c.loop-shore.yielded _ c.loop-shore.shore-iterator c.next.new.self c.next.result (search rules) (search rules) c.loop-shore.yielded_by c.in-None.is c.next.ensures.steps in
    let e : length c.loop-shore.yielded ≡ length c.args.shores.now = omega (arith, end, c.requires.pairs) in
    c.loop-shore.invariant.sum_so_far ∙ ap (λ (k : ℕ). sum_below k (share_of c.args.shores.now c.args.weights.now c.args.j)) e
    ∙ level_all (place_of c.args.shores.now) (place_of c.args.weights.now) c.args.j (length c.args.shores.now)

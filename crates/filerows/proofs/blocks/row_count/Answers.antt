-- `filerows::blocks::row_count`: the goals that its invariant leaves. Assumes nothing.
use mathlib.Core.Path.{ap}
use Prim.Native.Nat.{ℕ, ◌/◌}
use native.Mathlib.Omega.{arith}
use lib.ListN.{length}
use Rattle.filerows.proofs.Pairs.{count_more, blocks_end}
use Rattle.filerows.proofs.blocks.row_count.Goals as goal

pub loop-k-preserved : goal.loop-k-preserved
loop-k-preserved c = let rows = count_more c.args.file.now c.args.blocks c.loop-k.k (omega arith) in
    (omega (arith, c.rows-rows.ensures), omega (arith, c.loop-k.invariant.1, rows, c.rows-rows.ensures, ap (λ (n : ℕ). n / 8) c.of.ensures.1))

pub returns : goal.returns
returns c = omega (arith, c.loop-k.invariant.1, ap length (blocks_end c.args.file.now c.args.blocks c.loop-k.k (omega arith)))

-- `filerows::view::Rows::ahead` gives a place with the same rows left, whose own block has the first of them: the place itself, or the next block's start, since in a good table every block has a row. Assumes nothing.
use native.Mathlib.Omega.{arith}
use Rattle.filerows.proofs.Rest.{rest_none, next_block}
use Rattle.filerows.proofs.view.Rows.ahead.Goals as goal

pub returns-then-self : goal.returns-then-self
returns-then-self c = let rows = c.args.self.now in rest_none rows.file.now rows.block_count rows.place c.if-self-gt0.false c.if-self.true

pub returns : goal.returns
returns c =
    let rows = c.args.self.now in
    next_block rows.file.now rows.block_count rows.place c.if-self-gt0.false rows.table (omega (arith, rows.stands.block, c.if-self.false)) c.first_of.result
    c.first_of.ensures.0 c.first_of.ensures.1 c.first_of.ensures.2

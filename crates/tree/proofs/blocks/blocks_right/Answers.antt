-- `tree::blocks::blocks_right` meets its contract: the first block that fails. Assumes nothing.
use Rattle.std.proofs.Common.{arith, rules}
use Rattle.tree.specs.Blocks.{block_right, blocks_right}
use Rattle.tree.proofs.Every.{every_fails}
use Rattle.tree.proofs.blocks.blocks_right.Goals as goal

pub returns-then-not-block_right : goal.returns-then-not-block_right
unfolding blocks_right
returns-then-not-block_right c = every_fails (block_right c.args.tree.now) c.loop-b.b _ (omega arith) (search rules)

-- `tree::blocks::blocks_right` meets its contract. The loop's invariant: each block passed is right. Assumes nothing.
use Rattle.std.proofs.Common.{◌≡◌, true}
use Rattle.tree.specs.Pick.{all_below}
use Rattle.tree.specs.Blocks.{block_right}
use Rattle.tree.proofs.blocks.blocks_right.Given as goal

abbrev pub invariant-loop-b : goal.invariant-loop-b
invariant-loop-b l = all_below (block_right l.tree) l.b ≡ true

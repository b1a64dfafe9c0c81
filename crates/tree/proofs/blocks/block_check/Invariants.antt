-- `tree::blocks::block_check` meets its contract. The loop's invariant: after i words the check is the definition's after i words. Assumes nothing.
use Rattle.std.proofs.Common.{◌≡◌}
use Rattle.tree.specs.Blocks.{check_to}
use Rattle.tree.proofs.blocks.block_check.Given as goal

abbrev pub invariant-loop-i : goal.invariant-loop-i
invariant-loop-i l = l.check ≡ check_to l.tree l.at l.i

-- `tree::level::start_from` meets its contract: one count more, and the sum is a node's number. Assumes nothing.
use Rattle.std.proofs.Common.{◌+◌, arith}
use Rattle.tree.proofs.Blocked.{nodes_most, record_in}
use Rattle.tree.proofs.Laid.{start_more, start_in}
use Rattle.tree.proofs.level.start_from.Goals as goal

pub child_count-sum-requires : goal.child_count-sum-requires
child_count-sum-requires c = record_in c.args.tree.now c.requires.laid.blocked c.loop-k.k (omega arith)

pub overflow_add-sum : goal.overflow_add-sum
overflow_add-sum c =
    omega (arith, c.loop-k.invariant, c.child_count-sum.ensures, start_more c.args.tree.now c.loop-k.k, start_in c.args.tree.now c.requires.laid (c.loop-k.k + 1) (omega arith), nodes_most c.args.tree.now c.requires.laid.blocked)

pub loop-k-preserved : goal.loop-k-preserved
loop-k-preserved c = omega (arith, c.loop-k.invariant, c.child_count-sum.ensures, start_more c.args.tree.now c.loop-k.k)

-- `tree::fields::unused_right` meets its contract. Assumes nothing.
use Rattle.std.proofs.Common.{arith}
use Rattle.tree.specs.Fields.{unused_right}
use Rattle.tree.proofs.Every.{every_more, every_fails}
use Rattle.tree.proofs.Fielded.{unused_set, unused_clear, unused_most, unused_place}
use Rattle.tree.proofs.Blocked.{blocks_least}
use Rattle.tree.proofs.fields.unused_right.Goals as goal

pub overflow_sub-last : goal.overflow_sub-last
overflow_sub-last c = blocks_least c.args.tree.now c.requires

pub overflow_sub-i-end : goal.overflow_sub-i-end
overflow_sub-i-end c = omega (arith, unused_most _ _ c.le-used.ensures.value c.requires)

pub bounds-tree-at : goal.bounds-tree-at
bounds-tree-at c = unused_place _ _ c.le-used.ensures.value c.requires c.loop-i.i (omega arith)

pub returns-then-tree-at-ne0 : goal.returns-then-tree-at-ne0
unfolding unused_right
returns-then-tree-at-ne0 c =
    let u = c.le-used.ensures.value in
    rw (← u) (every_fails _ c.loop-i.i _ (omega arith) (unused_set _ _ u c.loop-i.i c.if-tree-at-ne0.true))

pub loop-i-preserved : goal.loop-i-preserved
loop-i-preserved c = every_more _ c.loop-i.i c.loop-i.invariant (unused_clear _ _ c.le-used.ensures.value c.loop-i.i c.if-tree-at-ne0.false)

-- `tree::layout::layout_right` meets its contract. The loop's invariant: each node passed is right, and the start is the definition's, at most 63 for each of them. Assumes nothing.
use Rattle.std.proofs.Common.{◌≡◌, ◌+◌, ◌*◌, ◌≤◌, true}
use Rattle.tree.specs.Pick.{all_below}
use Rattle.tree.specs.Layout.{start_of, children_right}
use Rattle.tree.proofs.layout.layout_right.Given as goal

abbrev pub invariant-loop-k : goal.invariant-loop-k
invariant-loop-k l = (l.start ≡ start_of l.tree l.k) × (l.start ≤ 1 + 63 * l.k) × (all_below (children_right l.tree) l.k ≡ true)

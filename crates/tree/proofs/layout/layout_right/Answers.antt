-- `tree::layout::layout_right` meets its contract: the first node that fails, and the sum of the counts. Assumes nothing.
use Rattle.std.proofs.Common.{◌≡◌, ◌≤◌, Bool, true, ◌&&◌, eqb, ap, arith, rules}
use Rattle.tree.specs.Blocks.{nodes_of}
use Rattle.tree.specs.Layout.{start_of, children_right, layout_right}
use Rattle.tree.proofs.Every.{every_fails}
use Rattle.tree.proofs.Blocked.{nodes_most}
use Rattle.tree.proofs.Laid.{count_most}
use Rattle.tree.proofs.layout.layout_right.Goals as goal

pub returns-then-not-children_right : goal.returns-then-not-children_right
unfolding layout_right
returns-then-not-children_right c =
    let t = c.args.tree.now in
    ap (λ (b : Bool). b && eqb (start_of t (nodes_of t)) (nodes_of t))
    (every_fails (children_right t) c.loop-k.k (nodes_of t) (omega (arith, c.nodes-n.ensures)) (search rules))

pub overflow_add-start : goal.overflow_add-start
overflow_add-start c =
    let kid-right : children_right c.args.tree.now c.loop-k.k ≡ true = search rules in
    let kid-bound : c.child_count-start.result ≤ 63 = omega (arith, c.child_count-start.ensures, count_most _ _ kid-right) in
    omega (arith, c.nodes-n.ensures, nodes_most c.args.tree.now c.requires, kid-bound)

-- `tree::fields::fields_right` meets its contract: the first node that fails. Assumes nothing.
use Rattle.std.proofs.Common.{Bool, ◌&&◌, ap, arith, rules, to_z-of_z}
use Rattle.tree.specs.Blocks.{nodes_of}
use Rattle.tree.specs.Fields.{fields_ok, unused_right, fields_right}
use Rattle.tree.proofs.Every.{every_fails}
use Rattle.tree.proofs.fields.fields_right.Goals as goal

pub returns-then-not-node_right : goal.returns-then-not-node_right
unfolding fields_right
returns-then-not-node_right c =
    let t = c.args.tree.now in
    ap (λ (b : Bool). b && unused_right t) (every_fails (fields_ok c.args.inf c.args.max_ply t) c.loop-k.k (nodes_of t) (omega (arith, c.nodes-n.ensures)) (search (rules, to_z-of_z)))

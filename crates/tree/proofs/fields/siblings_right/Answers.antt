-- `tree::fields::siblings_right` meets its contract: the first child that fails. Assumes nothing.
use Rattle.std.proofs.Common.{arith, rules}
use Rattle.tree.specs.Fields.{apart, siblings_right}
use Rattle.tree.proofs.Every.{every_fails}
use Rattle.tree.proofs.Laid.{kid_in}
use Rattle.tree.proofs.fields.siblings_right.Goals as goal

pub move_apart-requires-clause-i_bound : goal.move_apart-requires-clause-i_bound
move_apart-requires-clause-i_bound c =
    omega (arith, c.child_count-count.ensures, c.first_child-first.ensures, kid_in c.args.tree.now c.requires.laid c.args.k c.loop-i.i c.requires.k_bound (omega (arith, c.child_count-count.ensures)))

pub returns-then-not-move_apart : goal.returns-then-not-move_apart
unfolding siblings_right
returns-then-not-move_apart c =
    rw (← c.child_count-count.ensures, ← c.first_child-first.ensures)
    (every_fails (apart c.args.tree.now c.first_child-first.result) c.loop-i.i _ (omega arith) (search rules))

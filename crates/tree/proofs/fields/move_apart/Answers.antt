-- `tree::fields::move_apart` meets its contract. Assumes nothing.
use Rattle.std.proofs.Common.{arith}
use Rattle.tree.specs.Fields.{apart}
use Rattle.tree.proofs.Fielded.{alike, unlike}
use Rattle.tree.proofs.Every.{every_more, every_fails}
use Rattle.tree.proofs.fields.move_apart.Goals as goal

pub returns-then-move_to-m : goal.returns-then-move_to-m
unfolding apart
returns-then-move_to-m c =
    every_fails _ c.loop-j.j _ (omega arith) (alike _ _ _ _ _ _ c.move_to-m.ensures c.move_to.ensures c.if-move_to-m.true)

pub loop-j-preserved : goal.loop-j-preserved
loop-j-preserved c =
    every_more _ c.loop-j.j c.loop-j.invariant (unlike _ _ _ _ _ _ c.move_to-m.ensures c.move_to.ensures c.if-move_to-m.false)

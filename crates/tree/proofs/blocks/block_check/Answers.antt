-- `tree::blocks::block_check` meets its contract: one word more, and all 127. Assumes nothing.
use Rattle.std.proofs.Common.{◌≡◌, refl, ap, ◌∙◌, ap₂, add-one, arith}
use Rattle.tree.specs.Blocks.{turn_of, check_to}
use Rattle.tree.proofs.blocks.block_check.Goals as goal

pub loop-i-init : goal.loop-i-init
unfolding check_to
loop-i-init c = refl

pub loop-i-preserved : goal.loop-i-preserved
unfolding check_to
loop-i-preserved c = rw add-one (c.turn-check.ensures ∙ ap₂ turn_of c.loop-i.invariant c.le.ensures.value)

pub returns : goal.returns
returns c =
    let e : c.loop-i.i ≡ 127 = omega arith in
    c.loop-i.invariant ∙ ap (check_to c.args.tree.now c.args.at) e

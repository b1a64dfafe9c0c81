-- `root::deepening` meets its contract: a depth without a move ends it. Assumes nothing.
use Rattle.std.proofs.Common.{sym, ◌∙◌}
use Rattle.root.proofs.Depths.{depths_over}
use Rattle.root.proofs.deepening.Goals as goal

pub returns-in-Break : goal.returns-in-Break
returns-in-Break c =
    depths_over _ _ _ _ _ _ _ _ _ _ _ _ c.loop-depth-test.true (sym c.mated.ensures ∙ c.if-mated.false) c.root_depth.ensures c.in-Break.is
    ∙ c.loop-depth.invariant

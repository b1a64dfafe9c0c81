-- `trees::record_refusal` meets its contract: an accepted tree's blocks are right. Assumes nothing.
use Rattle.std.proofs.Common.{sym}
use Rattle.tree.proofs.Accepted.{is_blocked}
use Rattle.refusals.proofs.Meaning.{tree_accepted}
use Rattle.trees.proofs.record_refusal.Goals as goal

pub node_right-requires : goal.node_right-requires
node_right-requires c = is_blocked _ _ _ (tree_accepted _ _ _ (sym c.in_ok-check_tree.ensures))

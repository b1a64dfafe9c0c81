-- `trees::record` meets its contract: an accepted tree has the record of each of its nodes. Assumes nothing.
use Rattle.std.proofs.Common.{sym}
use Rattle.tree.proofs.Accepted.{record_in}
use Rattle.refusals.proofs.Meaning.{tree_accepted}
use Rattle.trees.proofs.Handed.{rows_right}
use Rattle.trees.proofs.record.Goals as goal

pub record-requires : goal.record-requires
record-requires c =
    let p = rows_right _ _ _ _ (sym c.in-Ok.ensures) in
    record_in _ _ _ (tree_accepted _ _ _ p.0) _ p.1

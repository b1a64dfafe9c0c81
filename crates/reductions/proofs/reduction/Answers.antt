-- `reductions::reduction` meets its contract: inside of the table by its entry. Assumes nothing.
use Rattle.std.proofs.Common.{arith}
use borrow.Author.Tests.{le-ltb}
use Rattle.reductions.proofs.Table.{the_entry}
use Rattle.reductions.proofs.reduction.Goals as goal

pub returns-else-moves-gt63 : goal.returns-else-moves-gt63
returns-else-moves-gt63 c =
    let m = c.args.moves in
    simp (le-ltb 31 c.args.depth (omega arith), le-ltb 63 m (omega arith)) (the_entry c.args.depth m (omega arith) (omega arith))

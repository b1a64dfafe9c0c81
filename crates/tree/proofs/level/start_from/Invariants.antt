-- `tree::level::start_from` meets its contract. The loop's invariant: the sum is where the children of node k begin. Assumes nothing.
use Rattle.std.proofs.Common.{◌≡◌}
use Rattle.tree.specs.Layout.{start_of}
use Rattle.tree.proofs.level.start_from.Given as goal

abbrev pub invariant-loop-k : goal.invariant-loop-k
invariant-loop-k l = l.sum ≡ start_of l.tree l.k

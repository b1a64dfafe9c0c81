-- `tree::level::level` meets its contract. The loop's invariant: where level l and the next begin, and how many of the first l begin at the node or before it. Assumes nothing.
use Rattle.std.proofs.Common.{◌≡◌, ◌+◌, ◌-◌, ◌≤◌}
use Rattle.tree.specs.Level.{edge, level_in}
use Rattle.tree.proofs.level.level.Given as goal

abbrev pub invariant-loop-l : goal.invariant-loop-l
invariant-loop-l l = (l.l ≤ 100) × (l.begin ≡ edge l.tree l.l) × (l.next ≡ edge l.tree (l.l + 1)) × (l.level ≡ level_in l.tree l.l l.node) × (l.level ≤ l.l)

abbrev pub decreases-loop-l : goal.decreases-loop-l
decreases-loop-l l = 100 - l.l

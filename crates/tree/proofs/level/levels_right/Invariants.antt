-- `tree::level::levels_right` meets its contract. The loop's invariant: where level l and the next begin. Assumes nothing.
use Rattle.std.proofs.Common.{◌≡◌, ◌+◌, ◌-◌, ◌≤◌}
use Rattle.tree.specs.Level.{edge}
use Rattle.tree.proofs.level.levels_right.Given as goal

abbrev pub invariant-loop-l : goal.invariant-loop-l
invariant-loop-l l = (l.l ≤ 101) × (l.begin ≡ edge l.tree l.l) × (l.next ≡ edge l.tree (l.l + 1))

abbrev pub decreases-loop-l : goal.decreases-loop-l
decreases-loop-l l = 101 - l.l

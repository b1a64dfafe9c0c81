-- The measure of a call is the nodes that remain, then a number for the function; what the walk keeps. Assumes nothing.
use Rattle.std.proofs.Common.{◌≡◌, ℕ, ◌+◌, ◌-◌, ◌*◌, ◌≤◌, length}
use Rattle.tree.specs.Blocks.{nodes_of}
use Rattle.captures.specs.Captures.{captures_f, walk_f}
use Rattle.captures.proofs.+capture_visit.Given as goal

abbrev pub decreases-captures : goal.decreases-captures
decreases-captures l = 3 * (nodes_of l.tree.now - l.a.node) + 2

abbrev pub decreases-turn : goal.decreases-turn
decreases-turn l = 3 * (nodes_of l.tree.now - l.here.node)

abbrev pub decreases-walk : goal.decreases-walk
decreases-walk l = 3 * (nodes_of l.tree.now - l.here.node) + 1

abbrev pub invariant-walk-loop-i : goal.invariant-walk-loop-i
invariant-walk-loop-i l = (length l.words ≡ length l.initial.words) × ((j : ℕ) → nodes_of l.tree - l.here.node ≤ j →
    walk_f (captures_f j l.set l.tree) l.set l.tree l.here l.place (l.n - l.i) l.i l.l l.words
    ≡ walk_f (captures_f j l.set l.tree) l.set l.tree l.here l.place l.n 0 l.initial.l l.initial.words)

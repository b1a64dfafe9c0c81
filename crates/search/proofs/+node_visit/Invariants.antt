-- The measure of a call is the nodes that remain, then the depth, then a number for the function; what the walk keeps. Assumes nothing.
use Rattle.std.proofs.Common.{◌≡◌, ℕ, ◌+◌, ◌-◌, ◌*◌, ◌≤◌, length}
use Rattle.tree.specs.Blocks.{nodes_of}
use Rattle.visits.specs.Reach.{need}
use Rattle.visits.specs.Search.{visit_f, walk_f}
use Rattle.search.proofs.+node_visit.Given as goal

abbrev pub decreases-deepen : goal.decreases-deepen
decreases-deepen l = 8 * ((nodes_of l.tree.now - l.here.node) * 64 + (l.here.depth - 1)) + 4

abbrev pub decreases-reduced : goal.decreases-reduced
decreases-reduced l = 8 * ((nodes_of l.tree.now - l.here.node) * 64) + 1

abbrev pub decreases-search_node : goal.decreases-search_node
decreases-search_node l = 8 * ((nodes_of l.tree.now - l.a.node) * 64 + l.a.depth) + 5

abbrev pub decreases-turn : goal.decreases-turn
decreases-turn l = 8 * ((nodes_of l.tree.now - l.here.node) * 64) + 2

abbrev pub decreases-visit : goal.decreases-visit
decreases-visit l = 8 * ((nodes_of l.tree.now - l.a.node) * 64 + l.a.depth) + 6

abbrev pub decreases-walk : goal.decreases-walk
decreases-walk l = 8 * ((nodes_of l.tree.now - l.here.node) * 64) + 3

abbrev pub decreases-widened : goal.decreases-widened
decreases-widened l = 8 * ((nodes_of l.tree.now - l.here.node) * 64)

abbrev pub invariant-walk-loop-i : goal.invariant-walk-loop-i
invariant-walk-loop-i l = (length l.words ≡ length l.initial.words) × ((length l.history ≡ length l.initial.history) × ((j : ℕ) → need l.tree l.here.node 0 ≤ j →
    walk_f (visit_f j l.tree l.set) l.tree l.set l.here l.place (l.n - l.i) l.i l.l l.words l.history ≡ walk_f (visit_f j l.tree l.set) l.tree l.set l.here l.place l.n 0 l.initial.l l.initial.words l.initial.history))

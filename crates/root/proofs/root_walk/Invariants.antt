-- The loop's invariant: the rest of the walk, from each move on, is the whole walk. Assumes nothing.
use Rattle.std.proofs.Common.{◌≡◌, ◌-◌}
use Rattle.carry.specs.Carry.{with}
use Rattle.visits.specs.Search.{node_search}
use Rattle.root.specs.Root.{walk_f}
use Rattle.root.proofs.root_walk.Given as goal

abbrev pub invariant-loop-i : goal.invariant-loop-i
invariant-loop-i l = walk_f (node_search l.tree l.set) l.tree l.set l.depth l.place (l.n - l.i) l.i (with l.w l.words l.history)
    ≡ walk_f (node_search l.tree l.set) l.tree l.set l.depth l.place l.n 0 (with l.initial.w l.initial.words l.initial.history)

-- The loop's invariant: the depths from each one on are all of them. Assumes nothing.
use Rattle.std.proofs.Common.{◌≡◌, ◌-◌}
use Rattle.carry.specs.Carry.{with}
use Rattle.visits.specs.Search.{node_search}
use Rattle.root.specs.Root.{depths_f}
use Rattle.root.proofs.deepening.Given as goal

abbrev pub invariant-loop-depth : goal.invariant-loop-depth
invariant-loop-depth l = depths_f (node_search l.tree l.set) l.tree l.set (l.end - l.depth) l.depth (with l.d l.words l.history)
    ≡ depths_f (node_search l.tree l.set) l.tree l.set (l.end - l.start) l.start (with l.initial.d l.initial.words l.initial.history)

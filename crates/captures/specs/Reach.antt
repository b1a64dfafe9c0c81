-- Where a capture visit can be: a node of the tree, not deeper below 0 than it lies below the root, at a ply that a search reaches there.
-- Assumes nothing.
use Rattle.std.specs.Prelude.{List, ℕ, ◌+◌, ◌≤◌, ◌<◌}
use Rattle.tree.specs.Blocks.{nodes_of}
use Rattle.tree.specs.Level.{level_of}

pub record Reach (t : List ℕ) (node below ply : ℕ) : Type 0 where
  pub in_tree : node < nodes_of t
  pub below_least : below ≤ level_of t node + 1
  pub ply_least : ply ≤ level_of t node + 129

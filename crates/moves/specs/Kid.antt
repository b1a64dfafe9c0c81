-- A child of a node, as the walks take it. Assumes nothing.
use Rattle.std.specs.Prelude.{◌≡◌, List, ℕ, ◌+◌, ◌≤◌, ◌<◌}
use Rattle.tree.specs.Blocks.{nodes_of}
use Rattle.tree.specs.Level.{level_of}

-- c lies above k, in the tree, one level deeper
pub record Kid (t : List ℕ) (k c : ℕ) : Type 0 where
  pub above : k < c
  pub in_tree : c < nodes_of t
  pub level : level_of t c ≡ level_of t k + 1
  pub shallow : level_of t c ≤ 100

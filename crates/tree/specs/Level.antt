-- Row 5 of the refusals: how many moves below the root a node lies. Assumes nothing.
use Rattle.std.specs.Prelude.{ℕ, zero, suc, ◌+◌, Bool, List, ◌==◌, nat_le}
use Rattle.tree.specs.Pick.{pick}
use Rattle.tree.specs.Blocks.{nodes_of}
use Rattle.tree.specs.Layout.{start_of}

-- where level l begins: the root is level 0, and the children of a level's first node begin the next level
unfoldable pub edge : List ℕ → ℕ → ℕ
edge t zero = 0
edge t (suc l) = start_of t (edge t l)

-- how many of the levels 1 to j begin at node k or before it
unfoldable pub level_in : List ℕ → ℕ → ℕ → ℕ
level_in t zero k = 0
level_in t (suc j) k = level_in t j k + pick (nat_le (edge t (suc j)) k) 1 0

-- 01, History and clock: "the side changes at each level below the tree's root". A node's level; the levels that count are 1 to 100.
abbrev pub level_of : List ℕ → ℕ → ℕ
level_of t k = level_in t 100 k

-- row 5, "over 100 moves deep", of no node: level 101 would begin behind the last node
unfoldable pub levels_right : List ℕ → Bool
levels_right t = edge t 101 == nodes_of t

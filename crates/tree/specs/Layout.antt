-- Row 3 of the refusals: child counts and the breadth-first rule. Assumes nothing.
use Rattle.std.specs.Prelude.{◌≡◌, ℕ, zero, suc, ◌+◌, Bool, true, ◌&&◌, List, ◌==◌, nat_le, nat_lt}
use Rattle.tree.specs.Pick.{pick, all_below}
use Rattle.record.specs.Node.{count_of, first_of}
use Rattle.tree.specs.Blocks.{nodes_of, Blocked}

-- 01, The tree: "node k's children begin at 1 plus the counts of all earlier nodes"
unfoldable pub start_of : List ℕ → ℕ → ℕ
start_of t zero = 1
start_of t (suc k) = start_of t k + count_of t k

-- 01, The tree: "child count 0 to 63"; "that start is above k for every k"; "First child is that start, or 0 when the count is 0."
unfoldable pub children_right : List ℕ → ℕ → Bool
children_right t k =
    nat_le (count_of t k) 63
    && nat_lt k (start_of t k)
    && first_of t k == pick (count_of t k == 0) 0 (start_of t k)

-- row 3: "child count or breadth-first rule broken", of no node; "the total ends at the last node"
unfoldable pub layout_right : List ℕ → Bool
layout_right t = all_below (children_right t) (nodes_of t) && start_of t (nodes_of t) == nodes_of t

-- rows 1 to 3 are not given: what the walks over the nodes ask of a tree
pub record Laid (t : List ℕ) : Type 0 where
  pub blocked : Blocked t
  pub layout_right_lem : layout_right t ≡ true

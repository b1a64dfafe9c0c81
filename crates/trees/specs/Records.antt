-- Which refusal the record of a node gets. Assumes nothing.
use Rattle.std.specs.Prelude.{List, ℕ, ℤ}
use Rattle.refusals.specs.Rows.{node_right}
use Rattle.refusals.specs.First.{first, unless, tree_rows}

-- 01, Refusal numbers: 6, 1 to 5, 7 ("node absent")
unfoldable pub record_rows : ℤ → ℕ → List ℕ → ℕ → ℕ
record_rows inf maxPly t node = first (tree_rows inf maxPly t) (unless (node_right t node) 7 0)

-- Which of the refusals 1 to 5 a tree gets, and the part that an accessor hands back. Assumes nothing.
use Rattle.std.specs.Prelude.{ℕ, not, List, ℤ, ◌==◌}
use Rattle.tree.specs.Pick.{pick}
use Rattle.record.specs.Bytes.{part}
use Rattle.record.specs.Node.{record_at}
use Rattle.tree.specs.Blocks.{length_right, blocks_right}
use Rattle.tree.specs.Layout.{layout_right}
use Rattle.tree.specs.Fields.{fields_right}
use Rattle.tree.specs.Level.{levels_right}

-- 01, Refusal numbers: "Checked in this order, whole input each". The number of the first row that applies, 0 where none does.
unfoldable pub tree_refusal : ℤ → ℕ → List ℕ → ℕ
tree_refusal inf maxPly t =
    pick (not (length_right t)) 1
    (pick (not (blocks_right t)) 2
    (pick (not (layout_right t)) 3
    (pick (not (fields_right inf maxPly t)) 4
    (pick (not (levels_right t)) 5 0))))

-- 01, The tree: "A node's 16 bytes, once the tree is accepted, are handed back as that part of the lent tree, not copied; a refusal there gives only the empty part."
unfoldable pub handed_part : ℕ → List ℕ → ℕ → List ℕ
handed_part refusal t k = part t (record_at k) (pick (refusal == 0) 16 0)

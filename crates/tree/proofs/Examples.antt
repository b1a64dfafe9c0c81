-- 01's examples, by computation: the check of a block whose first word is 1, and the two worked trees, which are accepted. Assumes nothing.
use Rattle.std.proofs.Common.{◌≡◌, ℕ, ◌^◌, List, [], ◌∷◌, ◌++◌, replicate, pos, refl}
use Rattle.tree.specs.Pick.{all_below}
use Rattle.record.specs.Bytes.{le}
use Rattle.record.specs.Node.{record_at, first_of, count_of, flags_of, eval_of, move_of}
use Rattle.tree.specs.Blocks.{length_right, check_to, used_right, block_right, blocks_right, nodes_of}
use Rattle.tree.specs.Layout.{start_of, children_right, layout_right}
use Rattle.tree.specs.Fields.{eval_right, move_right, differ, apart, siblings_right, fields_ok, unused_zero, unused_right, fields_right}
use Rattle.tree.specs.Level.{edge, levels_right}
use Rattle.tree.specs.Refusal.{tree_refusal}

-- "First word 1 and the rest zero gives 2^30."
pub first_word_one : check_to (1 ∷ replicate 511 0) 0 127 ≡ 2 ^ 30
unfolding le check_to
first_word_one = refl

-- "Root whose one child is in check and childless": the root, its child with move 16, hashes 1 and 2
abbrev mate_root : List ℕ
mate_root = 1 ∷ 0 ∷ 1 ∷ 0 ∷ 0 ∷ 0 ∷ 0 ∷ 0 ∷ 1 ∷ 0 ∷ 0 ∷ 0 ∷ 0 ∷ 0 ∷ 0 ∷ 0 ∷ []

abbrev mate_child : List ℕ
mate_child = 0 ∷ 0 ∷ 0 ∷ 1 ∷ 0 ∷ 0 ∷ 16 ∷ 0 ∷ 2 ∷ 0 ∷ 0 ∷ 0 ∷ 0 ∷ 0 ∷ 0 ∷ 0 ∷ []

-- the zeros behind the records, then the mark, the block's number, the records used, four zeros and the check
unfoldable pub mate : List ℕ
mate = mate_root ++ (mate_child ++ (replicate 464 0 ++ (103 ∷ 116 ∷ 114 ∷ 101 ∷ 0 ∷ 0 ∷ 2 ∷ 0 ∷ 0 ∷ 0 ∷ 0 ∷ 0 ∷ 157 ∷ 49 ∷ 210 ∷ 231 ∷ [])))

pub mate_accepted : tree_refusal (pos 30000) 128 mate ≡ 0
unfolding mate tree_refusal length_right blocks_right block_right used_right check_to nodes_of all_below le record_at first_of count_of flags_of eval_of move_of start_of children_right layout_right eval_right move_right differ apart siblings_right fields_ok unused_zero unused_right fields_right edge levels_right
mate_accepted = refl

-- "Two quiet childless children, not in check, moves 16 and 32, evaluations 30 and -40, root evaluation 0, hashes 1, 2, 3"
abbrev quiet_root : List ℕ
quiet_root = 1 ∷ 0 ∷ 2 ∷ 0 ∷ 0 ∷ 0 ∷ 0 ∷ 0 ∷ 1 ∷ 0 ∷ 0 ∷ 0 ∷ 0 ∷ 0 ∷ 0 ∷ 0 ∷ []

abbrev quiet_child1 : List ℕ
quiet_child1 = 0 ∷ 0 ∷ 0 ∷ 2 ∷ 30 ∷ 0 ∷ 16 ∷ 0 ∷ 2 ∷ 0 ∷ 0 ∷ 0 ∷ 0 ∷ 0 ∷ 0 ∷ 0 ∷ []

abbrev quiet_child2 : List ℕ
quiet_child2 = 0 ∷ 0 ∷ 0 ∷ 2 ∷ 216 ∷ 255 ∷ 32 ∷ 0 ∷ 3 ∷ 0 ∷ 0 ∷ 0 ∷ 0 ∷ 0 ∷ 0 ∷ 0 ∷ []

-- the zeros behind the records, then the mark, the block's number, the records used, four zeros and the check
unfoldable pub quiet : List ℕ
quiet = quiet_root ++ (quiet_child1 ++ (quiet_child2 ++ (replicate 448 0 ++ (103 ∷ 116 ∷ 114 ∷ 101 ∷ 0 ∷ 0 ∷ 3 ∷ 0 ∷ 0 ∷ 0 ∷ 0 ∷ 0 ∷ 190 ∷ 245 ∷ 8 ∷ 31 ∷ []))))

pub quiet_accepted : tree_refusal (pos 30000) 128 quiet ≡ 0
unfolding quiet tree_refusal length_right blocks_right block_right used_right check_to nodes_of all_below le record_at first_of count_of flags_of eval_of move_of start_of children_right layout_right eval_right move_right differ apart siblings_right fields_ok unused_zero unused_right fields_right edge levels_right
quiet_accepted = refl

-- Row 4 of the refusals: flags, evaluations, moves, siblings and unused records. Assumes nothing.
use Rattle.std.specs.Prelude.{ℕ, ◌+◌, ◌-◌, ◌*◌, Bool, true, false, not, ◌&&◌, List, ℤ, pos, ◌-ℤ◌, neg_ℤ, ◌==◌, int_lt, nat_lt, slice_index}
use Rattle.tree.specs.Pick.{all_below}
use Rattle.record.specs.Node.{flags_of, eval_of, move_of, first_of, count_of}
use Rattle.tree.specs.Blocks.{blocks_of, used_in, nodes_of}

-- 01, The tree: "Evaluations lie strictly inside plus and minus (INF - MAX_PLY)."
unfoldable pub eval_right : ℤ → ℕ → ℤ → Bool
eval_right inf maxPly e = int_lt (neg_ℤ (inf -ℤ pos maxPly)) e && int_lt e (inf -ℤ pos maxPly)

-- the second test holds exactly where the first does
abbrev pub only : Bool → Bool → Bool
only true b = b
only false b = not b

-- 01, The tree: "The root's move is 0, every other is not"
unfoldable pub move_right : List ℕ → ℕ → Bool
move_right t k = only (k == 0) (move_of t k == 0)

-- child i of the children that begin at `first` has another move than child j
unfoldable pub differ : List ℕ → ℕ → ℕ → ℕ → Bool
differ t first i j = not (move_of t (first + j) == move_of t (first + i))

-- child i has another move than each child before it
unfoldable pub apart : List ℕ → ℕ → ℕ → Bool
apart t first i = all_below (differ t first i) i

-- 01, The tree: "siblings differ"
unfoldable pub siblings_right : List ℕ → ℕ → Bool
siblings_right t k = all_below (apart t (first_of t k)) (count_of t k)

-- 01, The tree: "5 to 7 zero", and the rules above
unfoldable pub fields_ok : ℤ → ℕ → List ℕ → ℕ → Bool
fields_ok inf maxPly t k =
    nat_lt (flags_of t k) 32
    && eval_right inf maxPly (eval_of t k)
    && move_right t k
    && siblings_right t k

-- the byte i places behind the last used record of the last block is zero
unfoldable pub unused_zero : List ℕ → ℕ → Bool
unused_zero t i = slice_index t (512 * (blocks_of t - 1) + 16 * used_in t (blocks_of t - 1) + i) == 0

-- 01, The tree: "Unused records are zero."
unfoldable pub unused_right : List ℕ → Bool
unused_right t = all_below (unused_zero t) (496 - 16 * used_in t (blocks_of t - 1))

-- row 4: "flags, evaluation, move, sibling or unused-record rule broken", of no node and no unused record
unfoldable pub fields_right : ℤ → ℕ → List ℕ → Bool
fields_right inf maxPly t = all_below (fields_ok inf maxPly t) (nodes_of t) && unused_right t

-- Rows 1 and 2 of the refusals: the tree's length and its blocks. Assumes nothing.
use Rattle.std.specs.Prelude.{◌≡◌, ℕ, zero, suc, ◌+◌, ◌-◌, ◌*◌, ◌/◌, ◌%◌, ◌^◌, Bool, true, ◌&&◌, List, length, ◌==◌, nat_le}
use Rattle.tree.specs.Pick.{pick, all_below}
use Rattle.record.specs.Bytes.{le}

abbrev pub blocks_of : List ℕ → ℕ
blocks_of t = length t / 512

-- 01, The tree: "One to 128 blocks of 512 bytes."
unfoldable pub length_right : List ℕ → Bool
length_right t = length t % 512 == 0 && nat_le 1 (blocks_of t) && nat_le (blocks_of t) 128

-- 01, The tree: "it is rotated left one bit, then the word is added modulo 2^32"
abbrev pub turn_of : ℕ → ℕ → ℕ
turn_of c w = (c * 2 % 2 ^ 32 + c / 2 ^ 31 + w) % 2 ^ 32

-- 01, The tree: "The check starts at 0; for each of the first 127 32-bit words .." : after the first k words of the block that begins at `at`
unfoldable pub check_to : List ℕ → ℕ → ℕ → ℕ
check_to t at zero = 0
check_to t at (suc k) = turn_of (check_to t at k) (le t (at + 4 * k) 4)

abbrev pub used_in : List ℕ → ℕ → ℕ
used_in t b = le t (512 * b + 502) 2

-- 01, The tree: "502..503 the records used, 31 in all but the last block, 1 to 31 there"
unfoldable pub used_right : List ℕ → ℕ → Bool
used_right t b = nat_le (pick (b + 1 == blocks_of t) 1 31) (used_in t b) && nat_le (used_in t b) 31

-- 01, The tree: "496..499 the ASCII bytes `gtre`; 500..501 the block's number from 0; .. 504..507 zero; 508..511 the check"
unfoldable pub block_right : List ℕ → ℕ → Bool
block_right t b =
    (le t (512 * b + 496) 4 == 0x65727467)
    && le t (512 * b + 500) 2 == b
    && used_right t b
    && le t (512 * b + 504) 4 == 0
    && le t (512 * b + 508) 4 == check_to t (512 * b) 127

-- row 2: "mark, block number, used count, zero bytes or check wrong", of no block
unfoldable pub blocks_right : List ℕ → Bool
blocks_right t = all_below (block_right t) (blocks_of t)

-- how many nodes the tree has: 31 in all but the last block
unfoldable pub nodes_of : List ℕ → ℕ
nodes_of t = 31 * (blocks_of t - 1) + used_in t (blocks_of t - 1)

-- rows 1 and 2 are not given: what the readers of nodes ask of a tree
pub record Blocked (t : List ℕ) : Type 0 where
  pub length_right_lem : length_right t ≡ true
  pub blocks_right_lem : blocks_right t ≡ true

-- A node's record and its fields. Assumes nothing.
use Rattle.std.specs.Prelude.{Bool, List, ℕ, ◌+◌, ◌*◌, ◌/◌, ◌%◌, ◌^◌, eqb, get_or, ℤ}
use Rattle.std.specs.Int.{w16}
use Rattle.score.specs.Bits.{signed_of}
use Rattle.record.specs.Bytes.{le, part}

-- 01, The tree: "Bytes 0..495 hold 31 records of 16 bytes". Where node k's record begins.
unfoldable pub record_at : ℕ → ℕ
record_at k = 512 * (k / 31) + 16 * (k % 31)

-- 01, The tree: "A node's 16 bytes, once the tree is accepted, are handed back as that part of the lent tree"
abbrev pub record_of : List ℕ → ℕ → List ℕ
record_of t k = part t (record_at k) 16

-- 01, The tree: "Record: 0..1 first child, 2 child count 0 to 63, 3 flags, 4..5 evaluation (signed, for the side to move), 6..7 move, 8..15 hash."
unfoldable pub first_of : List ℕ → ℕ → ℕ
first_of t k = le t (record_at k + 0) 2

unfoldable pub count_of : List ℕ → ℕ → ℕ
count_of t k = get_or t (record_at k + 2) 0

unfoldable pub flags_of : List ℕ → ℕ → ℕ
flags_of t k = get_or t (record_at k + 3) 0

unfoldable pub eval_of : List ℕ → ℕ → ℤ
eval_of t k = signed_of w16 (le t (record_at k + 4) 2)

unfoldable pub move_of : List ℕ → ℕ → ℕ
move_of t k = le t (record_at k + 6) 2

unfoldable pub hash_of : List ℕ → ℕ → ℕ
hash_of t k = le t (record_at k + 8) 8

-- whether bit i of a byte is set
abbrev pub bit_set : ℕ → ℕ → Bool
bit_set i b = eqb (b / 2 ^ i % 2) 1

-- 01, The tree: "Flags: bit 0 side to move in check, 1 the move leading here was quiet, 2 pawn ending, 3 draw, 4 improving, 5 to 7 zero."
unfoldable pub in_check : List ℕ → ℕ → Bool
in_check t k = bit_set 0 (flags_of t k)

unfoldable pub is_quiet : List ℕ → ℕ → Bool
is_quiet t k = bit_set 1 (flags_of t k)

unfoldable pub is_pawn_ending : List ℕ → ℕ → Bool
is_pawn_ending t k = bit_set 2 (flags_of t k)

unfoldable pub is_draw : List ℕ → ℕ → Bool
is_draw t k = bit_set 3 (flags_of t k)

unfoldable pub is_improving : List ℕ → ℕ → Bool
is_improving t k = bit_set 4 (flags_of t k)

-- Little-endian numbers of a list of bytes, and its parts. Assumes nothing.
use Rattle.std.specs.Prelude.{List, ℕ, zero, suc, ◌+◌, ◌*◌, ◌^◌, get_or, take, drop}

-- 01, The tree: "Numbers are little-endian." The number in the n bytes from `at`.
unfoldable pub le : List ℕ → ℕ → ℕ → ℕ
le s at zero = 0
le s at (suc n) = le s at n + get_or s (at + n) 0 * 256 ^ n

-- the n bytes from `at`
abbrev pub part : List ℕ → ℕ → ℕ → List ℕ
part s at n = take n (drop at s)

-- FNV-1a, 64 bits, over little-endian bytes. Assumes nothing.
use Rattle.std.specs.Prelude.{ℕ, zero, suc, ◌*◌, ◌/◌, ◌%◌, ◌^◌, List, ℤ, bit_xor, fold}
use Rattle.std.specs.Int.{w16}
use Rattle.score.specs.Bits.{bits_of}

-- the offset basis and the prime
abbrev pub basis : ℕ
basis = 14695981039346656037

abbrev pub prime : ℕ
prime = 1099511628211

-- a sum after one more byte
unfoldable pub byte_into : ℕ → ℕ → ℕ
byte_into sum byte = bit_xor sum byte * prime % 2 ^ 64

-- after the n low bytes of x, the lowest first
unfoldable pub bytes_into : ℕ → ℕ → ℕ → ℕ
bytes_into sum x zero = sum
bytes_into sum x (suc n) = bytes_into (byte_into sum (x % 256)) (x / 256) n

-- over numbers of n bytes each, from their bits
unfoldable pub sum_of : {X : Type 0} → (X → ℕ) → ℕ → List X → ℕ
sum_of bits n items = fold (λ sum x. bytes_into sum (bits x) n) basis items

abbrev pub of_words : List ℕ → ℕ
of_words words = sum_of (λ x. x) 8 words

abbrev pub of_entries : List ℤ → ℕ
of_entries entries = sum_of (λ x. bits_of w16 x) 2 entries

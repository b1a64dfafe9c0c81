-- An entry's two words: the data word, which holds each field at its place and width, and the hash word. Assumes nothing.
use Rattle.std.specs.Prelude.{cond, ℕ, ◌+◌, ◌*◌, ◌/◌, ◌%◌, ◌^◌, eqb}
use Rattle.std.specs.Int.Bits.{bit_xor}
use Rattle.std.specs.Int.{w8, w16}
use Rattle.score.specs.Bits.{bits_of, signed_of}
use Rattle.transposition.specs.declared.Bound.{Bound}
use Rattle.transposition.specs.declared.Bound.TheVariants.{Exact, Lower, Upper}
use Rattle.transposition.specs.declared.Entry.{Entry}

-- 01, Entry and table: "Bounds: Exact 0, Lower 1, Upper 2"
abbrev pub bound_byte : Bound → ℕ
bound_byte Exact = 0
bound_byte Lower = 1
bound_byte Upper = 2

-- 01, Entry and table: "any other byte reads Exact"
unfoldable pub bound_of : ℕ → Bound
bound_of byte = cond (eqb byte 1) Lower (cond (eqb byte 2) Upper Exact)

-- 01, Entry and table: "Data word: age bits 8..15, bound 16..23, depth 24..31, score 32..47, move 48..63, low byte 0."
unfoldable pub data_word : Entry → ℕ
data_word e =
    e.age * 2 ^ 8 + bound_byte e.bound * 2 ^ 16 + bits_of w8 e.depth * 2 ^ 24 + bits_of w16 e.score * 2 ^ 32
    + e.mv * 2 ^ 48

-- what stands in w bits from bit k on
abbrev pub field : ℕ → ℕ → ℕ → ℕ
field k w word = word / 2 ^ k % 2 ^ w

-- the same places, and 01, Entry and table: "Depth and score read back signed."
unfoldable pub entry_of : ℕ → Entry
entry_of word =
    record {
      age = field 8 8 word;
      bound = bound_of (field 16 8 word);
      depth = signed_of w8 (field 24 8 word);
      score = signed_of w16 (field 32 16 word);
      mv = field 48 16 word;
    }

-- 01, Entry and table: "Hash word is hash XOR data."
abbrev pub hash_word : ℕ → ℕ → ℕ
hash_word hash word = bit_xor hash word

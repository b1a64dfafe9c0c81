-- The fields of a request's bytes: a byte, and signed numbers. Assumes nothing.
use Rattle.std.specs.Prelude.{List, ℕ, ℤ, get_or}
use Rattle.std.specs.Int.{w8, w16}
use Rattle.score.specs.Bits.{signed_of}
use Rattle.record.specs.Bytes.{le}

abbrev pub byte_at : List ℕ → ℕ → ℕ
byte_at s at = get_or s at 0

-- a signed field of two bytes, of one
abbrev pub signed16_at : List ℕ → ℕ → ℤ
signed16_at s at = signed_of w16 (le s at 2)

abbrev pub signed8_at : List ℕ → ℕ → ℤ
signed8_at s at = signed_of w8 (byte_at s at)

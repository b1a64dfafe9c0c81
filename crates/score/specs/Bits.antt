-- Two's complement: the bits of a signed number, and the signed number that bits hold. Assumes nothing.
use Rattle.std.specs.Prelude.{ℕ, ℤ}
use Rattle.std.specs.Int.{Width}
use Rattle.std.proofs.Common.{to_z, of_z}

-- the bits of z at a width, as a number: -1 is all ones
abbrev pub bits_of : Width → ℤ → ℕ
bits_of w z = of_z w z

-- 01, Entry and table: "Depth and score read back signed."
abbrev pub signed_of : Width → ℕ → ℤ
signed_of w n = to_z w n
